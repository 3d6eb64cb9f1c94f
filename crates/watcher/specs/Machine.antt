-- What a machine can hand in: slices of bytes and of words, and states whose numbers fit their types.
use Rattle.std.specs.Prelude.{◌≡◌, List, ℕ, ◌*◌, ◌^◌, ◌<◌, length, get_or}
use Rattle.watcher.specs.declared.state.Watcher.{Watcher}
use Rattle.watcher.specs.declared.state.Phase.{Phase}
use Rattle.watcher.specs.declared.state.Phase.TheVariants.{Fresh, Running, Closed}
use Rattle.watcher.specs.Limits.{list_bytes}

-- bytes: each is below 256, and no slice has 2^63 of them
pub record MachineBytes (bytes : List ℕ) : Type 0 where
  pub small : (i : ℕ) → get_or bytes i 0 < 256
  pub few : length bytes < 2 ^ 63

-- words of 8 bytes: each is below 2^64
pub record MachineWords (ws : List ℕ) : Type 0 where
  pub small : (i : ℕ) → get_or ws i 0 < 2 ^ 64
  pub few : length ws * 8 < 2 ^ 63

-- a running state's time has 32 bits, and its signals 16
unfoldable pub MachinePhase : Phase → Type 0
MachinePhase Fresh = Unit {0}
MachinePhase (Running time signals) = (time < 2 ^ 32) × (signals < 2 ^ 16)
MachinePhase (Closed v) = Unit {0}

-- a state's lists are arrays of 128 bytes, and its counts have 64 bits
pub record MachineState (w : Watcher) : Type 0 where
  pub long_rule : length w.rule ≡ list_bytes
  pub rule : MachineBytes w.rule
  pub long_list : length w.list ≡ list_bytes
  pub list : MachineBytes w.list
  pub records : w.records < 2 ^ 64
  pub signals : w.signals < 2 ^ 64
  pub phase : MachinePhase w.phase
