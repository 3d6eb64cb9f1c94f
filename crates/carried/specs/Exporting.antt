-- Functions with the types of the exports: what it is to meet their clauses, on everything that a machine can lend.
use Rattle.std.specs.Prelude.{List, ℕ, ◌^◌, ◌<◌}
use Rattle.watcher.specs.Machine.{MachineBytes, MachineWords}
use Rattle.port.specs.Clauses.{StartClause, WouldRefuseClause, FeedClause, AskClause, CloseClause, HorizonClause}
use Rattle.port.specs.Clauses.{TestClause, RunClause}

-- the code, and the lent lists afterwards: the state's bytes and the work area; in a run, the work area and the codes
pub record Exports : Type 0 where
  pub start : (rule signals bytes ws : List ℕ) → ℕ × List ℕ × List ℕ
  pub refuses : (bytes piece ws : List ℕ) → ℕ
  pub feed : (bytes piece ws : List ℕ) → ℕ × List ℕ × List ℕ
  pub ask : (bytes ws : List ℕ) → ℕ × List ℕ × List ℕ
  pub close : (bytes ws : List ℕ) → ℕ × List ℕ × List ℕ
  pub horizon : (bytes : List ℕ) → ℕ
  pub test : (signals : List ℕ) (number : ℕ) (piece : List ℕ) → ℕ
  pub run : (rule signals log ws codes : List ℕ) → ℕ × List ℕ × List ℕ

-- they meet the clauses of the exports in `crates/port_c/src`
pub record MeetsExports (f : Exports) : Type 0 where
  pub starts : (rule signals bytes ws : List ℕ) → MachineBytes rule → MachineBytes signals → MachineBytes bytes
      → MachineWords ws → StartClause rule signals bytes ws (f.start rule signals bytes ws)
  pub refusing : (bytes piece ws : List ℕ) → MachineBytes bytes → MachineBytes piece → MachineWords ws
      → WouldRefuseClause bytes piece ws (f.refuses bytes piece ws)
  pub feeds : (bytes piece ws : List ℕ) → MachineBytes bytes → MachineBytes piece → MachineWords ws
      → FeedClause bytes piece ws (f.feed bytes piece ws)
  pub asks : (bytes ws : List ℕ) → MachineBytes bytes → MachineWords ws → AskClause bytes ws (f.ask bytes ws)
  pub closes : (bytes ws : List ℕ) → MachineBytes bytes → MachineWords ws → CloseClause bytes ws (f.close bytes ws)
  pub waits : (bytes : List ℕ) → MachineBytes bytes → HorizonClause bytes (f.horizon bytes)
  pub tests : (signals : List ℕ) (number : ℕ) (piece : List ℕ) → MachineBytes signals → number < 2 ^ 64
      → MachineBytes piece → TestClause signals number piece (f.test signals number piece)
  pub runs : (rule signals log ws codes : List ℕ) → MachineBytes rule → MachineBytes signals → MachineBytes log
      → MachineWords ws → MachineBytes codes → RunClause rule signals log ws codes (f.run rule signals log ws codes)
