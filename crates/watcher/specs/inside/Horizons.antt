-- What the functions of the horizon say. Nobody outside has to believe it.
use Rattle.std.specs.Prelude.{◌≡◌, List, ℕ, ◌*◌, ◌≤◌, get_or, Option, None, IfSome}
use Rattle.meaning.specs.Horizon.{Horizon, never, horizon_of}
use Rattle.rewriting.specs.declared.step.Record.{Record}
use Rattle.rewriting.specs.Decode.{node_for}
use Rattle.watcher.specs.Numbers.{horizon_for}

-- the minutes are those of the horizons, and none behind them
abbrev pub Told : List (Option ℕ) → List Horizon → Type 0
Told minutes horizons = (j : ℕ) → horizon_for (get_or minutes j None) ≡ get_or horizons j never

-- at most n minutes, where there is a limit
abbrev pub UpTo : ℕ → Option ℕ → Type 0
UpTo n a = IfSome a (λ h. h ≤ n)

-- no horizon with a limit is above 256 for each of k records
abbrev pub Small : List (Option ℕ) → ℕ → Type 0
Small minutes k = (j : ℕ) → UpTo (256 * k) (get_or minutes j None)

-- the answer is a record's horizon, from those of the records before it
abbrev pub OfRecord : Record → List (Option ℕ) → Option ℕ → Type 0
OfRecord d minutes r =
    (earlier : List Horizon) → Told minutes earlier → horizon_for r ≡ horizon_of earlier (node_for d)
