-- The clause of each export, `specs/Clauses.antt`, leaves room for one outcome only.
-- Assumes nothing.
use mathlib.Core.Path.{◌≡◌}
use mathlib.Core.List.{List}
use Prim.Native.Nat.{ℕ}
use Rattle.ground.proofs.OnlyOne.{only_one}
use Rattle.port.specs.Clauses.{StartClause, WouldRefuseClause, FeedClause, AskClause, CloseClause}
use Rattle.port.specs.Clauses.{HorizonClause, TestClause, RunClause}

pub only_start : (rule signals bytes ws : List ℕ) (o o' : ℕ × List ℕ × List ℕ) → StartClause rule signals bytes ws o
    → StartClause rule signals bytes ws o' → o ≡ o'
only_start rule signals bytes ws = only_one _

pub only_would_refuse : (bytes piece ws : List ℕ) (o o' : ℕ) → WouldRefuseClause bytes piece ws o
    → WouldRefuseClause bytes piece ws o' → o ≡ o'
only_would_refuse bytes piece ws = only_one _

pub only_feed : (bytes piece ws : List ℕ) (o o' : ℕ × List ℕ × List ℕ) → FeedClause bytes piece ws o
    → FeedClause bytes piece ws o' → o ≡ o'
only_feed bytes piece ws = only_one _

pub only_ask : (bytes ws : List ℕ) (o o' : ℕ × List ℕ × List ℕ) → AskClause bytes ws o → AskClause bytes ws o'
    → o ≡ o'
only_ask bytes ws = only_one _

pub only_close : (bytes ws : List ℕ) (o o' : ℕ × List ℕ × List ℕ) → CloseClause bytes ws o → CloseClause bytes ws o'
    → o ≡ o'
only_close bytes ws = only_one _

pub only_horizon : (bytes : List ℕ) (o o' : ℕ) → HorizonClause bytes o → HorizonClause bytes o' → o ≡ o'
only_horizon bytes = only_one _

pub only_test : (signals : List ℕ) (number : ℕ) (piece : List ℕ) (o o' : ℕ) → TestClause signals number piece o
    → TestClause signals number piece o' → o ≡ o'
only_test signals number piece = only_one _

pub only_run : (rule signals log ws codes : List ℕ) (o o' : ℕ × List ℕ × List ℕ)
    → RunClause rule signals log ws codes o → RunClause rule signals log ws codes o' → o ≡ o'
only_run rule signals log ws codes = only_one _
