-- The clause of each public function, `specs/Clauses.antt`, leaves room for one outcome only.
-- Assumes nothing.
use mathlib.Core.Path.{◌≡◌}
use mathlib.Core.Bool.{Bool}
use mathlib.Core.List.{List}
use Prim.Native.Nat.{ℕ}
use Rattle.ground.proofs.OnlyOne.{only_one}
use Rattle.rewriting.specs.declared.kind.Kind.{Kind}
use Rattle.rewriting.specs.declared.step.Interval.{Interval}
use Rattle.rewriting.specs.declared.step.Record.{Record}
use Rattle.rewriting.specs.declared.step.Plan.{Plan}
use Rattle.rewriting.specs.declared.step.Moment.{Moment}
use Rattle.rewriting.specs.Clauses.{KindClause, ByteOfClause, RecordAtClause, EndlessClause, CountOfClause}
use Rattle.rewriting.specs.Clauses.{ParametersInClause, SignalClause, FormsOfClause, FirstClause, FeedClause}
use Rattle.rewriting.specs.Clauses.{ValueIfLastClause, CloseClause, BeginClause}
use Rattle.rewriting.specs.Clauses.{BitsAboveClause, NotZeroFromClause, WrongRowsClause}

-- the kind that a byte is
pub only_kind : (byte : ℕ) (o o' : Kind) → KindClause byte o → KindClause byte o' → o ≡ o'
only_kind byte = only_one _

-- what is read of a rule list
module _ (list : List ℕ) (k : ℕ) where
  pub only_byte_of : (i o o' : ℕ) → ByteOfClause list k i o → ByteOfClause list k i o' → o ≡ o'
  only_byte_of i = only_one _

  pub only_parameters_in : (o o' : ℕ) → ParametersInClause list k o → ParametersInClause list k o' → o ≡ o'
  only_parameters_in = only_one _

  pub only_record_at : (o o' : Record) → RecordAtClause list k o → RecordAtClause list k o' → o ≡ o'
  only_record_at = only_one _

-- of an interval and of a record
pub only_endless : (v : Interval) (o o' : Bool) → EndlessClause v o → EndlessClause v o' → o ≡ o'
only_endless v = only_one _

pub only_count_of : (d : Record) (o o' : ℕ) → CountOfClause d o → CountOfClause d o' → o ≡ o'
only_count_of d o o' a b = only_one _ o o' a.0 b.0

-- whether a signal holds
pub only_signal : (signals s : ℕ) (o o' : Bool) → SignalClause signals s o → SignalClause signals s o' → o ≡ o'
only_signal signals s = only_one _

-- the table, and the whole area
pub only_forms_of : (list : List ℕ) (records m : ℕ) (table o o' : List ℕ) → FormsOfClause list records m table o
    → FormsOfClause list records m table o' → o ≡ o'
only_forms_of list records m table = only_one _

module _ (list : List ℕ) (plan : Plan) (forms ws : List ℕ) where
  pub only_first : (new : Moment) (o o' : List ℕ) → FirstClause list plan new forms ws o
      → FirstClause list plan new forms ws o' → o ≡ o'
  only_first new = only_one _

  pub only_feed : (last new : Moment) (o o' : List ℕ) → FeedClause list plan last new forms ws o
      → FeedClause list plan last new forms ws o' → o ≡ o'
  only_feed last new = only_one _

  pub only_value_if_last : (last : Moment) (o o' : Bool) → ValueIfLastClause list plan last forms ws o
      → ValueIfLastClause list plan last forms ws o' → o ≡ o'
  only_value_if_last last = only_one _

  pub only_begin : (o o' : List ℕ) → BeginClause list plan forms ws o → BeginClause list plan forms ws o' → o ≡ o'
  only_begin = only_one _

pub only_close : (plan : Plan) (b : Bool) (ws o o' : List ℕ) → CloseClause plan b ws o → CloseClause plan b ws o'
    → o ≡ o'
only_close plan b ws = only_one _

-- whether rows are wrong
module _ (places k : ℕ) (ws : List ℕ) where
  pub only_bits_above : (o o' : Bool) → BitsAboveClause places k ws o → BitsAboveClause places k ws o' → o ≡ o'
  only_bits_above = only_one _

  pub only_not_zero_from : (o o' : Bool) → NotZeroFromClause places k ws o → NotZeroFromClause places k ws o' → o ≡ o'
  only_not_zero_from = only_one _

pub only_wrong_rows : (list : List ℕ) (plan : Plan) (last : Moment) (ws : List ℕ) (o o' : Bool)
    → WrongRowsClause list plan last ws o → WrongRowsClause list plan last ws o' → o ≡ o'
only_wrong_rows list plan last ws = only_one _
