-- The clause of each public function: of what is handed in, and the answer with the lent list at exit. What `forms`,
-- the table of the rule's forms, must hold is kept by its type (`Plans.antt`, `HoldsForms`; `src/rule.rt`, `Tabled`).
use Rattle.std.specs.Prelude.{◌≡◌, Bool, List, [], ℕ, ◌≤◌, min}
use Rattle.ground.specs.Bits.{bit}
use Rattle.meaning.specs.Rule.{count, parameters}
use Rattle.meaning.specs.Words.{start, value_if_last}
use Rattle.rewriting.specs.declared.kind.Kind.{Kind}
use Rattle.rewriting.specs.declared.step.Interval.{Interval}
use Rattle.rewriting.specs.declared.step.Record.{Record}
use Rattle.rewriting.specs.declared.step.Plan.{Plan}
use Rattle.rewriting.specs.declared.step.Moment.{Moment}
use Rattle.rewriting.specs.Decode.{kind_of, byte_of, endless, record_in, node_for, rule_in}
use Rattle.rewriting.specs.Known.{past_in, area_of}
use Rattle.rewriting.specs.Plans.{table_with, rule_for, entry_for, read_in, left_with, fed_with, closed_with}
use Rattle.rewriting.specs.Shape.{bits_above, not_zero_from, wrong_rows}

-- the kind that a byte is
abbrev pub KindClause : (byte : ℕ) → Kind → Type 0
KindClause byte o = o ≡ kind_of byte

-- byte i of record k
abbrev pub ByteOfClause : (list : List ℕ) (k i : ℕ) → ℕ → Type 0
ByteOfClause list k i o = o ≡ byte_of list k i

-- record k
abbrev pub RecordAtClause : (list : List ℕ) (k : ℕ) → Record → Type 0
RecordAtClause list k o = o ≡ record_in list k

-- whether an interval has no upper end
abbrev pub EndlessClause : Interval → Bool → Type 0
EndlessClause v o = o ≡ endless v.kind v.high

-- how many parameters a record has
abbrev pub CountOfClause : Record → ℕ → Type 0
CountOfClause d o = (o ≡ count (node_for d)) × (o ≤ 256)

-- how many parameters the first n records have; of more than 64 the first 64 count
abbrev pub ParametersInClause : (list : List ℕ) (n : ℕ) → ℕ → Type 0
ParametersInClause list n o = o ≡ parameters (rule_in list (min n 64))

-- whether signal s holds
abbrev pub SignalClause : (signals s : ℕ) → Bool → Type 0
SignalClause signals s o = o ≡ bit signals s

-- the table with the records' forms
abbrev pub FormsOfClause : (list : List ℕ) (records m : ℕ) (table : List ℕ) → List ℕ → Type 0
FormsOfClause list records m table o = o ≡ table_with list records m table

-- the area after the first record of the log
abbrev pub FirstClause : (list : List ℕ) → Plan → (new : Moment) (forms ws : List ℕ) → List ℕ → Type 0
FirstClause list plan new forms ws o = o ≡ left_with list plan new ws

-- the area after a later one
abbrev pub FeedClause : (list : List ℕ) → Plan → (last new : Moment) (forms ws : List ℕ) → List ℕ → Type 0
FeedClause list plan last new forms ws o = o ≡ fed_with list plan last new ws

-- the value were this the last record
abbrev pub ValueIfLastClause : (list : List ℕ) → Plan → (last : Moment) (forms ws : List ℕ) → Bool → Type 0
ValueIfLastClause list plan last forms ws o = o ≡ value_if_last plan.m (rule_for list plan) (read_in plan ws last)

-- the area after closing with a value
abbrev pub CloseClause : Plan → (b : Bool) (ws : List ℕ) → List ℕ → Type 0
CloseClause plan b ws o = o ≡ closed_with plan b ws

-- the area at start
abbrev pub BeginClause : (list : List ℕ) → Plan → (forms ws : List ℕ) → List ℕ → Type 0
BeginClause list plan forms ws o = o ≡ area_of plan.places plan.m [] (start plan.m (rule_for list plan))

-- whether a past row or the remainder has a bit at or above 2^m
abbrev pub BitsAboveClause : (places m : ℕ) (ws : List ℕ) → Bool → Type 0
BitsAboveClause places m ws o = o ≡ bits_above places m ws

-- whether a past row from some place on is not zero
abbrev pub NotZeroFromClause : (places from : ℕ) (ws : List ℕ) → Bool → Type 0
NotZeroFromClause places from ws o = o ≡ not_zero_from places from ws

-- whether a past row is not what it must be after the last record
abbrev pub WrongRowsClause : (list : List ℕ) → Plan → (last : Moment) (ws : List ℕ) → Bool → Type 0
WrongRowsClause list plan last ws o =
    o ≡ wrong_rows (rule_for list plan) plan.m (entry_for last) (past_in plan.m ws)
