-- What the functions inside the crate say. Nobody outside has to believe it.
use Rattle.std.specs.Prelude.{◌≡◌, Bool, false, List, Option, None, Some, ℕ, ◌<◌}
use Rattle.forms.specs.Form.{Form, or}
use Rattle.forms.specs.Words.{pack}
use Rattle.forms.specs.Area.{form_in, Holds}
use Rattle.forms.specs.declared.area.Rows.{Rows}
use Rattle.meaning.specs.Interval as interval
use Rattle.meaning.specs.Rule.{Node, Entry}
use Rattle.meaning.specs.Rewriting.{put, only_if, form_of, next_row, until_later, derived_row}
use Rattle.meaning.specs.Rewriting.{previous_row, since_earlier, past_row}
use Rattle.meaning.specs.Rewriting as rewriting
use Rattle.rewriting.specs.Decode.{interval_for, node_for}
use Rattle.rewriting.specs.declared.row.Row.{Row}
use Rattle.rewriting.specs.declared.row.Row.TheVariants.{Derived, Past}
use Rattle.rewriting.specs.declared.step.Record.{Record}
use Rattle.rewriting.specs.declared.step.Step.{Step}

-- the interval and the record of the log that a step has
abbrev pub interval_in : Step → interval.Interval
interval_in step = interval_for step.record.interval

unfoldable pub entry_in : Step → Entry
entry_in step = record { time = step.here; signals = step.signals }

-- whether the record beside is there, and in the interval from here
abbrev pub in_interval : interval.Interval → (here : ℕ) → Option ℕ → Bool
in_interval v here None = false
in_interval v here (Some other) = interval.inside v here other

abbrev pub sees_neighbour : Step → Bool
sees_neighbour step = in_interval (interval_in step) step.here step.neighbour

-- whether the record here is in its own interval
abbrev pub sees_itself : Step → Bool
sees_itself step = interval.inside (interval.shifted (interval_in step) step.shift) step.here step.here

-- what the gap to the record beside makes of the shift: it is gone where there is none
abbrev pub moved_by : interval.Interval → (shift here : ℕ) → Option ℕ → interval.Moved
moved_by v shift here None = interval.gone
moved_by v shift here (Some other) = interval.moved v shift here other

abbrev pub moved_in : Step → interval.Moved
moved_in step = moved_by (interval_in step) step.shift step.here step.neighbour

-- the step at another shift
abbrev pub at_shift : Step → (n : ℕ) → n < 256 → Step
at_shift step n byte =
    record {
      «record» = step.record;
      first = step.first;
      shift = n;
      m = step.m;
      here = step.here;
      signals = step.signals;
      neighbour = step.neighbour;
      few = step.few;
      within = step.within;
      byte = byte;
    }

-- the moved shift that an answer is
abbrev pub moved_of : Option ℕ → interval.Moved
moved_of None = interval.gone
moved_of (Some n) = interval.to n

-- a shift that is not gone is a byte
abbrev pub Near : Option ℕ → Type 0
Near None = Unit {0}
Near (Some n) = n < 256

-- the neighbour that a step has
abbrev pub neighbour_of : Option ℕ → rewriting.Neighbour
neighbour_of None = rewriting.none
neighbour_of (Some time) = rewriting.at time

-- the rows that are handed in are those of the forms
abbrev pub Are : (m : ℕ) → Rows → List (Form m) → Type 0
Are m rows forms = Holds m rows.area.now rows.base rows.count forms

-- the answer is the record's form, from the forms of the records before it
abbrev pub OfRecord : Record → ℕ → (m : ℕ) → Rows → List ℕ → Type 0
OfRecord d first m before r =
    (forms : List (Form m)) → Are m before forms → r ≡ pack m (form_of m forms first (node_for d))

-- where the rows that are made stand, and where the others do: past rows from 0 on, derived rows in the scratch
abbrev pub own_at : Row → (scratch : ℕ) → ℕ
own_at Derived scratch = scratch
own_at Past scratch = 0

abbrev pub other_at : Row → (scratch : ℕ) → ℕ
other_at Derived scratch = 0
other_at Past scratch = scratch

-- the area holds such rows of the records before first, and so many of the others
pub record Kept (row : Row) (m : ℕ) (ws : List ℕ) (scratch held first : ℕ) (own other : List (Form m)) : Type 0 where
  pub mine : Holds m ws (own_at row scratch) first own
  pub theirs : Holds m ws (other_at row scratch) held other

-- the row of a record's shift n, from such rows, the others, and the forms of the records before
unfoldable pub row_by : Row → (m : ℕ) → (own other forms : List (Form m)) → Entry → rewriting.Neighbour → (first : ℕ)
    → Node → ℕ → Form m
row_by Derived m own other forms e near first d n = derived_row m other forms own e near first d n
row_by Past m own other forms e near first d n = past_row m forms other own e near first d n

-- with what a step has, of a record in the place of its own
unfoldable pub made_of : Row → (step : Step) → (own other forms : List (Form step.m)) → Node → ℕ → Form step.m
made_of row step own other forms d n =
    row_by row step.m own other forms (entry_in step) (neighbour_of step.neighbour) step.first d n

-- the answer is the step's row, from the forms of the records before, such rows, and the others
abbrev pub OfMade : Row → Step → (before mine theirs : Rows) → List ℕ → Type 0
OfMade row step before mine theirs r =
    (own other forms : List (Form step.m)) → Are step.m mine own → Are step.m theirs other → Are step.m before forms
    → r ≡ pack step.m (made_of row step own other forms (node_for step.record) step.shift)

-- until or since, from right's form and the second part's
unfoldable pub now_or : (step : Step) (right second : Form step.m) (rows : List (Form step.m)) → Form step.m
now_or step right second rows =
    or step.m
    (only_if step.m (sees_itself step)
    (put step.m right rows))
    second

abbrev pub NowOr : Step → List ℕ → Rows → List ℕ → List ℕ → Type 0
NowOr step right given second r =
    (f g : Form step.m) (rows : List (Form step.m)) → right ≡ pack step.m f → second ≡ pack step.m g
    → Are step.m given rows → r ≡ pack step.m (now_or step f g rows)

-- the answer is next's derived row
abbrev pub OfNext : Step → Rows → List ℕ → Type 0
OfNext step before r =
    (m : ℕ) (forms : List (Form m)) → Are m before forms
    → r ≡ pack m (next_row m forms step.record.left (interval_in step) step.here (neighbour_of step.neighbour))

-- until's second part derived, with left's row
unfoldable pub later_of : (step : Step) → (forms derived : List (Form step.m)) → Form step.m
later_of step forms derived =
    until_later step.m forms derived step.first step.record.left (interval_in step) step.shift step.here
    (neighbour_of step.neighbour)

abbrev pub OfLater : Step → List ℕ → Rows → List ℕ → Type 0
OfLater step left mine r =
    (forms derived : List (Form step.m)) → left ≡ pack step.m (form_in step.m forms step.record.left)
    → Are step.m mine derived → r ≡ pack step.m (later_of step forms derived)

-- previous resolved, with left's row
unfoldable pub previous_of : (step : Step) → (forms derived past : List (Form step.m)) → Form step.m
previous_of step forms derived past =
    previous_row step.m forms derived past step.record.left (interval_in step) step.here
    (neighbour_of step.neighbour)

abbrev pub OfPrevious : Step → List ℕ → (mine theirs : Rows) → List ℕ → Type 0
OfPrevious step left mine theirs r =
    (forms derived past : List (Form step.m)) → left ≡ pack step.m (form_in step.m forms step.record.left)
    → Are step.m mine past → Are step.m theirs derived
    → r ≡ pack step.m (previous_of step forms derived past)

-- since's second part resolved, with left's row
unfoldable pub earlier_of : (step : Step) → (forms derived past : List (Form step.m)) → Form step.m
earlier_of step forms derived past =
    since_earlier step.m forms derived past step.first step.record.left (interval_in step) step.shift
    step.here (neighbour_of step.neighbour)

abbrev pub OfEarlier : Step → List ℕ → (mine theirs : Rows) → List ℕ → Type 0
OfEarlier step left mine theirs r =
    (forms derived past : List (Form step.m)) → left ≡ pack step.m (form_in step.m forms step.record.left)
    → Are step.m mine past → Are step.m theirs derived
    → r ≡ pack step.m (earlier_of step forms derived past)
