-- What the loops over a rule's records say.
use Rattle.std.specs.Prelude.{◌≡◌, List, Option, ℕ, ◌+◌, ◌≤◌}
use Rattle.std.proofs.Common.{lit<}
use Rattle.forms.specs.Form.{Form}
use Rattle.forms.specs.Words.{pack}
use Rattle.forms.specs.Area.{put_rows, Holds}
use Rattle.forms.specs.declared.area.Rows.{Rows}
use Rattle.meaning.specs.Rule.{Node, Entry}
use Rattle.meaning.specs.Rewriting.{derived_rows, past_rows}
use Rattle.meaning.specs.Rewriting as rewriting
use Rattle.rewriting.specs.Decode.{node_for}
use Rattle.rewriting.specs.Plans.{form_row, rule_for, entry_for}
use Rattle.rewriting.specs.inside.Steps.{neighbour_of, own_at, other_at, Kept, Are, made_of}
use Rattle.rewriting.specs.declared.row.Row.{Row}
use Rattle.rewriting.specs.declared.row.Row.TheVariants.{Derived, Past}
use Rattle.rewriting.specs.declared.step.Record.{Record}
use Rattle.rewriting.specs.declared.step.Step.{Step}
use Rattle.rewriting.specs.declared.step.Plan.{Plan}
use Rattle.rewriting.specs.declared.step.Moment.{Moment}

-- a record of the rule, whose parameters begin at first, at a record of the log, with shift 0
abbrev pub step_in : Record → (first m : ℕ) → Moment → Option ℕ → m ≤ 12 → first ≤ 12 → Step
step_in d first m here near few within =
    record {
      «record» = d;
      first = first;
      shift = 0;
      m = m;
      here = here.time;
      signals = here.signals;
      neighbour = near;
      few = few;
      within = within;
      byte = lit< tt;
    }

-- the record's own places and the others lie apart, and no sum of them wraps
pub record Apart (step : Step) (count scratch held : ℕ) : Type 0 where
  pub before : held ≤ scratch
  pub behind : step.first + count ≤ scratch
  pub low : scratch ≤ 64

-- the answer is the area with the rows of the record's first shifts
unfoldable pub made_row : Row → (step : Step) → (own other forms : List (Form step.m)) → ℕ → List ℕ
made_row row step own other forms n = pack step.m (made_of row step own other forms (node_for step.record) n)

abbrev pub Puts : Row → Step → ℕ → Rows → List ℕ → (scratch held : ℕ) → List ℕ → Type 0
Puts row step count before ws scratch held r =
    (own other forms : List (Form step.m)) → Kept row step.m ws scratch held step.first own other
    → Are step.m before forms
    → r ≡ put_rows ws (own_at row scratch + step.first) count (made_row row step own other forms)

-- the rows of a rule's first k records at a record of the log, from the others
unfoldable pub table_of : Row → (m : ℕ) → List Node → (other : List (Form m)) → Entry → (near : rewriting.Neighbour)
    → ℕ → List (Form m)
table_of Derived m rule other e near k = derived_rows m rule other e near k
table_of Past m rule other e near k = past_rows m rule other e near k

abbrev pub rows_for : Row → (list : List ℕ) (plan : Plan) → Moment → Option ℕ → (other : List (Form plan.m))
    → List (Form plan.m)
rows_for row list plan here near other =
    table_of row plan.m (rule_for list plan) other (entry_for here) (neighbour_of near) plan.records

-- the answer is the area with the rows of all records
abbrev pub Walked : Row → List ℕ → Plan → Moment → Option ℕ → (held : ℕ) → List ℕ → List ℕ → Type 0
Walked row list plan here near held ws r =
    (other : List (Form plan.m)) → Holds plan.m ws (other_at row (plan.places + 1)) held other
    → r ≡ put_rows ws (own_at row (plan.places + 1)) plan.m
    (form_row plan.m (rows_for row list plan here near other))
