-- What the functions that end a log say. Nobody outside has to believe it.
use Rattle.std.specs.Prelude.{◌≡◌, Bool, List, None, ◌++◌, ℕ, length}
use Rattle.ground.specs.Fold.{tab}
use Rattle.ground.specs.Bits.{bit}
use Rattle.forms.specs.Form.{Form, constant}
use Rattle.forms.specs.Area.{form_in}
use Rattle.forms.specs.declared.area.Rows.{Rows}
use Rattle.meaning.specs.Rewriting.{none, derived_rows}
use Rattle.rewriting.specs.declared.row.Row.TheVariants.{Derived}
use Rattle.rewriting.specs.declared.step.Step.{Step}
use Rattle.rewriting.specs.declared.step.Plan.{Plan}
use Rattle.rewriting.specs.declared.step.Moment.{Moment}
use Rattle.rewriting.specs.Decode.{node_for}
use Rattle.rewriting.specs.Known.{past_in}
use Rattle.rewriting.specs.Plans.{rule_for, entry_for}
use Rattle.rewriting.specs.inside.Steps.{Are, made_of}

-- the rows are constants, and bit j of the setting is the one that row j is
abbrev pub Settled : (m : ℕ) → List (Form m) → ℕ → Type 0
Settled m rows setting = (j : ℕ) → form_in m rows j ≡ constant m (bit setting j)

-- the answer is the constant that the derived row of the step's shift is where no record follows, with the earlier
-- rows in the setting
abbrev pub OfEnd : Step → (before held : Rows) → ℕ → Bool → Type 0
OfEnd step before held setting r =
    (past forms derived : List (Form step.m)) → step.neighbour ≡ None → Are step.m held past
    → Are step.m before forms → Settled step.m derived setting
    → made_of Derived step derived past forms (node_for step.record) step.shift ≡ constant step.m r

-- the answer is the setting with those of the record's first count shifts
abbrev pub OfEnds : Step → ℕ → (before held : Rows) → ℕ → ℕ → Type 0
OfEnds step count before held setting r =
    (past forms derived : List (Form step.m)) → step.neighbour ≡ None → Are step.m held past
    → Are step.m before forms → length derived ≡ step.first → Settled step.m derived setting
    → Settled step.m (derived ++ tab count (made_of Derived step derived past forms (node_for step.record))) r

-- the derived rows of a plan's first k records, were this the last record of the log
unfoldable pub last_rows : List ℕ → (plan : Plan) → Moment → List ℕ → ℕ → List (Form plan.m)
last_rows list plan last ws k =
    derived_rows plan.m (rule_for list plan) (past_in plan.m ws) (entry_for last) none k
