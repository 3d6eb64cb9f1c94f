-- A row of a step, from what is known of the record's node.
-- Assumes nothing.
use mathlib.Core.Path.{◌≡◌}
use mathlib.Core.List.{List}
use Prim.Native.Nat.{ℕ}
use Rattle.forms.specs.Form.{Form}
use Rattle.forms.specs.Words.{pack}
use Rattle.meaning.specs.Rule.{Node}
use Rattle.rewriting.specs.declared.row.Row.{Row}
use Rattle.rewriting.specs.declared.step.Step.{Step}
use Rattle.rewriting.specs.inside.Steps.{made_of}

-- r is the row of the step, were its record this one
abbrev pub Makes : Row → (step : Step) → (own other forms : List (Form step.m)) → List ℕ → Node → Type 0
Makes row step own other forms r d = r ≡ pack step.m (made_of row step own other forms d step.shift)
