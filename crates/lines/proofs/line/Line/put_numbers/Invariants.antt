-- `Line::put_numbers` puts the numbers below k that pass, for k from 0 on.
use mathlib.Core.Path.{◌≡◌}
use mathlib.Core.Bool.{Bool}
use Prim.Native.Nat.{ℕ, ◌≤◌, ◌<◌}
use Rattle.ground.specs.Fold.{some}
use Rattle.lines.specs.inside.Puts.{Puts}
use Rattle.lines.specs.Text.{numbers_text}
use Rattle.lines.proofs.line.Line.put_numbers.Given as goal

abbrev pub invariant-loop-k : goal.invariant-loop-k
invariant-loop-k g l =
    (l.k ≤ l.end)
    × ((is_put : ℕ → Bool) → ((k : ℕ) (b : Bool) → k < l.end → goal.F-post g l.test k b → b ≡ is_put k)
    → Puts l.initial.self l.self (numbers_text is_put l.k) × (l.any ≡ some l.k is_put))
