-- `next_term` finds the first term: every place that it passed has none.
use mathlib.Core.Path.{◌≡◌}
use mathlib.Core.Bool.{false}
use Prim.Native.Nat.{ℕ, ◌-◌, ◌≤◌, ◌<◌}
use Rattle.ground.specs.Bits.{bit_at}
use Rattle.forms.proofs.scan.next_term.Given as goal

abbrev pub invariant-loop-k : goal.invariant-loop-k
invariant-loop-k l = (l.from ≤ l.k) × ((i : ℕ) → l.from ≤ i → i < l.k → bit_at l.row i ≡ false)

abbrev pub decreases-loop-k : goal.decreases-loop-k
decreases-loop-k l = l.to - l.k
