-- `walk::record_rows` meets its contract: the rows of the first `n` shifts are in their places.
use mathlib.Core.Path.{◌≡◌}
use Prim.Native.Nat.{◌≤◌}
use lib.ListN.{length}
use Rattle.rewriting.specs.inside.Walks.{Puts}
use Rattle.rewriting.proofs.walk.record_rows.Given as goal

abbrev pub invariant-loop-n : goal.invariant-loop-n
invariant-loop-n l =
    (l.n ≤ l.count) × (length l.area ≡ length l.initial.area)
    × Puts l.row l.step l.n l.forms l.initial.area l.scratch l.held l.area
