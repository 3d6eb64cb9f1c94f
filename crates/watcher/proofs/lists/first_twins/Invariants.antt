-- `lists::first_twins` meets its contract: no record before `i` has an earlier twin, and `i` none before `j`.
use mathlib.Core.Path.{◌≡◌}
use mathlib.Core.Bool.{false}
use Prim.Native.Nat.{ℕ, ◌≤◌, ◌<◌}
use lib.ListN.{length}
use Rattle.std.proofs.Common.{None}
use Rattle.watcher.specs.Places.{Clear}
use Rattle.watcher.specs.Rules.{same_record}
use Rattle.watcher.proofs.lists.first_twins.Given as goal

abbrev pub invariant-loop-j : goal.invariant-loop-j
invariant-loop-j l =
    (l.j ≤ l.i) × (l.found ≡ None) × ((b : ℕ) → b < l.j → same_record l.size l.list l.i b ≡ false)

abbrev pub invariant-pairs : goal.invariant-pairs
invariant-pairs l =
    (l.i ≤ l.records) × (l.records ≤ length l.list) × (l.found ≡ None)
    × Clear (λ a. a) (same_record l.size l.list) l.i
