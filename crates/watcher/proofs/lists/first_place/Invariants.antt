-- `lists::first_place` meets its contract: no record before `record` finds anything.
use Rattle.std.proofs.Common.{◌≡◌, ℕ, ◌<◌, Bool, Option}
use Rattle.watcher.specs.Places.{Clear}
use Rattle.std.specs.List.{find, range_with_len}
use Rattle.watcher.proofs.lists.first_place.Given as goal

abbrev pub invariant-loop-record : goal.invariant-loop-record
invariant-loop-record g l =
    (bound : ℕ → ℕ) (test : ℕ → ℕ → Bool)
    → ((k : ℕ) (r : Option ℕ) → k < l.records → goal.F-post g l.within k r
    → r ≡ find (test k) (range_with_len 0 (bound k)))
    → Clear bound test l.record
