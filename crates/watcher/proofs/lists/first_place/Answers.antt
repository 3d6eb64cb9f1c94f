-- `lists::first_place` meets its contract: nothing is found in a record before `record`.
use mathlib.Core.Path.{sym}
use native.Mathlib.Omega.{arith}
use Rattle.watcher.proofs.Places.{where_none, found, found_nothing}
use Rattle.watcher.proofs.lists.first_place.Goals as goal

pub returns-in-Some : goal.returns-in-Some
returns-in-Some g c =
    λ bound test finds.
    found _ _ _ _ _ c.loop-record-test.true (c.loop-record.invariant bound test finds)
    (finds _ _ c.loop-record-test.true c.in-Some.ensures)

pub loop-record-preserved : goal.loop-record-preserved
loop-record-preserved g c =
    λ bound test finds.
    found_nothing _ _ _ (c.loop-record.invariant bound test finds)
    (finds _ _ c.loop-record-test.true c.in_default.ensures)

pub returns : goal.returns
returns g c =
    λ bound test finds. sym ((where_none _ _ _).1 (λ k h. c.loop-record.invariant bound test finds k (omega arith)))
