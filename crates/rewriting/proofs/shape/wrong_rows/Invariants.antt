-- `shape::wrong_rows` meets its contract: no record before `k` has a wrong row.
use mathlib.Core.Path.{◌≡◌}
use mathlib.Core.Bool.{false}
use Prim.Native.Nat.{ℕ, ◌<◌}
use Rattle.ground.specs.Bits.{of_bits}
use Rattle.rewriting.specs.Known.{past_in}
use Rattle.rewriting.specs.Plans.{rule_for, entry_for}
use Rattle.rewriting.specs.Shape.{forward, wrong_at}
use Rattle.rewriting.proofs.shape.wrong_rows.Given as goal

abbrev pub invariant-loop-record : goal.invariant-loop-record
invariant-loop-record l =
    let plan = l.rule.plan in
    let rule = rule_for l.rule.list.now plan in
    let left = l.record-iterator in
    (goal.iterator-loop-record).can_next left × (goal.iterator-loop-record).is_finite left
    × (left.list.now ≡ l.rule.list.now) × (left.records ≡ plan.records)
    × (l.allowed ≡ of_bits 12 (forward rule left.k))
    × ((j : ℕ) → j < left.k → wrong_at rule plan.m (entry_for l.last) (past_in plan.m l.area) j ≡ false)
