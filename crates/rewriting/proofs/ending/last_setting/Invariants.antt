-- `ending::last_setting` sets the values of record after record.
use mathlib.Core.Path.{◌≡◌}
use Rattle.rewriting.specs.inside.Endings.{Settled, last_rows}
use Rattle.rewriting.proofs.ending.last_setting.Given as goal

abbrev pub invariant-loop-k : goal.invariant-loop-k
invariant-loop-k l =
    let rule = l.tabled.rule in
    let left = l.k-iterator in
    (goal.iterator-loop-k).can_next left × (goal.iterator-loop-k).is_finite left
    × (left.list.now ≡ rule.list.now) × (left.records ≡ rule.plan.records)
    × Settled rule.plan.m (last_rows rule.list.now rule.plan l.last l.area left.k) l.setting
