-- `walk::rule_rows` meets its contract: the rows of the first `k` records are in their places.
use mathlib.Core.Path.{◌≡◌}
use mathlib.Core.List.{List}
use Prim.Native.Nat.{◌+◌}
use lib.ListN.{length}
use Rattle.forms.specs.Form.{Form}
use Rattle.forms.specs.Area.{put_rows, Holds}
use Rattle.meaning.specs.Rule.{first_of}
use Rattle.rewriting.specs.Plans.{rule_for, form_row}
use Rattle.rewriting.specs.inside.Steps.{own_at, other_at}
use Rattle.rewriting.specs.inside.Walks.{rows_for}
use Rattle.rewriting.proofs.walk.rule_rows.Given as goal

abbrev pub invariant-loop-k : goal.invariant-loop-k
invariant-loop-k l =
    let rule = l.tabled.rule in
    let left = l.k-iterator in
    (goal.iterator-loop-k).can_next left × (goal.iterator-loop-k).is_finite left
    × (left.list.now ≡ rule.list.now) × (left.records ≡ rule.plan.records)
    × (length l.area ≡ length l.initial.area)
    × ((other : List (Form rule.plan.m))
    → Holds rule.plan.m l.initial.area (other_at l.row (rule.plan.places + 1)) l.held other
    → l.area ≡ put_rows l.initial.area (own_at l.row (rule.plan.places + 1))
    (first_of (rule_for rule.list.now rule.plan) left.k)
    (form_row rule.plan.m (rows_for l.row rule.list.now rule.plan l.here l.near other)))
