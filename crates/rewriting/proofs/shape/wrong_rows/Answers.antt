-- `shape::wrong_rows` meets its contract: no record before `k` has a wrong row.
use Rattle.std.proofs.Common.{◌≡◌, false, ap, sym, ◌∙◌, arith}
use borrow.Author.Count.{below_more}
use Rattle.ground.specs.Bits.{of_bits}
use Rattle.rewriting.specs.Known.{past_in}
use Rattle.rewriting.specs.Plans.{rule_for, entry_for}
use Rattle.rewriting.specs.Shape.{forward, wrong_at}
use Rattle.rewriting.proofs.Listing.{started, gave}
use Rattle.rewriting.proofs.TidyRows.{fitting}
use Rattle.rewriting.proofs.RecordRows.{tells, placed, before_none, before_next, rows_found, rows_none}
use Rattle.rewriting.proofs.shape.wrong_rows.Goals as goal

pub loop-record-init : goal.loop-record-init
loop-record-init c =
    let rule = c.args.rule in
    let all =
    started _ _ _ _ c.into_iter-record-iterator.ensures.into_iter_gives c.of-record-items.ensures in (
      tt,
      tt,
      all.0,
      all.1,
      (before_none (rule_for rule.list.now rule.plan)).allows
          ∙ ap (λ n. of_bits 12 (forward (rule_for rule.list.now rule.plan) n)) (sym all.2),
      λ j h. let no : ⊥ = omega (arith, h, all.2) in absurd no,
    )

pub invariant_of-here : goal.invariant_of-here
invariant_of-here c =
    let rule = c.args.rule in
    let p = c.loop-record.invariant in
    let g = gave _ _ _ _ _ p.2 p.3 _ _ _ _ _ _ c.in-Some.ensures.steps in
    let room = placed rule.list.now rule.plan rule.sound _ _ _ _ _ _ g.2.1 c.count_of-count.ensures.0 p.4 in
    record { few = room.0; within = room.1; bits = room.2 }

pub record_wrong-requires : goal.record_wrong-requires
record_wrong-requires c = fitting _ _ _ c.args.rule.sound.few c.requires

pub returns-then-record_wrong : goal.returns-then-record_wrong
returns-then-record_wrong c =
    let rule = c.args.rule in
    let p = c.loop-record.invariant in
    let g = gave _ _ _ _ _ p.2 p.3 _ _ _ _ _ _ c.in-Some.ensures.steps in
    rows_found rule.list.now rule.plan _ _ _ _ g.2.1.less
    (c.record_wrong.ensures _ _ (tells rule.list.now rule.plan _ _ _ g.2.0 g.2.1 c.count_of-count.ensures.0 p.4))
    c.if-record_wrong.true

pub loop-record-preserved : goal.loop-record-preserved
loop-record-preserved c =
    let rule = c.args.rule in
    let p = c.loop-record.invariant in
    let g = gave _ _ _ _ _ p.2 p.3 _ _ _ _ _ _ c.in-Some.ensures.steps in
    let counted = c.count_of-count.ensures.0 in
    let wrong =
    wrong_at (rule_for rule.list.now rule.plan) rule.plan.m (entry_for c.args.last)
    (past_in rule.plan.m c.args.area.now) in (
      tt,
      tt,
      g.0,
      g.1,
      (before_next _ _ _ _ (tells rule.list.now rule.plan _ _ _ g.2.0 g.2.1 counted p.4)
          c.widen-allowed.ensures).allows
          ∙ ap (λ n. of_bits 12 (forward (rule_for rule.list.now rule.plan) n)) (sym g.2.2),
      λ j h.
          below_more (λ i. wrong i ≡ false) c.in-Some.field-0-0 (λ i l. p.5 i (omega (arith, l, g.2.0)))
          (sym (c.record_wrong.ensures _ _ (tells rule.list.now rule.plan _ _ _ g.2.0 g.2.1 counted p.4))
          ∙ c.if-record_wrong.false) j (omega (arith, h, g.2.2)),
    )

pub returns : goal.returns
returns c =
    let p = c.loop-record.invariant in
    rows_none c.args.rule.list.now c.args.rule.plan _ _ _ (omega (arith, c.in-None.ensures.steps.2, p.3)) p.5
