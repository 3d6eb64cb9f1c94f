-- `walk::rule_rows` meets its contract: the rows of the first `k` records are in their places.
use Rattle.std.proofs.Common.{refl, ap, sym, ◌∙◌, arith, rules}
use Rattle.meaning.specs.Rule.{first_of}
use Rattle.rewriting.specs.Plans.{rule_for}
use Rattle.rewriting.proofs.Listing.{started, gave}
use Rattle.rewriting.proofs.Walking.{first_fits, block_next, step_ready, rows_block, walked_all}
use Rattle.rewriting.proofs.Tables.{forms_held}
use Rattle.rewriting.proofs.Written.{wrote_none, wrote_as}
use Rattle.rewriting.proofs.walk.rule_rows.Goals as goal

pub loop-k-init : goal.loop-k-init
unfolding first_of
loop-k-init c =
    let all =
    started _ _ _ _ c.into_iter-k-iterator.ensures.into_iter_gives c.of-k-items.ensures in
    let rule = c.args.tabled.rule in (
      tt,
      tt,
      all.0,
      all.1,
      refl,
      λ other ho.
          wrote_as _ _ _ 0 _ _ (ap (first_of (rule_for rule.list.now rule.plan)) (sym all.2))
          (wrote_none _ _ _),
    )

pub step_at-step-requires : goal.step_at-step-requires
step_at-step-requires c =
    let rule = c.args.tabled.rule in
    let p = c.loop-k.invariant in
    let g = gave _ _ _ _ _ p.2 p.3 _ _ _ _ _ _ c.in-Some.ensures.steps in
    first_fits rule.list.now rule.plan rule.sound _ _ g.2.1.begins

pub record_rows-requires : goal.record_rows-requires
record_rows-requires c =
    let a = c.args in
    let rule = a.tabled.rule in
    let p = c.loop-k.invariant in
    let g = gave _ _ _ _ _ p.2 p.3 _ _ _ _ _ _ c.in-Some.ensures.steps in
    step_ready rule.list.now rule.plan rule.sound _ _ _ _ g.2.1 c.count_of-count.ensures.0 a.here a.near _ _ _
    c.step_at-step.ensures.2 a.held c.requires.1

pub loop-k-preserved : goal.loop-k-preserved
loop-k-preserved c =
    let a = c.args in
    let rule = a.tabled.rule in
    let p = c.loop-k.invariant in
    let g = gave _ _ _ _ _ p.2 p.3 _ _ _ _ _ _ c.in-Some.ensures.steps in
    let given = g.2.1 in
    let counted = c.count_of-count.ensures.0 in
    let begin = first_of (rule_for rule.list.now rule.plan) in (
      tt,
      tt,
      g.0,
      g.1,
      search rules,
      λ other ho.
          wrote_as _ _ _ _ _ _
          (block_next rule.list.now rule.plan rule.sound _ _ _ _ given counted ∙ ap begin (sym g.2.2))
          (rows_block rule.list.now rule.plan rule.sound _ _ _ _ given counted a.here a.near _ _ _
          c.step_at-step.ensures.2 a.row a.held other
          (record { area = a.tabled.forms; base = 0; count = c.in-Some.k }) _ _ _
          (forms_held _ _ c.in-Some.k rule.plan.records a.tabled.forms.now (omega (arith, given.less)) a.tabled.holds)
          c.requires.0 c.requires.1 ho
          (wrote_as _ _ _ _ _ _ (ap begin g.2.0 ∙ sym given.begins) (p.5 other ho)) c.record_rows.ensures),
    )

pub returns : goal.returns
returns c other ho =
    let rule = c.args.tabled.rule in
    let p = c.loop-k.invariant in
    let left = c.loop-k.k-iterator in
    walked_all rule.list.now rule.plan left.k _ _ _ _ _ rule.sound refl (omega (arith, left.counted.reached, p.3))
    (omega (arith, c.in-None.ensures.steps.2, p.3)) (p.5 other ho)
