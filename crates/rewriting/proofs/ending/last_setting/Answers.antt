-- `ending::last_setting` sets the values of record after record.
use Rattle.std.proofs.Common.{sym, subst, arith}
use Rattle.std.specs.Prelude.{None}
use Rattle.rewriting.specs.inside.Endings.{Settled, last_rows}
use Rattle.rewriting.proofs.Listing.{started, gave}
use Rattle.rewriting.proofs.Walking.{first_fits, step_ready}
use Rattle.rewriting.proofs.Tables.{forms_held}
use Rattle.rewriting.proofs.Placed.{tidy_held}
use Rattle.rewriting.proofs.Lasting.{last_none, last_more}
use Rattle.rewriting.proofs.ending.last_setting.Goals as goal

pub loop-k-init : goal.loop-k-init
loop-k-init c =
    let a = c.args in
    let rule = a.tabled.rule in
    let all =
    started _ _ _ _ c.into_iter-k-iterator.ensures.into_iter_gives c.of-k-items.ensures in (
      tt,
      tt,
      all.0,
      all.1,
      subst (λ n. Settled rule.plan.m (last_rows rule.list.now rule.plan a.last a.area.now n) 0)
          (sym all.2) (last_none rule.list.now rule.plan a.last a.area.now),
    )

pub step_at-step-requires : goal.step_at-step-requires
step_at-step-requires c =
    let rule = c.args.tabled.rule in
    let p = c.loop-k.invariant in
    let g = gave _ _ _ _ _ p.2 p.3 _ _ _ _ _ _ c.in-Some.ensures.steps in
    first_fits rule.list.now rule.plan c.requires.0 _ _ g.2.1.begins

pub end_values-setting-requires : goal.end_values-setting-requires
end_values-setting-requires c =
    let a = c.args in
    let rule = a.tabled.rule in
    let sound = c.requires.0 in
    let p = c.loop-k.invariant in
    let g = gave _ _ _ _ _ p.2 p.3 _ _ _ _ _ _ c.in-Some.ensures.steps in
    let ready =
    step_ready rule.list.now rule.plan sound _ _ _ _ g.2.1 c.count_of-count.ensures.0 a.last None _ _ _
    c.step_at-step.ensures.2 0 (omega arith) in
    omega (arith, ready.behind, sound.room)

pub loop-k-preserved : goal.loop-k-preserved
loop-k-preserved c =
    let a = c.args in
    let rule = a.tabled.rule in
    let p = c.loop-k.invariant in
    let g = gave _ _ _ _ _ p.2 p.3 _ _ _ _ _ _ c.in-Some.ensures.steps in
    let given = g.2.1 in
    let k = c.in-Some.k in
    let rows = last_rows rule.list.now rule.plan a.last a.area.now in (
      tt,
      tt,
      g.0,
      g.1,
      subst (λ n. Settled rule.plan.m (rows n) c.end_values-setting.result) (sym g.2.2)
          (last_more rule.list.now rule.plan a.last a.area.now k
          (record { area = a.tabled.forms; base = 0; count = k })
          (record { area = a.area; base = 0; count = rule.plan.m })
          (forms_held _ _ k rule.plan.records a.tabled.forms.now (omega (arith, given.less)) c.requires.1)
          (tidy_held rule.plan.places _ _ c.requires.2 c.requires.0.few) _ _ _ _ _ _ given c.count_of-count.ensures.0
          _ _ c.step_at-step.ensures.2
          (subst (λ n. Settled rule.plan.m (rows n) c.loop-k.setting) g.2.0 p.4) c.end_values-setting.ensures),
    )
