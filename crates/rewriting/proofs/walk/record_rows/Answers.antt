-- `walk::record_rows` meets its contract: the rows of the first `n` shifts are in their places.
use mathlib.Core.Path.{refl}
use borrow.Author.Rules.{rules}
use Rattle.rewriting.proofs.Making.{puts_none, puts_more}
use Rattle.rewriting.proofs.walk.record_rows.Goals as goal

pub loop-n-init : goal.loop-n-init
loop-n-init c =
    let a = c.args in
    (search rules, refl, puts_none a.row a.step a.forms _ a.scratch a.held)

pub loop-n-preserved : goal.loop-n-preserved
loop-n-preserved c =
    let here = c.loop-n in
    let a = c.args in (
      search rules,
      search rules,
      puts_more a.row a.step a.forms _ a.scratch a.held a.count here.n _ _ _ _ _
          c.requires c.loop-n-test.true c.own_at-base.ensures c.other_at-far.ensures
          here.invariant.2 _ c.at_shift.ensures.0
          c.at_shift.ensures.1 c.step_row-made.ensures
          c.store.ensures,
    )
