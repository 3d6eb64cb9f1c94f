-- `ending::end_values` sets the value of shift after shift.
use borrow.Author.Rules.{rules}
use Rattle.rewriting.proofs.Endings.{ends_none, ends_more}
use Rattle.rewriting.proofs.ending.end_values.Goals as goal

pub loop-n-init : goal.loop-n-init
loop-n-init c =
    let a = c.args in
    (search rules, ends_none a.step a.forms a.past a.setting)

pub loop-n-preserved : goal.loop-n-preserved
loop-n-preserved c =
    let a = c.args in
    let old = c.loop-n.invariant.1 in (
      search rules,
      ends_more a.step a.forms a.past a.setting _ _ _ _ old
          _ c.at_shift.ensures.0 c.at_shift.ensures.1 c.end_value-b.ensures
          c.with_value-grown.ensures,
    )
