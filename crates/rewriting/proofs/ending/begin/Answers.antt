-- `ending::begin` clears the area but for the remainder.
use Rattle.rewriting.proofs.Laid.{begun_laid}
use Rattle.rewriting.proofs.ending.begin.Goals as goal

pub returns : goal.returns
returns c =
    let tabled = c.args.tabled in
    begun_laid tabled.rule.list.now tabled.rule.plan _ _ _ _ _ c.requires c.clear.ensures
    (c.row.ensures _ _ tabled.holds)
    (record { rest = c.store.ensures; zeros = c.clear-2.ensures })
