-- `interval::shifts` meets its contract: with an upper end, and with none.
use borrow.Author.Rules.{rules}
use Rattle.rewriting.proofs.Ends.{shifts_onward, shifts_between}
use Rattle.rewriting.proofs.interval.shifts.Goals as goal

pub returns-then-endless : goal.returns-then-endless
returns-then-endless c =
    (shifts_onward c.args.interval _ c.endless.ensures c.if-endless.true, search rules)

pub returns-else-endless : goal.returns-else-endless
returns-else-endless c =
    (shifts_between c.args.interval _ c.endless.ensures c.if-endless.false, search rules)
