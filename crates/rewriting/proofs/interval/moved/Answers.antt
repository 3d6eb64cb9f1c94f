-- `interval::moved` adds the gap, and stops or goes at the end of the interval.
use borrow.Author.Rules.{rules}
use Rattle.rewriting.proofs.Ends.{moved_onward, moved_between}
use Rattle.rewriting.proofs.interval.moved.Goals as goal

pub returns-then-endless : goal.returns-then-endless
returns-then-endless c = (
  moved_onward c.args.interval _ c.endless.ensures _ _ _ _ c.apart.ensures.0 c.if-endless.true _ c.min.ensures,
  search rules,
)

pub returns : goal.returns
returns c =
    moved_between c.args.interval _ c.endless.ensures _ _ _ _ c.apart.ensures.0 c.if-endless.false _
    c.then_some.ensures (search rules)
