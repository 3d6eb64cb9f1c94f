-- `interval::inside` tests the gap against low, and against high where there is one.
use mathlib.Core.Path.{◌∙◌}
use borrow.Author.Tests.{lt-leb}
use Rattle.rewriting.proofs.Ends.{inside_early, inside_onward, inside_between}
use Rattle.rewriting.proofs.interval.inside.Goals as goal

pub returns-else-interval-gap : goal.returns-else-interval-gap
returns-else-interval-gap c =
    lt-leb _ _ c.if-interval-gap.false
    ∙ inside_early c.args.interval _ _ _ c.apart-gap.ensures.0 c.if-interval-gap.false

pub returns-then-endless : goal.returns-then-endless
returns-then-endless c =
    c.if-endless.true
    ∙ inside_onward c.args.interval _ c.endless.ensures _ _ _ c.apart-gap.ensures.0
    c.if-endless.true c.if-interval-gap.true

pub returns-else-endless : goal.returns-else-endless
returns-else-endless c =
    inside_between c.args.interval _ c.endless.ensures _ _ _
    c.apart-gap.ensures.0 c.if-endless.false c.if-interval-gap.true
