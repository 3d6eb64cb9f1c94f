-- `truth_of` makes the twelve passes, and leaves a row with no term as it is.
use Rattle.std.proofs.Common.{arith, sym}
use Rattle.forms.proofs.Scanning.{unseen}
use Rattle.forms.proofs.Truths.{passes}
use Rattle.forms.proofs.Passing.{truth_more, truth_done, truth_none}
use Rattle.forms.proofs.table.truth_of.Goals as goal

pub returns-then-is_none : goal.returns-then-is_none
returns-then-is_none c = truth_none _ (unseen _ _ _ _ (sym c.if-is_none.ensures) c.next_term.ensures)

pub loop-p-init : goal.loop-p-init
unfolding passes
loop-p-init c = (omega arith, λ f e. e)

pub loop-p-preserved : goal.loop-p-preserved
loop-p-preserved c = (
  omega arith,
  λ f e. truth_more f _ _ _ c.loop-p-test.true (c.loop-p.invariant.1 f e) c.pass-passed.ensures,
)

pub returns : goal.returns
returns c f e =
    truth_done f _ _ c.loop-p.invariant.0 c.loop-p-test.false (c.loop-p.invariant.1 f e)
