-- `pass_word` makes word i of the row after the pass of parameter p.
use native.Mathlib.Omega.{arith}
use Rattle.ground.proofs.Bits.{one_shl}
use Rattle.forms.proofs.Passing.{pass_inside, pass_across, pass_kept}
use Rattle.forms.proofs.table.pass_word.Goals as goal

pub returns-then-p-lt6 : goal.returns-then-p-lt6
returns-then-p-lt6 c = pass_inside _ _ _ c.if-p-lt6.true

pub returns-then-i-by-eq1 : goal.returns-then-i-by-eq1
returns-then-i-by-eq1 c = pass_across _ _ _ _ c.if-p-lt6.false (one_shl _ (omega arith)) c.if-i-by-eq1.true

pub returns : goal.returns
returns c = pass_kept _ _ _ _ c.if-p-lt6.false (one_shl _ (omega arith)) c.if-i-by-eq1.false
