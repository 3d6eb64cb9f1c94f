-- `truth_of` makes the twelve passes, and leaves a row with no term as it is.
use Rattle.std.proofs.Common.{◌≡◌, ◌≤◌}
use Rattle.forms.specs.Form.{Form}
use Rattle.forms.specs.Words.{most, pack}
use Rattle.forms.proofs.Truths.{passes}
use Rattle.forms.proofs.table.truth_of.Given as goal

abbrev pub invariant-loop-p : goal.invariant-loop-p
invariant-loop-p l = (l.p ≤ 12) × ((f : Form most) → l.initial.r ≡ pack most f → l.r ≡ pack most (passes most l.p f))
