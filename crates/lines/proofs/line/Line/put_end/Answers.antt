-- `Line::put_end` goes by the answer, and puts its parts one behind the other.
use Rattle.lines.specs.Text.{end_text, end_line}
use Rattle.lines.proofs.Texts.{puts_then}
use Rattle.lines.proofs.line.Line.put_end.Goals as goal

pub returns-in-Ok : goal.returns-in-Ok
unfolding end_text end_line
returns-in-Ok c =
    rw c.in-Ok.is (puts_then c.put_text.ensures (puts_then c.put_verdict.ensures c.put_text-in-Ok.ensures))

pub returns-in-Err : goal.returns-in-Err
unfolding end_text end_line
returns-in-Err c = rw c.in-Err.is (puts_then c.put_text.ensures c.put_refused.ensures)
