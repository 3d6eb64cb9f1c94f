-- `Line::put_answer` goes by the answer, and puts its parts one behind the other.
use Rattle.lines.specs.Text.{told_line, answer_line}
use Rattle.lines.proofs.Texts.{puts_then}
use Rattle.lines.proofs.line.Line.put_answer.Goals as goal

pub returns-in-Ok : goal.returns-in-Ok
unfolding told_line answer_line
returns-in-Ok c =
    rw (c.in-Ok.is, ← c.time_of.ensures)
    (puts_then c.put_number.ensures
    (puts_then c.put_text.ensures
    (puts_then c.put_word.ensures (puts_then c.put_behind.ensures c.put_text-in-Ok.ensures))))

pub returns-in-Err : goal.returns-in-Err
unfolding answer_line
returns-in-Err c = rw c.in-Err.is c.put_refused.ensures
