-- `Line::put_ask` goes by the answer.
use Rattle.lines.specs.Text.{ask_text}
use Rattle.lines.proofs.Texts.{puts_none, puts_then}
use Rattle.lines.proofs.line.Line.put_ask.Goals as goal

pub returns-in-Ok : goal.returns-in-Ok
unfolding ask_text
returns-in-Ok c = rw c.in-Ok.is (puts_then c.put_text.ensures c.put_verdict.ensures)

pub returns-in_default : goal.returns-in_default
unfolding ask_text
returns-in_default c = rw c.in_default.is (puts_none _)
