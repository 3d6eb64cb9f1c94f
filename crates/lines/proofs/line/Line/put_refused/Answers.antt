-- `Line::put_refused` puts its parts one behind the other.
use Rattle.lines.specs.Text.{refused_line}
use Rattle.lines.proofs.Texts.{puts_then}
use Rattle.lines.proofs.line.Line.put_refused.Goals as goal

pub returns : goal.returns
unfolding refused_line
returns c =
    puts_then c.put_text.ensures (puts_then (rw c.number.ensures at c.put_number.ensures) c.put_text-2.ensures)
