-- `Line::put_rest` puts its parts one behind the other.
use Rattle.lines.specs.Rows.{rest_of_line}
use Rattle.lines.proofs.Texts.{puts_then}
use Rattle.lines.proofs.line.Line.put_rest.Goals as goal

pub returns : goal.returns
unfolding rest_of_line
returns c =
    puts_then c.put_text.ensures (puts_then (rw c.load.ensures at c.put_row.ensures) c.put_text-2.ensures)
