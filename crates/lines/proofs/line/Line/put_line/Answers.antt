-- `Line::put_line` goes by the number of the row, and puts its parts one behind the other.
use borrow.Author.Tests.{lt-ltb, le-ltb, eq-eqb, ne_eqb}
use Rattle.lines.specs.Rows.{past_line, remainder_line, row_of}
use Rattle.lines.proofs.Texts.{puts_none, puts_then}
use Rattle.lines.proofs.line.Line.put_line.Goals as goal

pub returns-then-j-rows : goal.returns-then-j-rows
unfolding row_of past_line
returns-then-j-rows c =
    rw (lt-ltb c.args.j c.args.rows c.if-j-rows.true)
    (puts_then c.put_text.ensures (puts_then c.put_number.ensures c.put_rest.ensures))

pub returns-then-j-rows-2 : goal.returns-then-j-rows-2
unfolding row_of remainder_line
returns-then-j-rows-2 c =
    rw (le-ltb c.args.j c.args.rows c.if-j-rows.false, eq-eqb c.args.j c.args.rows c.if-j-rows-2.true)
    (puts_then c.put_text-then-j-rows-2.ensures c.put_rest-then-j-rows-2.ensures)

pub returns-else-j-rows-2 : goal.returns-else-j-rows-2
unfolding row_of
returns-else-j-rows-2 c =
    rw (le-ltb c.args.j c.args.rows c.if-j-rows.false, ne_eqb c.args.j c.args.rows c.if-j-rows-2.false) (puts_none _)
