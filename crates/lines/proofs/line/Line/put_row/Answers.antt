-- `Line::put_row` puts a dash where no term is put.
use borrow.Author.Rules.{rules}
use Rattle.ground.specs.Bits.{bit_at}
use Rattle.lines.specs.Rows.{row_text, none_text}
use Rattle.lines.proofs.Texts.{puts_none, puts_then}
use Rattle.lines.proofs.line.Line.put_row.Goals as goal

pub returns-then-not-put_numbers : goal.returns-then-not-put_numbers
unfolding row_text none_text
returns-then-not-put_numbers c =
    let p = c.put_numbers.ensures (bit_at c.args.row.now) (λ k b l e. search rules) in
    rw (← p.1, c.if-not-put_numbers.true) (puts_then p.0 c.put_text.ensures)

pub returns-else-not-put_numbers : goal.returns-else-not-put_numbers
unfolding row_text none_text
returns-else-not-put_numbers c =
    let p = c.put_numbers.ensures (bit_at c.args.row.now) (λ k b l e. search rules) in
    rw (← p.1, c.if-not-put_numbers.false) (puts_then p.0 (puts_none _))
