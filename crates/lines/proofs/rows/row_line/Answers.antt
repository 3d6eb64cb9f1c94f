-- `rows::row_line` puts the line at the beginning of the buffer.
use borrow.Author.Rules.{rules}
use Rattle.lines.specs.Rows.{row_line}
use Rattle.lines.proofs.Texts.{line_placed}
use Rattle.lines.proofs.rows.row_line.Goals as goal

pub returns : goal.returns
unfolding row_line
returns c =
    let line = line_placed c.new-line.ensures.same_bytes c.new-line.ensures.at_start c.put_line.ensures in
    rw (← c.rows_of.ensures) (search rules)
