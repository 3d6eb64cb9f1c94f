-- `turns::feed_line` is feed, with its line.
use borrow.Author.Rules.{rules}
use Rattle.lines.specs.Lines.{piece_line, fed_line, feed_line}
use Rattle.lines.proofs.Texts.{line_placed}
use Rattle.lines.proofs.turns.feed_line.Goals as goal

pub returns : goal.returns
unfolding feed_line fed_line piece_line
returns c =
    let line = line_placed c.new-line.ensures.same_bytes c.new-line.ensures.at_start c.put_answer.ensures in
    rw (← c.feed-fed.ensures, ← line, c.len.ensures) (search rules)
