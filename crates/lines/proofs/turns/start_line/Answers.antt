-- `turns::start_line` is start, with its line.
use borrow.Author.Rules.{rules}
use Rattle.lines.specs.Lines.{started_line, start_line}
use Rattle.lines.proofs.Texts.{line_placed, ready_if}
use Rattle.lines.proofs.turns.start_line.Goals as goal

pub returns : goal.returns
unfolding start_line started_line
returns c =
    let line = line_placed c.new-line.ensures.same_bytes c.new-line.ensures.at_start c.put_found.ensures in
    rw (← c.start-started.ensures, ← line, c.is_refused.ensures, ready_if c.start-started.result.found, c.len.ensures) (search rules)
