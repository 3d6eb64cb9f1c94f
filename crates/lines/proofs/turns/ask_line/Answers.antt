-- `turns::ask_line` is ask, with its line.
use borrow.Author.Rules.{rules}
use Rattle.watcher.proofs.Asking.{asked_answer}
use Rattle.lines.specs.Lines.{ask_line}
use Rattle.lines.proofs.Texts.{line_placed}
use Rattle.lines.proofs.turns.ask_line.Goals as goal

pub returns : goal.returns
unfolding ask_line
returns c =
    let line = line_placed c.new-line.ensures.same_bytes c.new-line.ensures.at_start c.put_end.ensures in
    rw (← asked_answer _ _ _ _ c.ask.ensures) (search rules)
