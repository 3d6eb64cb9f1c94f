-- `Line::put_behind` goes by whether more is asked for.
use Rattle.watcher.proofs.Asking.{asked_answer}
use Rattle.lines.specs.Lines.{behind_text}
use Rattle.lines.proofs.Texts.{puts_none, puts_then}
use Rattle.lines.proofs.line.Line.put_behind.Goals as goal

pub returns-then-more : goal.returns-then-more
unfolding behind_text
returns-then-more c =
    rw (c.if-more.true, ← asked_answer _ _ _ _ c.ask.ensures) (puts_then c.put_ask.ensures c.put_blind.ensures)

pub returns-else-more : goal.returns-else-more
unfolding behind_text
returns-else-more c = rw c.if-more.false (puts_none _)
