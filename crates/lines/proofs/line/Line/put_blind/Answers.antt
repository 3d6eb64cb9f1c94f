-- `Line::put_blind` goes by whether some signal is blind.
use borrow.Author.Rules.{rules}
use Rattle.lines.specs.Blind.{is_blind, blind_text}
use Rattle.lines.proofs.Blinds.{any_some}
use Rattle.lines.proofs.Texts.{puts_none, puts_then}
use Rattle.lines.proofs.line.Line.put_blind.Goals as goal

pub returns-then-some_blind : goal.returns-then-some_blind
unfolding blind_text
returns-then-some_blind c =
    let watcher = c.args.watcher.now in
    let numbers =
    c.put_numbers.ensures (is_blind watcher.list watcher.signals c.args.piece.now) (λ n b l e. search rules) in
    rw (← any_some _ _, ← c.some_blind.ensures, c.if-some_blind.true) (puts_then c.put_text.ensures numbers.0)

pub returns-else-some_blind : goal.returns-else-some_blind
unfolding blind_text
returns-else-some_blind c =
    rw (← any_some _ _, ← c.some_blind.ensures, c.if-some_blind.false) (puts_none _)
