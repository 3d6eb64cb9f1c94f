-- `turns::report_on` tells what is known, where the area holds its rows.
use Rattle.watcher.specs.Calls.{report_of}
use Rattle.watcher.proofs.Reports.{word_on}
use Rattle.watcher.proofs.turns.report_on.Goals as goal

pub returns : goal.returns
unfolding report_of
returns c m s few e =
    let says = word_on _ _ _ c.load.ensures c.word_of.ensures m s few e in cc
