-- `rows::rows_of` counts the parameters of a rule.
use native.Mathlib.Omega.{arith}
use mathlib.Core.Path.{refl}
use borrow.Author.Tests.{lt-ltb, le-ltb}
use Rattle.rewriting.proofs.Counting.{counts_all}
use Rattle.watcher.specs.Limits.{most_records}
use Rattle.watcher.specs.State.{rule_of, parameters_of}
use Rattle.lines.specs.Rows.{rows_of}
use Rattle.lines.proofs.rows.rows_of.Goals as goal

pub returns-then-watcher-gt-RECORDS : goal.returns-then-watcher-gt-RECORDS
unfolding rows_of
returns-then-watcher-gt-RECORDS c =
    rw (lt-ltb most_records c.args.watcher.records c.if-watcher-gt-RECORDS.true) refl

pub returns-else-watcher-gt-RECORDS : goal.returns-else-watcher-gt-RECORDS
unfolding rows_of parameters_of rule_of
returns-else-watcher-gt-RECORDS c =
    rw (le-ltb most_records c.args.watcher.records c.if-watcher-gt-RECORDS.false)
    (counts_all _ _ _ (omega arith) c.parameters_in.ensures)
