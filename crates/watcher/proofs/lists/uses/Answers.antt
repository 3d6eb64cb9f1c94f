-- `lists::uses` meets its contract: what the table holds, and false past its ends.
use mathlib.Core.Path.{sym, ◌∙◌}
use borrow.Author.Tests.{le-ltb}
use Rattle.watcher.specs.Rules.{used_bytes, uses}
use Rattle.watcher.proofs.Checking.{uses_no_byte}
use Rattle.watcher.proofs.lists.uses.Goals as goal

pub returns-then-i-lt-RECORD_BYTES : goal.returns-then-i-lt-RECORD_BYTES
unfolding uses used_bytes
returns-then-i-lt-RECORD_BYTES c = c.used_row.ensures.same c.args.i

pub returns-else-i-lt-RECORD_BYTES : goal.returns-else-i-lt-RECORD_BYTES
returns-else-i-lt-RECORD_BYTES c =
    let past = c.if-i-lt-RECORD_BYTES.false in le-ltb _ _ past ∙ sym (uses_no_byte _ _ past)
