-- `lists::same_record` meets its contract: the two parts of the list are equal.
use native.Mathlib.Omega.{arith}
use mathlib.Core.Path.{◌∙◌}
use Rattle.watcher.proofs.Checking.{parts_same}
use Rattle.watcher.proofs.lists.same_record.Goals as goal

pub returns : goal.returns
returns c =
    c.eq.ensures ∙ parts_same _ _ _ _ _ _ (omega arith) (omega arith) c.requires.0 c.requires.1
