-- `lists::used_right` meets its contract: the kind is one of the nine; the check finds the other bytes.
use Rattle.watcher.specs.Rules.{used_right}
use Rattle.watcher.proofs.Checking.{kind_known, kind_other}
use Rattle.watcher.proofs.lists.used_right.Goals as goal
use Rattle.watcher.proofs.lists.used_right.Goals.{in-Other, in_default-matches}

pub returns-after-matches : goal.returns-after-matches
unfolding used_right
returns-after-matches c =
    elim c.match-matches.branch [
      | in-Other w ↦ rw (c.in-0.is, w.matches-is, w.in-Other.is) (kind_other _)
      | in_default-matches w ↦ rw (c.in-0.is, w.matches-is) (kind_known _ w.in_default-matches.not-Other)
    ]
