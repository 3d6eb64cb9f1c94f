-- `calls::begin` meets its contract: the area at start, and a fresh state with both lists.
use Rattle.watcher.proofs.TurnLaws.{lists_most, lists_sound}
use Rattle.watcher.proofs.calls.begin.Goals as goal

pub begin_area-requires : goal.begin_area-requires
begin_area-requires c =
    let p = c.requires in (lists_sound _ _ p.0, lists_most _ _ p.0, p.1)
