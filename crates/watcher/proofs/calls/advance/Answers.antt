-- `calls::advance` meets its contract: the record as the rule sees it, the area, the report.
use Rattle.watcher.proofs.calls.advance.Goals as goal

pub rewrite_area-requires : goal.rewrite_area-requires
rewrite_area-requires c = c.requires
