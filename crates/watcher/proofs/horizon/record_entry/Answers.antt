-- `horizon::record_entry` goes by the kind of the record.
use Rattle.watcher.proofs.Horizons.{record_plain, record_next, record_until, record_previous, record_larger}
use Rattle.watcher.proofs.horizon.record_entry.Goals as goal

pub returns-in-Next-clause-same : goal.returns-in-Next-clause-same
returns-in-Next-clause-same c =
    record_next _ _ _ _ _ c.entry-left.ensures c.entry.ensures c.larger-both.ensures.same _ c.in-Next.is
    c.later.ensures.same

pub returns-in-Until-clause-same : goal.returns-in-Until-clause-same
returns-in-Until-clause-same c =
    record_until _ _ _ _ _ c.entry-left.ensures c.entry.ensures c.larger-both.ensures.same _ c.in-Until.is
    c.later-in-Until.ensures.same

pub returns-in-Previous-clause-same : goal.returns-in-Previous-clause-same
returns-in-Previous-clause-same c =
    record_previous _ _ _ _ _ c.entry-left.ensures c.entry.ensures c.larger-both.ensures.same c.in-Previous.is

pub returns-in-True-clause-same : goal.returns-in-True-clause-same
returns-in-True-clause-same c = record_plain _ _ c.in-True.is

pub returns-in-And-clause-same : goal.returns-in-And-clause-same
returns-in-And-clause-same c =
    record_larger _ _ _ _ _ c.entry-left.ensures c.entry.ensures c.larger-both.ensures.same c.in-And.is
