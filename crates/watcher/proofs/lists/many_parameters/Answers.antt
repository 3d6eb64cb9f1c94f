-- `lists::many_parameters` meets its contract: the rule has as many records as the list.
use native.Mathlib.Omega.{arith}
use Rattle.rewriting.proofs.Counting.{counts_all}
use Rattle.watcher.proofs.Decoded.{parameters_all}
use Rattle.watcher.proofs.Checking.{records_few}
use Rattle.watcher.proofs.lists.many_parameters.Goals as goal

pub returns : goal.returns
returns c =
    let few = records_few _ _ c.records_of.ensures c.requires in
    parameters_all _ _ _ c.records_of.ensures (counts_all _ _ _ (omega arith) c.parameters_in.ensures)
