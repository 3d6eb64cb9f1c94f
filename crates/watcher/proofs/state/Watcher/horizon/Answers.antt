-- `Watcher::horizon` reads the rule of lists that start would not refuse.
use native.Mathlib.Omega.{arith}
use Rattle.watcher.proofs.TurnLaws.{wait_some}
use Rattle.watcher.proofs.state.Watcher.horizon.Goals as goal

pub horizon_in-requires : goal.horizon_in-requires
horizon_in-requires c = wait_some _ _ c.start_refuses.ensures c.if-start_refuses.false (omega arith)
