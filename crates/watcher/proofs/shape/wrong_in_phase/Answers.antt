-- `shape::wrong_in_phase` makes a sound plan: that of the state's own rule.
use native.Mathlib.Omega.{arith}
use Rattle.watcher.proofs.Breaking.{sound}
use Rattle.watcher.proofs.shape.wrong_in_phase.Goals as goal

pub invariant_of-rule : goal.invariant_of-rule
invariant_of-rule c = record { sound = sound _ _ (omega arith) c.requires.0 c.requires.1 }
