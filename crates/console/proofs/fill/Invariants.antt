-- `console::fill` ends: the measure is the room that is left.
use Rattle.std.proofs.Common.{◌-◌, ◌≤◌, length}
use Rattle.console.proofs.fill.Given as goal

abbrev pub invariant-loop-done : goal.invariant-loop-done
invariant-loop-done g l = l.done ≤ length l.piece

abbrev pub decreases-loop-done : goal.decreases-loop-done
decreases-loop-done g l = length l.initial.piece - l.done
