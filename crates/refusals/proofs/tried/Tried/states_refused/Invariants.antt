-- `states_refused` counts at most four for each state.
use Rattle.std.proofs.Common.{◌≤◌, ◌+◌, ◌*◌}
use Rattle.refusals.proofs.tried.Tried.states_refused.Given as goal

abbrev pub invariant-loop-state : goal.invariant-loop-state
invariant-loop-state g l = l.self.right ≤ l.initial.self.right + 4 * l.state-index
