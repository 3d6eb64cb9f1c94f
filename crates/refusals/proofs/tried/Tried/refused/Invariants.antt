-- `refused` counts at most one for each answer.
use Rattle.std.proofs.Common.{◌≤◌, ◌+◌}
use Rattle.refusals.proofs.tried.Tried.refused.Given as goal

abbrev pub invariant-loop-said : goal.invariant-loop-said
invariant-loop-said g l = l.self.right ≤ l.initial.self.right + l.said-index
