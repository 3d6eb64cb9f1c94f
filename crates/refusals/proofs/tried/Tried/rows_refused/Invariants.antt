-- `rows_refused` counts at most four for each word that is overwritten.
use Rattle.std.proofs.Common.{◌≤◌, ◌+◌, ◌*◌}
use Rattle.refusals.proofs.tried.Tried.rows_refused.Given as goal

abbrev pub invariant-loop-place : goal.invariant-loop-place
invariant-loop-place g l = l.self.right ≤ l.initial.self.right + 4 * l.place-index
