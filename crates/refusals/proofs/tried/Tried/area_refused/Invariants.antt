-- `area_refused` counts at most four for each watcher.
use Rattle.std.proofs.Common.{◌≤◌, ◌+◌, ◌*◌}
use Rattle.refusals.proofs.tried.Tried.area_refused.Given as goal

abbrev pub invariant-loop-watcher : goal.invariant-loop-watcher
invariant-loop-watcher g l = l.self.right ≤ l.initial.self.right + 4 * l.watcher-index
