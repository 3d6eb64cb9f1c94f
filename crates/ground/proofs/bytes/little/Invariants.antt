-- `bytes::little` meets its contract: `number` is that of the bytes from place `k` on. Assumes nothing.
use Rattle.std.proofs.Common.{◌≡◌, ◌+◌, ◌-◌}
use Rattle.ground.specs.Bytes.{little}
use Rattle.ground.proofs.bytes.little.Given as goal

abbrev pub invariant-loop-k : goal.invariant-loop-k
invariant-loop-k g l = l.number ≡ little l.bytes (l.at + l.k) (l.count - l.k)
