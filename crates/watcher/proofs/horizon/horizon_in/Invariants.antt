-- `horizon::horizon_in` fills the table record by record and reads its last entry.
use mathlib.Core.Path.{◌≡◌}
use lib.ListN.{length}
use Rattle.meaning.specs.Horizon.{horizons}
use Rattle.rewriting.specs.Decode.{rule_in}
use Rattle.watcher.specs.Limits.{most_records}
use Rattle.watcher.specs.inside.Horizons.{Told, Small}
use Rattle.watcher.proofs.horizon.horizon_in.Given as goal

abbrev pub invariant-loop-k : goal.invariant-loop-k
invariant-loop-k l =
    (length l.minutes ≡ most_records) × Small l.minutes l.k
    × Told l.minutes (horizons (rule_in l.rule l.records) l.k)
