-- `names` is the union of the row's terms.
use Rattle.std.proofs.Common.{◌≡◌}
use Rattle.forms.proofs.Reading.{Naming}
use Rattle.forms.proofs.rows.names.Given as goal

abbrev pub invariant-loop-k : goal.invariant-loop-k
invariant-loop-k l =
    (goal.iterator-loop-k).can_next l.k-iterator × (goal.iterator-loop-k).is_finite l.k-iterator
    × (l.k-iterator.row.now ≡ l.fn.row) × Naming l.fn.row l.named l.k-iterator.from
