-- `derived::next_row` reads left where the record beside is in the interval.
use Rattle.meaning.specs.Rewriting.{only_if}
use Rattle.rewriting.proofs.Neighbours.{next_beside}
use Rattle.rewriting.proofs.derived.next_row.Goals as goal

pub returns-then-sees_neighbour : goal.returns-then-sees_neighbour
unfolding only_if
returns-then-sees_neighbour c m forms h =
    rw (← next_beside m forms, ← c.sees_neighbour.ensures, c.if-sees_neighbour.true) (c.row.ensures m forms h)

pub returns-else-sees_neighbour : goal.returns-else-sees_neighbour
unfolding only_if
returns-else-sees_neighbour c m forms h =
    rw (← next_beside m forms, ← c.sees_neighbour.ensures, c.if-sees_neighbour.false) (c.constant.ensures m)
