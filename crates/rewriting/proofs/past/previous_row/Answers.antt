-- `past::previous_row` reads left where the record beside is in the interval.
use Rattle.meaning.specs.Rewriting.{put, only_if}
use Rattle.rewriting.specs.inside.Steps.{previous_of}
use Rattle.rewriting.proofs.Neighbours.{previous_beside}
use Rattle.rewriting.proofs.past.previous_row.Goals as goal

pub returns-then-sees_neighbour : goal.returns-then-sees_neighbour
unfolding previous_of only_if put
returns-then-sees_neighbour c forms derived past e hm ht =
    let few = c.args.step.few in
    rw (← previous_beside _ forms, ← c.sees_neighbour.ensures, c.if-sees_neighbour.true)
    (c.put_in.ensures _ _ past few (c.put_in-with_derived.ensures _ _ derived few e ht) hm)

pub returns-else-sees_neighbour : goal.returns-else-sees_neighbour
unfolding previous_of only_if
returns-else-sees_neighbour c forms derived past e hm ht =
    rw (← previous_beside _ forms, ← c.sees_neighbour.ensures, c.if-sees_neighbour.false) (c.constant.ensures _)
