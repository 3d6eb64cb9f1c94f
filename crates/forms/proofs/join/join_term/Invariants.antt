-- `join_term` turns over, for each term of b, its union with term i.
use Rattle.std.proofs.Common.{◌≡◌}
use lib.Bits.{bit_or}
use lib.Dec.{eqb}
use Rattle.ground.specs.Bits.{bit_at}
use Rattle.forms.proofs.Joining.{Adding}
use Rattle.forms.proofs.join.join_term.Given as goal

abbrev pub invariant-loop-j : goal.invariant-loop-j
invariant-loop-j live =
    (goal.iterator-loop-j).can_next live.j-iterator × (goal.iterator-loop-j).is_finite live.j-iterator
    × (live.j-iterator.row.now ≡ live.b)
    × Adding live.b (bit_at live.initial.r) (λ x l. eqb (bit_or live.i x) l) live.r live.j-iterator.from
