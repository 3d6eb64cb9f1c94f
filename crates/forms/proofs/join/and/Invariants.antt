-- `and` joins each term of a with each term of b: document 000's conjunction.
use Rattle.std.proofs.Common.{◌≡◌, false, ◌&&◌}
use lib.Bits.{bit_or}
use lib.Dec.{eqb}
use Rattle.ground.specs.Fold.{parity}
use Rattle.ground.specs.Bits.{bit_at}
use Rattle.forms.proofs.Joining.{Adding}
use Rattle.forms.proofs.join.and.Given as goal

abbrev pub invariant-loop-i : goal.invariant-loop-i
invariant-loop-i live =
    (goal.iterator-loop-i).can_next live.i-iterator × (goal.iterator-loop-i).is_finite live.i-iterator
    × (live.i-iterator.row.now ≡ live.fn.a)
    × Adding live.fn.a (λ l. false) (λ x l. parity 4096 (λ j. bit_at live.fn.b j && eqb (bit_or x j) l)) live.r
    live.i-iterator.from
