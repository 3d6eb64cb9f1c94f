-- Conjunction and substitution as document 000 computes them, term by term (section 3.2).
-- `proofs/Document.antt` shows them to be ours.
use Rattle.std.specs.Prelude.{Bool, true, false, ◌&&◌, cond, ℕ, ◌^◌, eqb}
use Rattle.std.specs.Int.Bits.{bit_or}
use Rattle.ground.specs.Fold.{fold, parity}
use Rattle.ground.specs.Bits.{bit}
use Rattle.forms.specs.Form.{Form, constant, xor, and}
use Rattle.forms.specs.Words.{bit_of}

-- bit k of the conjunction: the exclusive or, over all i and j with (i or j) = k, of bit i of f and bit j of g
unfoldable pub conjunct : (m : ℕ) → Form m → Form m → ℕ → Bool
conjunct m f g k = parity (2 ^ m) (λ i. parity (2 ^ m) (λ j. eqb (bit_or i j) k && (bit_of m f i && bit_of m g j)))

-- the substitution: the exclusive or, over the terms of f, of the conjunction of what is put in
-- for the term's parameters
unfoldable pub substituted : (m n : ℕ) → Form m → (ℕ → Form n) → Form n
substituted m n f σ =
    fold (xor n) (constant n false) (2 ^ m)
    (λ i.
    cond (bit_of m f i) (fold (and n) (constant n true) m (λ j. cond (bit i j) (σ j) (constant n true)))
    (constant n false))
