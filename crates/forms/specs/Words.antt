-- A form in 64 words (document 01, "Work area and state").
use Rattle.std.specs.Prelude.{Bool, ◌&&◌, ◌||◌, not, List, ℕ, zero, suc, ◌+◌, ◌*◌, ◌^◌, ltb, length}
use Rattle.ground.specs.Fold.{tab, every}
use Rattle.ground.specs.Bits.{bit, of_bits, bit_at}
use Rattle.forms.specs.Form.{Form, has}

-- the parameters that 64 words have room for
unfoldable pub most : ℕ
most = 12

-- bit k of a form says whether it has the term of k's one-bits; bits from 2^m on are zero
unfoldable pub bit_of : (m : ℕ) → Form m → ℕ → Bool
bit_of m f k = ltb k (2 ^ m) && has m f (bit k)

-- the words of a form: bit k is bit k mod 64 of word k div 64
unfoldable pub pack : (m : ℕ) → Form m → List ℕ
pack m f = tab 64 (λ i. of_bits 64 (λ t. bit_of m f (64 * i + t)))

-- the form over m parameters whose bit k is g (from + k)
unfoldable pub of_terms : (m : ℕ) → (ℕ → Bool) → ℕ → Form m
of_terms zero g from = g from
of_terms (suc m) g from = (of_terms m g from, of_terms m g (from + 2 ^ m))

-- the form of words
unfoldable pub unpack : (m : ℕ) → List ℕ → Form m
unpack m ws = of_terms m (bit_at ws) 0

-- words with no bit at or above 2^m
unfoldable pub fits : ℕ → List ℕ → Bool
fits m ws = every (64 * length ws) (λ k. ltb k (2 ^ m) || not (bit_at ws k))
