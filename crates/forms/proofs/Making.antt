-- Rows that are made: of one term, of constants, of parameters and of the exclusive or.
-- Assumes nothing.
use mathlib.Core.Path.{◌≡◌, refl, sym, ap, ap₂, ◌∙◌, subst}
use mathlib.Core.Bool.{Bool, true, false, ◌&&◌, cond, and-true, and-false}
use mathlib.Core.Logic.{⊎_elim}
use mathlib.Core.List.{List}
use Prim.Native.Nat.{ℕ, zero, suc, ◌+◌, ◌*◌, ◌/◌, ◌%◌, ◌^◌, ◌≤◌, ◌<◌}
use native.Mathlib.Omega.{arith}
use lib.Bits.{bit_xor, xor_lt, xor_zero_l, xor_zero_r}
use lib.Dec.{eqb}
use lib.ListN.{length, get_or, set, replicate}
use lib.Pow.{pow-lt, pow_mono, pow_pos}
use lib.Seq.{set-get_or}
use borrow.Author.Tests.{eq-eqb, ne_eqb, eqb-true, eqb-false}
use Rattle.ground.specs.Fold.{◌⊕◌}
use Rattle.ground.specs.Bits.{bit, bit_at, Words}
use Rattle.ground.proofs.Folds.{less_or_not}
use Rattle.ground.proofs.Bits.{bit_xor_lem}
use Rattle.ground.proofs.Numbers.{zero_at, zero_words, zero_bit}
use Rattle.forms.specs.Form.{Form, constant, parameter, xor, has}
use Rattle.forms.specs.Words.{bit_of, pack}
use Rattle.forms.specs.inside.Steps.{Alone}
use Rattle.forms.proofs.Values.{parameter_none}
use Rattle.forms.proofs.Ring.{xor_form_false}
use Rattle.forms.proofs.Terms.{has_false, has_low, has_high, by_halves}
use Rattle.forms.proofs.Document.{bit_of_low, bit_of_high}
use Rattle.forms.proofs.Packing.{bit_of_false, bit_of_xor, word_lt, word_bit, bit_pack, pack_words}
use Rattle.forms.proofs.Packing.{pack_by, pack_is, pack_false}
use Rattle.forms.proofs.Joining.{flip, flip_words, flip_bit}

-- the code's store into zeros: the row of term k alone
pub alone_row : (k : ℕ) → k < 4096 → Alone k (set (replicate 64 0) (k / 64) ((1 * 2 ^ (k % 64)) % 2 ^ 64))
alone_row k h = record {
  words = subst (λ r. Words 64 r) stored (flip_words (replicate 64 0) k h (zero_words 64));
  bits = λ l _.
      ap (λ r. bit_at r l) (sym stored) ∙ flip_bit (replicate 64 0) k l h (zero_words 64)
      ∙ ap (λ b. b ⊕ eqb k l) (zero_bit 64 l);
}
  where
    stored : flip (replicate 64 0) k ≡ set (replicate 64 0) (k / 64) ((1 * 2 ^ (k % 64)) % 2 ^ 64)
    stored =
        let v : ℕ = (1 * 2 ^ (k % 64)) % 2 ^ 64 in
        ap (λ x. set (replicate 64 0) (k / 64) x)
        (ap (λ x. bit_xor x v) (zero_at 64 (k / 64)) ∙ xor_zero_l v)

-- true has the empty term alone
pub has_true : (m k : ℕ) → k < 2 ^ m → has m (constant m true) (bit k) ≡ eqb 0 k
unfolding has constant
has_true zero k h = sym (eq-eqb 0 k (omega arith))
has_true (suc m) k h =
    by_halves (λ i. has (suc m) (constant (suc m) true) (bit i) ≡ eqb 0 i) m
    (λ i l. has_low m (constant (suc m) true) i l ∙ has_true m i l)
    (λ i l. has_high m (constant (suc m) true) i l ∙ has_false m (bit i) ∙ sym (ne_eqb 0 (2 ^ m + i) (positive i)))
    k h
  where
    positive : (i : ℕ) → 0 ≡ 2 ^ m + i → ⊥
    positive i e = omega (arith, pow_pos m)

-- two tests that pass together
tests_same : (a b c d : ℕ) → (a ≡ b → c ≡ d) → (c ≡ d → a ≡ b) → eqb a b ≡ eqb c d
tests_same a b c d to back = go (eqb a b) refl
  where
    go : (x : Bool) → eqb a b ≡ x → eqb a b ≡ eqb c d
    go true e = e ∙ sym (eq-eqb c d (to (eqb-true a b e)))
    go false e = e ∙ sym (ne_eqb c d (λ q. eqb-false a b e (back q)))

-- parameter p has the term of p alone
pub has_parameter : (m p k : ℕ) → p < m → k < 2 ^ m → has m (parameter m p) (bit k) ≡ eqb (2 ^ p) k
unfolding has parameter
has_parameter zero p k h l = let z : ⊥ = omega arith in absurd z
has_parameter (suc m) p k h l = go (eqb p m) refl (λ i s. has_parameter m p i s)
  where
    go : (b : Bool) → eqb p m ≡ b → ((i : ℕ) → p < m → i < 2 ^ m → has m (parameter m p) (bit i) ≡ eqb (2 ^ p) i)
        → has (suc m) (cond b (constant m false, constant m true) (parameter m p, constant m false)) (bit k)
        ≡ eqb (2 ^ p) k
    go true e r =
        let at : 2 ^ p ≡ 2 ^ m = ap (λ x. 2 ^ x) (eqb-true p m e) in
        let f : Form (suc m) = (constant m false, constant m true) in
        by_halves (λ i. has (suc m) f (bit i) ≡ eqb (2 ^ p) i) m
        (λ i s.
        has_low m f i s ∙ has_false m (bit i) ∙ sym (ne_eqb (2 ^ p) i (λ q. let z : ⊥ = omega arith in z)))
        (λ i s.
        has_high m f i s ∙ has_true m i s
        ∙ tests_same 0 i (2 ^ p) (2 ^ m + i) (λ q. omega arith) (λ q. omega arith))
        k l
    go false e r =
        let other : p ≡ m → ⊥ = eqb-false p m e in
        let below : p < m = omega arith in
        let less : 2 ^ p < 2 ^ m = pow-lt below in
        let f : Form (suc m) = (parameter m p, constant m false) in
        by_halves (λ i. has (suc m) f (bit i) ≡ eqb (2 ^ p) i) m
        (λ i s. has_low m f i s ∙ r i below s)
        (λ i s.
        has_high m f i s ∙ has_false m (bit i)
        ∙ sym (ne_eqb (2 ^ p) (2 ^ m + i) (λ q. let z : ⊥ = omega arith in z)))
        k l

-- a form with term n alone, bit by bit
bit_alone : (m : ℕ) (f : Form m) (n : ℕ) → n < 2 ^ m → ((k : ℕ) → k < 2 ^ m → has m f (bit k) ≡ eqb n k)
    → (k : ℕ) → bit_of m f k ≡ eqb n k
bit_alone m f n h p k =
    ⊎_elim (λ l. bit_of_low m f k l ∙ p k l)
    (λ l. bit_of_high m f k l ∙ sym (ne_eqb n k (λ q. let z : ⊥ = omega arith in z))) (less_or_not k (2 ^ m))

-- the constants and a parameter, bit by bit
pub bit_of_true : (m k : ℕ) → bit_of m (constant m true) k ≡ eqb 0 k
bit_of_true m = bit_alone m (constant m true) 0 (pow_pos m) (has_true m)

pub bit_of_constant : (m : ℕ) (b : Bool) (k : ℕ) → bit_of m (constant m b) k ≡ (eqb 0 k && b)
bit_of_constant m true k = bit_of_true m k ∙ sym (and-true (eqb 0 k))
bit_of_constant m false k = bit_of_false m k ∙ sym (and-false (eqb 0 k))

pub bit_of_parameter : (m p k : ℕ) → p < m → bit_of m (parameter m p) k ≡ eqb (2 ^ p) k
bit_of_parameter m p k h = bit_alone m (parameter m p) (2 ^ p) (pow-lt h) (λ i l. has_parameter m p i h l) k

-- their rows
pub true_row : (m : ℕ) (r : List ℕ) → Alone 0 r → r ≡ pack m (constant m true)
true_row m r a = pack_is m (constant m true) r a.words (λ k l. a.bits k l ∙ sym (bit_of_true m k))

pub parameter_row : (m p : ℕ) (r : List ℕ) → p < m → Alone (2 ^ p) r → r ≡ pack m (parameter m p)
parameter_row m p r h a =
    pack_is m (parameter m p) r a.words (λ k l. a.bits k l ∙ sym (bit_of_parameter m p k h))

-- a parameter for which the words have no room
pub parameter_far : (m p : ℕ) → p < m → 12 ≤ p → replicate 64 0 ≡ pack m (parameter m p)
parameter_far m p h far =
    pack_is m (parameter m p) (replicate 64 0) (zero_words 64)
    (λ k l.
    let room : 2 ^ 12 ≤ 2 ^ p = pow_mono far in
    zero_bit 64 k ∙ sym (bit_of_parameter m p k h ∙ ne_eqb (2 ^ p) k (λ q. let z : ⊥ = omega arith in z)))

-- there is no such parameter
pub parameter_past : (m p : ℕ) → m ≤ p → replicate 64 0 ≡ pack m (parameter m p)
parameter_past m p h = pack_false m ∙ ap (pack m) (sym (parameter_none m p h))

-- word by word, the exclusive or of two rows
pub xor_row : (m : ℕ) (f g : Form m) (a b r : List ℕ) → a ≡ pack m f → b ≡ pack m g → length r ≡ 64
    → ((i : ℕ) → i < 64 → get_or r i 0 ≡ bit_xor (get_or a i 0) (get_or b i 0)) → r ≡ pack m (xor m f g)
xor_row m f g a b r ea eb long each =
    pack_by m (xor m f g) r long
    (λ i h.
    subst (λ x. x < 2 ^ 64) (sym (each i h))
    (xor_lt 64 (get_or a i 0) (get_or b i 0) (word_lt m f a i ea) (word_lt m g b i eb)))
    (λ i t h l.
    ap (λ x. bit x t) (each i h) ∙ bit_xor_lem (get_or a i 0) (get_or b i 0) t
    ∙ ap₂ ◌⊕◌ (word_bit m f a i t ea h l) (word_bit m g b i t eb h l) ∙ sym (bit_of_xor m f g (64 * i + t)))

-- the code's store into the first word: true is added where w is odd
pub negated_row : (m : ℕ) (f : Form m) (r : List ℕ) (w : ℕ) → r ≡ pack m f
    → set r 0 (bit_xor (get_or r 0 0) (w % 2)) ≡ pack m (xor m f (constant m (bit w 0)))
unfolding bit
negated_row m f r w e = go (eqb (w / 2 ^ 0 % 2) 1) refl
  where
    words : Words 64 r
    words = subst (λ x. Words 64 x) (sym e) (pack_words m f)

    added : set r 0 (bit_xor (get_or r 0 0) 1) ≡ pack m (xor m f (constant m true))
    added =
        pack_is m (xor m f (constant m true)) (flip r 0) (flip_words r 0 (omega arith) words)
        (λ k l.
        flip_bit r 0 k (omega arith) words
        ∙ ap₂ ◌⊕◌ (ap (λ x. bit_at x k) e ∙ bit_pack m f k l) (sym (bit_of_true m k))
        ∙ sym (bit_of_xor m f (constant m true) k))

    go : (b : Bool) → eqb (w / 2 ^ 0 % 2) 1 ≡ b
        → set r 0 (bit_xor (get_or r 0 0) (w % 2)) ≡ pack m (xor m f (constant m (eqb (w / 2 ^ 0 % 2) 1)))
    go true q =
        let one : w % 2 ≡ 1 = omega (arith, eqb-true (w / 2 ^ 0 % 2) 1 q) in
        ap (λ x. set r 0 (bit_xor (get_or r 0 0) x)) one ∙ added ∙ ap (λ b. pack m (xor m f (constant m b))) (sym q)
    go false q =
        let odd : w / 2 ^ 0 % 2 ≡ 1 → ⊥ = eqb-false (w / 2 ^ 0 % 2) 1 q in
        let none : w % 2 ≡ 0 = omega arith in
        ap (λ x. set r 0 (bit_xor (get_or r 0 0) x)) none ∙ ap (set r 0) (xor_zero_r (get_or r 0 0)) ∙ set-get_or r 0 0
        ∙ e ∙ ap (pack m) (sym (xor_form_false m f)) ∙ ap (λ b. pack m (xor m f (constant m b))) (sym q)
