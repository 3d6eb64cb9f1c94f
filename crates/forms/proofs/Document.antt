-- `and` and `put_in` are document 000's conjunction and substitution.
-- Assumes nothing.
use mathlib.Core.Path.{◌≡◌, refl, sym, ap, ap₂, ◌∙◌}
use mathlib.Core.Bool.{Bool, true, false, not, ◌&&◌, ◌||◌, cond, and-true, and-false, and_comm, and_assoc}
use mathlib.Core.Logic.{⊎_elim}
use Prim.Native.Nat.{ℕ, ◌^◌, ◌≤◌, ◌<◌}
use native.Mathlib.Nat.{zero-add}
use native.Mathlib.Omega.{arith}
use lib.Bits.{bit_or, or_lt}
use lib.Dec.{eqb}
use borrow.Author.Tests.{eq-eqb, ne_eqb, lt-ltb, le-ltb}
use Rattle.ground.specs.Fold.{◌⊕◌, fold, parity}
use Rattle.ground.specs.Bits.{bit}
use Rattle.ground.proofs.Folds.{less_or_not, fold_cong, fold_none, fold_both, fold_through}
use Rattle.ground.proofs.Folds.{parity_and, parity_swap, parity_cong, parity_one}
use Rattle.ground.proofs.Bits.{bit_or_lem}
use Rattle.forms.specs.Form.{Form, constant, xor, and, put_in, value, has}
use Rattle.forms.specs.Words.{bit_of, of_terms}
use Rattle.forms.specs.Document.{conjunct, substituted}
use Rattle.forms.proofs.Values.{value_constant, value_xor, value_and, value_put_in, canonical}
use Rattle.forms.proofs.Terms.{picked, has_of_terms, term_value, value_terms}

pub bit_of_low : (m : ℕ) (f : Form m) (k : ℕ) → k < 2 ^ m → bit_of m f k ≡ has m f (bit k)
unfolding bit_of
bit_of_low m f k h = ap (λ b. b && has m f (bit k)) (lt-ltb k (2 ^ m) h)

pub bit_of_high : (m : ℕ) (f : Form m) (k : ℕ) → 2 ^ m ≤ k → bit_of m f k ≡ false
unfolding bit_of
bit_of_high m f k h = ap (λ b. b && has m f (bit k)) (le-ltb k (2 ^ m) h)

-- the value by bits
value_bits : (m : ℕ) (f : Form m) (ρ : ℕ → Bool) → value m f ρ ≡ parity (2 ^ m) (λ k. bit_of m f k && term_value m k ρ)
value_bits m f ρ =
    value_terms m f ρ ∙ parity_cong (2 ^ m) _ _ (λ k h. ap (λ b. b && term_value m k ρ) (sym (bit_of_low m f k h)))

&&_mid : (a b c d : Bool) → (a && b && (c && d)) ≡ (a && c && (b && d))
&&_mid true b c d = sym (and_assoc b c d) ∙ ap (λ x. x && d) (and_comm b c) ∙ and_assoc c b d
&&_mid false b c d = refl

-- a union is true where both terms are
term_union : (m i j : ℕ) (ρ : ℕ → Bool) → term_value m (bit_or i j) ρ ≡ (term_value m i ρ && term_value m j ρ)
unfolding term_value
term_union m i j ρ =
    fold_cong ◌&&◌ true m (λ t. not (bit (bit_or i j) t) || ρ t)
    (λ t. (not (bit i t) || ρ t) && (not (bit j t) || ρ t))
    (λ t h. ap (λ b. not b || ρ t) (bit_or_lem i j t) ∙ either (bit i t) (bit j t) (ρ t))
    ∙ fold_both ◌&&◌ true and-true &&_mid m (λ t. not (bit i t) || ρ t) (λ t. not (bit j t) || ρ t)
  where
    either : (a b c : Bool) → (not (a || b) || c) ≡ ((not a || c) && (not b || c))
    either true true true = refl
    either true true false = refl
    either true false c = sym (and-true c)
    either false b c = refl

module _ (m : ℕ) (f g : Form m) (ρ : ℕ → Bool) where
  -- one pair of terms, over all k
  one_pair : (i j : ℕ) → i < 2 ^ m → j < 2 ^ m
      → parity (2 ^ m) (λ k. term_value m k ρ && (eqb (bit_or i j) k && (bit_of m f i && bit_of m g j)))
      ≡ ((bit_of m f i && term_value m i ρ) && (bit_of m g j && term_value m j ρ))
  one_pair i j h l =
      parity_one (2 ^ m) (λ k. term_value m k ρ && (eqb (bit_or i j) k && (bit_of m f i && bit_of m g j)))
      (bit_or i j) (or_lt m i j h l)
      (λ k a n.
      ap (λ b. term_value m k ρ && (b && (bit_of m f i && bit_of m g j))) (ne_eqb (bit_or i j) k (λ e. n (sym e)))
      ∙ and-false (term_value m k ρ))
      ∙ ap₂ (λ x b. x && (b && (bit_of m f i && bit_of m g j))) (term_union m i j ρ)
      (eq-eqb (bit_or i j) (bit_or i j) refl)
      ∙ &&_mid (term_value m i ρ) (term_value m j ρ) (bit_of m f i) (bit_of m g j)
      ∙ ap₂ ◌&&◌ (and_comm (term_value m i ρ) (bit_of m f i)) (and_comm (term_value m j ρ) (bit_of m g j))

  -- the value of the form with the conjunct's bits
  conjunct_value : parity (2 ^ m) (λ k. term_value m k ρ && conjunct m f g k) ≡ (value m f ρ && value m g ρ)
  unfolding conjunct
  conjunct_value =
      parity_cong (2 ^ m) _
      (λ k.
      parity (2 ^ m)
      (λ i. parity (2 ^ m) (λ j. term_value m k ρ && (eqb (bit_or i j) k && (bit_of m f i && bit_of m g j)))))
      (λ k h.
      parity_and (term_value m k ρ) (2 ^ m) _
      ∙ parity_cong (2 ^ m) _ _ (λ i l. parity_and (term_value m k ρ) (2 ^ m) _))
      ∙ parity_swap (2 ^ m) (2 ^ m) _
      ∙ parity_cong (2 ^ m) _ (λ i. (bit_of m f i && term_value m i ρ) && value m g ρ)
      (λ i h.
      parity_swap (2 ^ m) (2 ^ m) _
      ∙ parity_cong (2 ^ m) _ (λ j. (bit_of m f i && term_value m i ρ) && (bit_of m g j && term_value m j ρ))
      (λ j l. one_pair i j h l)
      ∙ sym (parity_and (bit_of m f i && term_value m i ρ) (2 ^ m) (λ j. bit_of m g j && term_value m j ρ))
      ∙ ap (λ b. (bit_of m f i && term_value m i ρ) && b) (sym (value_bits m g ρ)))
      ∙ parity_cong (2 ^ m) _ (λ i. value m g ρ && (bit_of m f i && term_value m i ρ))
      (λ i h. and_comm (bit_of m f i && term_value m i ρ) (value m g ρ))
      ∙ sym (parity_and (value m g ρ) (2 ^ m) (λ i. bit_of m f i && term_value m i ρ))
      ∙ ap (λ b. value m g ρ && b) (sym (value_bits m f ρ))
      ∙ and_comm (value m g ρ) (value m f ρ)

-- the form with the conjunct's bits
conjunction : (m : ℕ) (f g : Form m) → Form m
conjunction m f g = of_terms m (conjunct m f g) 0

conjunction_is : (m : ℕ) (f g : Form m) → conjunction m f g ≡ and m f g
unfolding conjunction
conjunction_is m f g =
    canonical m (conjunction m f g) (and m f g)
    (λ ρ.
    value_terms m (conjunction m f g) ρ
    ∙ parity_cong (2 ^ m) _ (λ k. term_value m k ρ && conjunct m f g k)
    (λ k h.
    ap (λ b. b && term_value m k ρ) (has_of_terms m (conjunct m f g) 0 k h ∙ ap (conjunct m f g) (zero-add k))
    ∙ and_comm (conjunct m f g k) (term_value m k ρ))
    ∙ conjunct_value m f g ρ ∙ sym (value_and m f g ρ))

-- `and` is document 000's, at every bit
pub and_document : (m : ℕ) (f g : Form m) (k : ℕ) → bit_of m (and m f g) k ≡ conjunct m f g k
unfolding conjunction conjunct
and_document m f g k =
    ⊎_elim
    (λ h.
    bit_of_low m (and m f g) k h ∙ ap (λ x. has m x (bit k)) (sym (conjunction_is m f g))
    ∙ has_of_terms m (conjunct m f g) 0 k h ∙ ap (conjunct m f g) (zero-add k))
    (λ h. bit_of_high m (and m f g) k h ∙ sym (none h)) (less_or_not k (2 ^ m))
  where
    none : 2 ^ m ≤ k → conjunct m f g k ≡ false
    none h =
        fold_none ◌⊕◌ false refl (2 ^ m) _
        (λ i l.
        fold_none ◌⊕◌ false refl (2 ^ m) _
        (λ j n.
        ap (λ b. b && (bit_of m f i && bit_of m g j))
        (ne_eqb (bit_or i j) k (λ e. let z : ⊥ = omega (arith, or_lt m i j l n) in z))))

-- what a term's parameters make together
term_put_in : (m n i : ℕ) (σ : ℕ → Form n) (ρ : ℕ → Bool)
    → value n (fold (and n) (constant n true) m (λ j. cond (bit i j) (σ j) (constant n true))) ρ
    ≡ term_value m i (λ j. value n (σ j) ρ)
unfolding term_value
term_put_in m n i σ ρ =
    fold_through (λ x. value n x ρ) (and n) (constant n true) ◌&&◌ true (value_constant n true ρ)
    (λ x y. value_and n x y ρ) m _
    ∙ fold_cong ◌&&◌ true m _ (λ j. not (bit i j) || value n (σ j) ρ)
    (λ j h.
    picked (bit i j) (λ b. value n (cond b (σ j) (constant n true)) ρ ≡ (not b || value n (σ j) ρ)) refl
    (value_constant n true ρ))

-- `put_in` is document 000's substitution
pub put_in_document : (m n : ℕ) (f : Form m) (σ : ℕ → Form n) → put_in m n f σ ≡ substituted m n f σ
unfolding substituted
put_in_document m n f σ =
    canonical n (put_in m n f σ) (substituted m n f σ)
    (λ ρ.
    value_put_in m n f σ ρ ∙ value_bits m f (λ j. value n (σ j) ρ)
    ∙ sym (fold_through (λ x. value n x ρ) (xor n) (constant n false) ◌⊕◌ false (value_constant n false ρ)
    (λ x y. value_xor n x y ρ) (2 ^ m) _
    ∙ parity_cong (2 ^ m) _ _
    (λ i h.
    let joined : Form n = fold (and n) (constant n true) m (λ j. cond (bit i j) (σ j) (constant n true)) in
    picked (bit_of m f i)
    (λ b. value n (cond b joined (constant n false)) ρ ≡ (b && term_value m i (λ j. value n (σ j) ρ)))
    (term_put_in m n i σ ρ) (value_constant n false ρ))))

-- its value fixes it
pub put_in_only : (m n : ℕ) (f : Form m) (σ : ℕ → Form n) (g : Form n)
    → ((ρ : ℕ → Bool) → value n g ρ ≡ value m f (λ j. value n (σ j) ρ)) → g ≡ put_in m n f σ
put_in_only m n f σ g h = canonical n g (put_in m n f σ) (λ ρ. h ρ ∙ sym (value_put_in m n f σ ρ))
