-- The terms of a form: which it has, and its value by them.
-- Assumes nothing.
use mathlib.Core.Path.{◌≡◌, refl, sym, ap, ap₂, ◌∙◌, subst}
use mathlib.Core.Bool.{Bool, true, false, not, ◌&&◌, ◌||◌, cond, and-true, and_comm, and_assoc}
use mathlib.Core.Logic.{⊎_elim}
use Prim.Native.Nat.{ℕ, zero, suc, ◌+◌, ◌-◌, ◌^◌, ◌<◌}
use native.Mathlib.Nat.{two-pow-succ, add_assoc}
use native.Mathlib.Omega.{arith}
use borrow.Author.Tests.{eq-eqb, ne_eqb}
use Rattle.ground.specs.Fold.{◌⊕◌, fold, every, parity}
use Rattle.ground.specs.Bits.{bit}
use Rattle.ground.proofs.Folds.{less_or_not, fold_cong, parity_and, parity_halves, parity_cong}
use Rattle.ground.proofs.Bits.{bit_plus, bit_over}
use Rattle.forms.specs.Form.{Form, constant, xor, value, has}
use Rattle.forms.specs.Words.{of_terms}
use Rattle.forms.proofs.Values.{pairs}

-- what holds at true and at false holds at a bit
pub picked : (b : Bool) (P : Bool → Type 0) → P true → P false → P b
picked true P x y = x
picked false P x y = y

-- a term is its parameters below m
pub has_agree : (m : ℕ) (f : Form m) (S S' : ℕ → Bool) → ((j : ℕ) → j < m → S j ≡ S' j) → has m f S ≡ has m f S'
unfolding has
has_agree zero f S S' h = refl
has_agree (suc m) f S S' h =
    ap (λ b. has m (cond b f.1 f.0) S) (h m (omega arith))
    ∙ has_agree m (cond (S' m) f.1 f.0) S S' (λ j l. h j (omega arith))

pub has_xor : (m : ℕ) (f g : Form m) (S : ℕ → Bool) → has m (xor m f g) S ≡ has m f S ⊕ has m g S
unfolding has xor
has_xor zero f g S = refl
has_xor (suc m) f g S =
    picked (S m)
    (λ b.
    has m (cond b (xor m f.1 g.1) (xor m f.0 g.0)) S
    ≡ has m (cond b f.1 f.0) S ⊕ has m (cond b g.1 g.0) S)
    (has_xor m f.1 g.1 S) (has_xor m f.0 g.0 S)

pub has_false : (m : ℕ) (S : ℕ → Bool) → has m (constant m false) S ≡ false
unfolding has constant
has_false zero S = refl
has_false (suc m) S =
    picked (S m) (λ b. has m (cond b (constant m false) (constant m false)) S ≡ false) (has_false m S) (has_false m S)

-- the bits of 2 ^ m + k, for k below 2 ^ m
pub high_bit : (m k : ℕ) → k < 2 ^ m → bit (2 ^ m + k) m ≡ true
high_bit m k h = bit_plus m k m h ∙ ap₂ ◌⊕◌ (eq-eqb m m refl) (bit_over k m h)

pub low_bit : (m k j : ℕ) → k < 2 ^ m → j < m → bit (2 ^ m + k) j ≡ bit k j
low_bit m k j h l = bit_plus m k j h ∙ ap (λ b. b ⊕ bit k j) (ne_eqb m j (λ e. let z : ⊥ = omega arith in z))

-- term k of the first half, and of the second
pub has_low : (m : ℕ) (f : Form (suc m)) (k : ℕ) → k < 2 ^ m → has (suc m) f (bit k) ≡ has m f.0 (bit k)
unfolding has
has_low m f k h = ap (λ b. has m (cond b f.1 f.0) (bit k)) (bit_over k m h)

pub has_high : (m : ℕ) (f : Form (suc m)) (k : ℕ) → k < 2 ^ m → has (suc m) f (bit (2 ^ m + k)) ≡ has m f.1 (bit k)
unfolding has
has_high m f k h =
    ap (λ b. has m (cond b f.1 f.0) (bit (2 ^ m + k))) (high_bit m k h)
    ∙ has_agree m f.1 (bit (2 ^ m + k)) (bit k) (λ j l. low_bit m k j h l)

-- a form is its terms
pub terms_same : (m : ℕ) (f g : Form m) → ((k : ℕ) → k < 2 ^ m → has m f (bit k) ≡ has m g (bit k)) → f ≡ g
unfolding has
terms_same zero f g h = h 0 (omega arith)
terms_same (suc m) f g h =
    pairs m
    (terms_same m f.0 g.0
    (λ k l. sym (has_low m f k l) ∙ h k (omega (arith, two-pow-succ m)) ∙ has_low m g k l))
    (terms_same m f.1 g.1
    (λ k l. sym (has_high m f k l) ∙ h (2 ^ m + k) (omega (arith, two-pow-succ m)) ∙ has_high m g k l))

-- what holds of each half of the numbers below 2 ^ (m + 1) holds of all
pub by_halves : (P : ℕ → Type 0) (m : ℕ) → ((k : ℕ) → k < 2 ^ m → P k) → ((k : ℕ) → k < 2 ^ m → P (2 ^ m + k))
    → (k : ℕ) → k < 2 ^ suc m → P k
by_halves P m low high k h =
    ⊎_elim (low k)
    (λ l.
    let e : 2 ^ m + (k - 2 ^ m) ≡ k = omega arith in
    subst P e (high (k - 2 ^ m) (omega (arith, two-pow-succ m))))
    (less_or_not k (2 ^ m))

pub has_of_terms : (m : ℕ) (g : ℕ → Bool) (from k : ℕ) → k < 2 ^ m → has m (of_terms m g from) (bit k) ≡ g (from + k)
unfolding has of_terms
has_of_terms zero g from k h = ap g (let e : from ≡ from + k = omega arith in e)
has_of_terms (suc m) g from k h =
    by_halves (λ i. has (suc m) (of_terms (suc m) g from) (bit i) ≡ g (from + i)) m
    (λ i l. has_low m (of_terms (suc m) g from) i l ∙ has_of_terms m g from i l)
    (λ i l.
    has_high m (of_terms (suc m) g from) i l ∙ has_of_terms m g (from + 2 ^ m) i l ∙ ap g (add_assoc from (2 ^ m) i))
    k h

-- the value of term k: all its parameters are true
unfoldable pub term_value : ℕ → ℕ → (ℕ → Bool) → Bool
term_value m k ρ = every m (λ j. not (bit k j) || ρ j)

term_low : (m k : ℕ) (ρ : ℕ → Bool) → k < 2 ^ m → term_value (suc m) k ρ ≡ term_value m k ρ
unfolding term_value fold
term_low m k ρ h = ap (λ b. term_value m k ρ && (not b || ρ m)) (bit_over k m h) ∙ and-true (term_value m k ρ)

term_high : (m k : ℕ) (ρ : ℕ → Bool) → k < 2 ^ m → term_value (suc m) (2 ^ m + k) ρ ≡ (term_value m k ρ && ρ m)
unfolding term_value fold
term_high m k ρ h =
    ap₂ (λ x b. x && (not b || ρ m))
    (fold_cong ◌&&◌ true m (λ j. not (bit (2 ^ m + k) j) || ρ j) (λ j. not (bit k j) || ρ j)
    (λ j l. ap (λ b. not b || ρ j) (low_bit m k j h l)))
    (high_bit m k h)

-- a form's value is the parity of its true terms
pub value_terms : (m : ℕ) (f : Form m) (ρ : ℕ → Bool)
    → value m f ρ ≡ parity (2 ^ m) (λ k. has m f (bit k) && term_value m k ρ)
unfolding value has term_value fold
value_terms zero f ρ = sym (and-true f)
value_terms (suc m) f ρ =
    ap₂ (λ x y. x ⊕ (ρ m && y)) (value_terms m f.0 ρ) (value_terms m f.1 ρ)
    ∙ ap (λ y. parity (2 ^ m) (λ k. has m f.0 (bit k) && term_value m k ρ) ⊕ y)
    (parity_and (ρ m) (2 ^ m) (λ k. has m f.1 (bit k) && term_value m k ρ))
    ∙ sym (parity_halves m (λ k. has (suc m) f (bit k) && term_value (suc m) k ρ)
    ∙ ap₂ ◌⊕◌ (parity_cong (2 ^ m) _ _ (λ k h. ap₂ ◌&&◌ (has_low m f k h) (term_low m k ρ h)))
    (parity_cong (2 ^ m) _ _
    (λ k h. ap₂ ◌&&◌ (has_high m f k h) (term_high m k ρ h) ∙ turn (has m f.1 (bit k)) (term_value m k ρ) (ρ m))))
  where
    turn : (a b c : Bool) → (a && (b && c)) ≡ (c && (a && b))
    turn a b c = sym (and_assoc a b c) ∙ and_comm (a && b) c
