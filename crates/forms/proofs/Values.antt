-- The value of each form, and that its values fix a form: the laws that the rewriting cites.
-- Assumes nothing.
use mathlib.Core.Path.{◌≡◌, refl, sym, ap, ap₂, ◌∙◌}
use mathlib.Core.Bool.{Bool, true, false, ◌&&◌, ◌||◌, cond, and-true, and-false}
use Prim.Native.Nat.{ℕ, zero, suc, ◌≤◌, ◌<◌}
use native.Mathlib.Omega.{arith}
use lib.Dec.{eqb}
use borrow.Author.Tests.{eq-eqb, ne_eqb, eqb-true, eqb-false}
use Rattle.ground.specs.Fold.{◌⊕◌}
use Rattle.ground.proofs.Xor.{⊕_false, ⊕_cancel, ⊕_inj, &&_⊕, or_⊕}
use Rattle.ground.proofs.Folds.{⊕_mid}
use Rattle.forms.specs.Form.{Form, constant, parameter, xor, and, or, put_in, value}

pub pairs : (m : ℕ) {a b c d : Form m} → a ≡ b → c ≡ d → ◌≡◌ {A = Form (suc m)} (a, c) (b, d)
pairs m p q = λ i. (p i, q i)

-- the value looks only at the parameters below m
pub value_agree : (m : ℕ) (f : Form m) (ρ ρ' : ℕ → Bool) → ((j : ℕ) → j < m → ρ j ≡ ρ' j) → value m f ρ ≡ value m f ρ'
unfolding value
value_agree zero f ρ ρ' h = refl
value_agree (suc m) f ρ ρ' h =
    ap₂ ◌⊕◌ (value_agree m f.0 ρ ρ' (λ j l. h j (omega arith)))
    (ap₂ ◌&&◌ (h m (omega arith)) (value_agree m f.1 ρ ρ' (λ j l. h j (omega arith))))

pub value_constant : (m : ℕ) (b : Bool) (ρ : ℕ → Bool) → value m (constant m b) ρ ≡ b
unfolding value constant
value_constant zero b ρ = refl
value_constant (suc m) b ρ =
    ap₂ (λ x y. x ⊕ (ρ m && y)) (value_constant m b ρ) (value_constant m false ρ)
    ∙ ap (λ y. b ⊕ y) (and-false (ρ m)) ∙ ⊕_false b

pub value_parameter : (m p : ℕ) (ρ : ℕ → Bool) → p < m → value m (parameter m p) ρ ≡ ρ p
unfolding value parameter
value_parameter zero p ρ h = let z : ⊥ = omega arith in absurd z
value_parameter (suc m) p ρ h = go (eqb p m) refl (value_parameter m p ρ)
  where
    go : (b : Bool) → eqb p m ≡ b → (p < m → value m (parameter m p) ρ ≡ ρ p)
        → value (suc m) (cond b (constant m false, constant m true) (parameter m p, constant m false)) ρ ≡ ρ p
    go true e r =
        ap₂ (λ x y. x ⊕ (ρ m && y)) (value_constant m false ρ) (value_constant m true ρ)
        ∙ and-true (ρ m) ∙ ap ρ (sym (eqb-true p m e))
    go false e r =
        let ne : p ≡ m → ⊥ = eqb-false p m e in
        let l : p < m = omega arith in
        ap₂ (λ x y. x ⊕ (ρ m && y)) (r l) (value_constant m false ρ) ∙ ap (λ y. ρ p ⊕ y) (and-false (ρ m))
        ∙ ⊕_false (ρ p)

-- there is no parameter from m on
pub parameter_none : (m p : ℕ) → m ≤ p → parameter m p ≡ constant m false
unfolding parameter constant
parameter_none zero p h = refl
parameter_none (suc m) p h =
    ap (λ b. cond b (constant m false, constant m true) (parameter m p, constant m false))
    (ne_eqb p m (λ e. let z : ⊥ = omega arith in z))
    ∙ pairs m (parameter_none m p (omega arith)) refl

pub value_xor : (m : ℕ) (f g : Form m) (ρ : ℕ → Bool) → value m (xor m f g) ρ ≡ value m f ρ ⊕ value m g ρ
unfolding value xor
value_xor zero f g ρ = refl
value_xor (suc m) f g ρ =
    ap₂ (λ x y. x ⊕ (ρ m && y)) (value_xor m f.0 g.0 ρ) (value_xor m f.1 g.1 ρ)
    ∙ ap (λ y. value m f.0 ρ ⊕ value m g.0 ρ ⊕ y) (&&_⊕ (ρ m) (value m f.1 ρ) (value m g.1 ρ))
    ∙ ⊕_mid (value m f.0 ρ) (value m g.0 ρ) (ρ m && value m f.1 ρ) (ρ m && value m g.1 ρ)

and_step : (p a₀ a₁ b₀ b₁ : Bool)
    → (a₀ && b₀) ⊕ (p && ((a₀ && b₀) ⊕ ((a₀ ⊕ a₁) && (b₀ ⊕ b₁)))) ≡ ((a₀ ⊕ (p && a₁)) && (b₀ ⊕ (p && b₁)))
and_step true a₀ a₁ b₀ b₁ = ⊕_cancel (a₀ && b₀) ((a₀ ⊕ a₁) && (b₀ ⊕ b₁))
and_step false a₀ a₁ b₀ b₁ = ⊕_false (a₀ && b₀) ∙ sym (ap₂ ◌&&◌ (⊕_false a₀) (⊕_false b₀))

pub value_and : (m : ℕ) (f g : Form m) (ρ : ℕ → Bool) → value m (and m f g) ρ ≡ (value m f ρ && value m g ρ)
unfolding value and
value_and zero f g ρ = refl
value_and (suc m) f g ρ =
    let low : Form m = and m f.0 g.0 in
    let both : Form m = and m (xor m f.0 f.1) (xor m g.0 g.1) in
    ap₂ (λ x y. x ⊕ (ρ m && y)) (value_and m f.0 g.0 ρ)
    (value_xor m low both ρ
    ∙ ap₂ ◌⊕◌ (value_and m f.0 g.0 ρ)
    (value_and m (xor m f.0 f.1) (xor m g.0 g.1) ρ
    ∙ ap₂ ◌&&◌ (value_xor m f.0 f.1 ρ) (value_xor m g.0 g.1 ρ)))
    ∙ and_step (ρ m) (value m f.0 ρ) (value m f.1 ρ) (value m g.0 ρ) (value m g.1 ρ)

pub value_or : (m : ℕ) (f g : Form m) (ρ : ℕ → Bool) → value m (or m f g) ρ ≡ (value m f ρ || value m g ρ)
unfolding or
value_or m f g ρ =
    value_xor m (xor m f g) (and m f g) ρ ∙ ap₂ ◌⊕◌ (value_xor m f g ρ) (value_and m f g ρ)
    ∙ or_⊕ (value m f ρ) (value m g ρ)

pub value_put_in : (m n : ℕ) (f : Form m) (σ : ℕ → Form n) (ρ : ℕ → Bool)
    → value n (put_in m n f σ) ρ ≡ value m f (λ j. value n (σ j) ρ)
unfolding value put_in
value_put_in zero n f σ ρ = value_constant n f ρ
value_put_in (suc m) n f σ ρ =
    value_xor n (put_in m n f.0 σ) (and n (σ m) (put_in m n f.1 σ)) ρ
    ∙ ap₂ ◌⊕◌ (value_put_in m n f.0 σ ρ)
    (value_and n (σ m) (put_in m n f.1 σ) ρ ∙ ap (λ x. value n (σ m) ρ && x) (value_put_in m n f.1 σ ρ))

-- a setting with parameter m set to b
set_at : (ℕ → Bool) → ℕ → Bool → ℕ → Bool
set_at ρ m b j = cond (eqb j m) b (ρ j)

value_set : (m : ℕ) (f : Form (suc m)) (ρ : ℕ → Bool) (b : Bool)
    → value (suc m) f (set_at ρ m b) ≡ value m f.0 ρ ⊕ (b && value m f.1 ρ)
unfolding value set_at
value_set m f ρ b =
    ap₂ ◌⊕◌ (below f.0) (ap₂ ◌&&◌ (ap (λ t. cond t b (ρ m)) (eq-eqb m m refl)) (below f.1))
  where
    below : (g : Form m) → value m g (λ j. cond (eqb j m) b (ρ j)) ≡ value m g ρ
    below g =
        value_agree m g (λ j. cond (eqb j m) b (ρ j)) ρ
        (λ j h. ap (λ t. cond t b (ρ j)) (ne_eqb j m (λ e. let z : ⊥ = omega arith in z)))

-- two forms with the same value everywhere are equal
pub canonical : (m : ℕ) (f g : Form m) → ((ρ : ℕ → Bool) → value m f ρ ≡ value m g ρ) → f ≡ g
unfolding value
canonical zero f g h = h (λ j. false)
canonical (suc m) f g h =
    let low : (ρ : ℕ → Bool) → value m f.0 ρ ≡ value m g.0 ρ
    = λ ρ. sym (⊕_false (value m f.0 ρ)) ∙ sym (value_set m f ρ false) ∙ h (set_at ρ m false)
    ∙ value_set m g ρ false ∙ ⊕_false (value m g.0 ρ) in
    let high : (ρ : ℕ → Bool) → value m f.1 ρ ≡ value m g.1 ρ
    = λ ρ. ⊕_inj (value m f.0 ρ) (value m f.1 ρ) (value m g.1 ρ)
    (sym (value_set m f ρ true) ∙ h (set_at ρ m true) ∙ value_set m g ρ true
    ∙ ap (λ x. x ⊕ value m g.1 ρ) (sym (low ρ))) in
    pairs m (canonical m f.0 g.0 low) (canonical m f.1 g.1 high)
