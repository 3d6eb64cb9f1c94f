-- What a form depends on: by its values, through the operations, and by the parameters that it names.
-- Assumes nothing.
use mathlib.Core.Path.{◌≡◌, refl, sym, ap, ap₂, ◌∙◌, subst}
use mathlib.Core.Bool.{Bool, true, false, not, ◌&&◌, ◌||◌, cond, and-false, true≢false}
use Prim.Native.Nat.{ℕ, zero, suc, ◌^◌, ◌<◌}
use native.Mathlib.Decide.{dec_lt}
use native.Mathlib.Omega.{arith}
use lib.Dec.{eqb}
use borrow.Author.Tests.{eq-eqb, ne_eqb, eqb-true, eqb-false}
use Rattle.ground.specs.Fold.{◌⊕◌}
use Rattle.ground.specs.Bits.{bit}
use Rattle.ground.proofs.Folds.{fold_cong, parity_cong, some_at, some_none}
use Rattle.ground.proofs.Bits.{bit_above}
use Rattle.forms.specs.Form.{Form, constant, parameter, xor, and, or, put_in, value, DependsOn, has, names}
use Rattle.forms.proofs.Values.{value_agree, value_constant, value_parameter}
use Rattle.forms.proofs.Values.{value_xor, value_and, value_put_in, canonical}
use Rattle.forms.proofs.Terms.{picked, has_false, term_value, value_terms}

-- a form with one value everywhere is the constant
pub constant_is : (m : ℕ) (f : Form m) (b : Bool) → ((ρ : ℕ → Bool) → value m f ρ ≡ b) → f ≡ constant m b
constant_is m f b h = canonical m f (constant m b) (λ ρ. h ρ ∙ sym (value_constant m b ρ))

-- a form that depends on no parameter is a constant
pub depends_none : (m : ℕ) (f : Form m) → DependsOn (λ j. ⊥) m f → f ≡ constant m (value m f (λ j. false))
depends_none m f h = constant_is m f (value m f (λ j. false)) (λ ρ. h ρ (λ j. false) (λ j z. absurd z))

-- putting in leaves a constant as it is
pub put_in_constant : (m n : ℕ) (b : Bool) (σ : ℕ → Form n) → put_in m n (constant m b) σ ≡ constant n b
put_in_constant m n b σ =
    constant_is n (put_in m n (constant m b) σ) b
    (λ ρ. value_put_in m n (constant m b) σ ρ ∙ value_constant m b (λ j. value n (σ j) ρ))

-- a parameter is what is put in for it
pub put_in_parameter : (m n p : ℕ) (σ : ℕ → Form n) → p < m → put_in m n (parameter m p) σ ≡ σ p
put_in_parameter m n p σ h =
    canonical n (put_in m n (parameter m p) σ) (σ p)
    (λ ρ. value_put_in m n (parameter m p) σ ρ ∙ value_parameter m p (λ j. value n (σ j) ρ) h)

-- putting in goes through the exclusive or
pub put_in_xor : (m n : ℕ) (f g : Form m) (σ : ℕ → Form n)
    → put_in m n (xor m f g) σ ≡ xor n (put_in m n f σ) (put_in m n g σ)
put_in_xor m n f g σ =
    canonical n (put_in m n (xor m f g) σ) (xor n (put_in m n f σ) (put_in m n g σ))
    (λ ρ.
    value_put_in m n (xor m f g) σ ρ ∙ value_xor m f g (λ j. value n (σ j) ρ)
    ∙ sym (value_xor n (put_in m n f σ) (put_in m n g σ) ρ
    ∙ ap₂ ◌⊕◌ (value_put_in m n f σ ρ) (value_put_in m n g σ ρ)))

-- through the operations
module _ (S : ℕ → Type 0) (m : ℕ) where
  pub depends_constant : (b : Bool) → DependsOn S m (constant m b)
  depends_constant b ρ ρ' h = value_constant m b ρ ∙ sym (value_constant m b ρ')

  pub depends_parameter : (p : ℕ) → p < m → S p → DependsOn S m (parameter m p)
  depends_parameter p l s ρ ρ' h = value_parameter m p ρ l ∙ h p s ∙ sym (value_parameter m p ρ' l)

  pub depends_xor : (f g : Form m) → DependsOn S m f → DependsOn S m g → DependsOn S m (xor m f g)
  depends_xor f g a b ρ ρ' h = value_xor m f g ρ ∙ ap₂ ◌⊕◌ (a ρ ρ' h) (b ρ ρ' h) ∙ sym (value_xor m f g ρ')

  pub depends_and : (f g : Form m) → DependsOn S m f → DependsOn S m g → DependsOn S m (and m f g)
  depends_and f g a b ρ ρ' h = value_and m f g ρ ∙ ap₂ ◌&&◌ (a ρ ρ' h) (b ρ ρ' h) ∙ sym (value_and m f g ρ')

  pub depends_or : (f g : Form m) → DependsOn S m f → DependsOn S m g → DependsOn S m (or m f g)
  unfolding or
  depends_or f g a b = depends_xor (xor m f g) (and m f g) (depends_xor f g a b) (depends_and f g a b)

  -- what a form with forms put in depends on
  pub depends_put_in : (k : ℕ) (S' : ℕ → Type 0) (f : Form k) (σ : ℕ → Form m) → DependsOn S' k f
      → ((j : ℕ) → S' j → DependsOn S m (σ j)) → DependsOn S m (put_in k m f σ)
  depends_put_in k S' f σ a b ρ ρ' h =
      value_put_in k m f σ ρ ∙ a (λ j. value m (σ j) ρ) (λ j. value m (σ j) ρ') (λ j s. b j s ρ ρ' h)
      ∙ sym (value_put_in k m f σ ρ')

-- what is put in for a parameter that the form does not depend on does not matter
pub put_in_same : (S : ℕ → Type 0) (m n : ℕ) (f : Form m) (σ τ : ℕ → Form n) → DependsOn S m f
    → ((j : ℕ) → S j → σ j ≡ τ j) → put_in m n f σ ≡ put_in m n f τ
put_in_same S m n f σ τ d e =
    canonical n (put_in m n f σ) (put_in m n f τ)
    (λ ρ.
    value_put_in m n f σ ρ ∙ d (λ j. value n (σ j) ρ) (λ j. value n (τ j) ρ) (λ j s. ap (λ x. value n x ρ) (e j s))
    ∙ sym (value_put_in m n f τ ρ))

-- a form depends only on the parameters that it names
pub depends_names : (m : ℕ) (f : Form m) → DependsOn (λ j. names m f j ≡ true) m f
unfolding names term_value
depends_names m f ρ ρ' h =
    value_terms m f ρ
    ∙ parity_cong (2 ^ m) _ _ (λ k l. go k l (has m f (bit k)) refl)
    ∙ sym (value_terms m f ρ')
  where
    place : (k j : ℕ) → k < 2 ^ m → has m f (bit k) ≡ true → (b : Bool) → bit k j ≡ b
        → (not b || ρ j) ≡ (not b || ρ' j)
    place k j l t true e = h j (some_at (2 ^ m) (λ i. bit i j && has m f (bit i)) k l (ap₂ ◌&&◌ e t))
    place k j l t false e = refl

    go : (k : ℕ) → k < 2 ^ m → (b : Bool) → has m f (bit k) ≡ b
        → (has m f (bit k) && term_value m k ρ) ≡ (has m f (bit k) && term_value m k ρ')
    go k l true e =
        ap (λ x. has m f (bit k) && x)
        (fold_cong ◌&&◌ true m (λ j. not (bit k j) || ρ j) (λ j. not (bit k j) || ρ' j)
        (λ j n. place k j l e (bit k j) refl))
    go k l false e = ap (λ b. b && term_value m k ρ) e ∙ sym (ap (λ b. b && term_value m k ρ') e)

-- f without its terms with parameter j
without : (m : ℕ) → ℕ → Form m → Form m
without zero j f = f
without (suc m) j f = cond (eqb j m) (f.0, constant m false) (without m j f.0, without m j f.1)

-- a setting with parameter j set to false
unset : (ℕ → Bool) → ℕ → ℕ → Bool
unset ρ j i = cond (eqb i j) false (ρ i)

unset_other : (ρ : ℕ → Bool) (j i : ℕ) → (i ≡ j → ⊥) → unset ρ j i ≡ ρ i
unfolding unset
unset_other ρ j i h = ap (λ b. cond b false (ρ i)) (ne_eqb i j h)

unset_at : (ρ : ℕ → Bool) (j i : ℕ) → i ≡ j → unset ρ j i ≡ false
unfolding unset
unset_at ρ j i h = ap (λ b. cond b false (ρ i)) (eq-eqb i j h)

value_without : (m j : ℕ) (f : Form m) (ρ : ℕ → Bool) → value m (without m j f) ρ ≡ value m f (unset ρ j)
unfolding without value
value_without zero j f ρ = refl
value_without (suc m) j f ρ = go (eqb j m) refl (value_without m j f.0 ρ) (value_without m j f.1 ρ)
  where
    go : (b : Bool) → eqb j m ≡ b → value m (without m j f.0) ρ ≡ value m f.0 (unset ρ j)
        → value m (without m j f.1) ρ ≡ value m f.1 (unset ρ j)
        → value (suc m) (cond b (f.0, constant m false) (without m j f.0, without m j f.1)) ρ
        ≡ value m f.0 (unset ρ j) ⊕ (unset ρ j m && value m f.1 (unset ρ j))
    go true e p q =
        let l : j ≡ m = eqb-true j m e in
        let low : value m f.0 (unset ρ j) ≡ value m f.0 ρ
        = value_agree m f.0 (unset ρ j) ρ (λ i n. unset_other ρ j i (λ x. let z : ⊥ = omega arith in z)) in
        ap₂ ◌⊕◌ (sym low)
        (ap (λ b. ρ m && b) (value_constant m false ρ) ∙ and-false (ρ m)
        ∙ sym (ap (λ b. b && value m f.1 (unset ρ j)) (unset_at ρ j m (sym l))))
    go false e p q =
        ap₂ ◌⊕◌ p (ap₂ ◌&&◌ (sym (unset_other ρ j m (λ x. eqb-false j m e (sym x)))) q)

has_without : (m j : ℕ) (f : Form m) (S : ℕ → Bool) → j < m → S j ≡ true → has m (without m j f) S ≡ false
unfolding without has
has_without zero j f S h s = let z : ⊥ = omega arith in absurd z
has_without (suc m) j f S h s = go (eqb j m) refl (λ g l. has_without m j g S l s)
  where
    go : (b : Bool) → eqb j m ≡ b → ((g : Form m) → j < m → has m (without m j g) S ≡ false)
        → has (suc m) (cond b (f.0, constant m false) (without m j f.0, without m j f.1)) S ≡ false
    go true e r =
        ap (λ b. has m (cond b (constant m false) f.0) S) (ap S (sym (eqb-true j m e)) ∙ s) ∙ has_false m S
    go false e r =
        let ne : j ≡ m → ⊥ = eqb-false j m e in
        let l : j < m = omega arith in
        picked (S m) (λ b. has m (cond b (without m j f.1) (without m j f.0)) S ≡ false)
        (r f.1 l) (r f.0 l)

-- a form that depends only on S names nothing outside S
pub names_depends : (S : ℕ → Type 0) (m : ℕ) (f : Form m) → DependsOn S m f → (j : ℕ) → (S j → ⊥)
    → names m f j ≡ false
unfolding names
names_depends S m f d j n =
    some_none (2 ^ m) (λ k. bit k j && has m f (bit k)) (λ k h. go k h (bit k j) refl (dec_lt j m))
  where
    stays : without m j f ≡ f
    stays =
        canonical m (without m j f) f
        (λ ρ. value_without m j f ρ ∙ d (unset ρ j) ρ (λ i s. unset_other ρ j i (λ e. n (subst S e s))))

    go : (k : ℕ) → k < 2 ^ m → (b : Bool) → bit k j ≡ b → Dec (j < m) → (bit k j && has m f (bit k)) ≡ false
    go k h true e (yes l) = ap₂ ◌&&◌ e (ap (λ g. has m g (bit k)) (sym stays) ∙ has_without m j f (bit k) l e)
    go k h true e (no l) = absurd (true≢false (sym e ∙ bit_above k m j h (omega arith)))
    go k h false e l = ap (λ b. b && has m f (bit k)) e
