-- Document 000's equations (1) to (9) of the ring of forms: each holds of values, and values fix a form.
-- Assumes nothing.
use mathlib.Core.Path.{◌≡◌, refl, sym, ap₂, ◌∙◌}
use mathlib.Core.Bool.{Bool, true, false, ◌&&◌, and-true, and_comm, and_assoc, and_self}
use Prim.Native.Nat.{ℕ}
use Rattle.ground.specs.Fold.{◌⊕◌}
use Rattle.ground.proofs.Xor.{⊕_false, ⊕_self, ⊕_comm, ⊕_assoc, &&_⊕}
use Rattle.forms.specs.Form.{Form, constant, xor, and, value}
use Rattle.forms.proofs.Values.{value_constant, value_xor, value_and, canonical}

module _ (m : ℕ) where
  -- two forms that are equal at each setting
  by_value : {f g : Form m} → ((ρ : ℕ → Bool) → value m f ρ ≡ value m g ρ) → f ≡ g
  by_value {f} {g} h = canonical m f g h

  of_and : (f g : Form m) (ρ : ℕ → Bool) {a b : Bool} → value m f ρ ≡ a → value m g ρ ≡ b
      → value m (and m f g) ρ ≡ (a && b)
  of_and f g ρ p q = value_and m f g ρ ∙ ap₂ ◌&&◌ p q

  of_xor : (f g : Form m) (ρ : ℕ → Bool) {a b : Bool} → value m f ρ ≡ a → value m g ρ ≡ b
      → value m (xor m f g) ρ ≡ a ⊕ b
  of_xor f g ρ p q = value_xor m f g ρ ∙ ap₂ ◌⊕◌ p q

  pub and_form_assoc : (f g h : Form m) → and m (and m f g) h ≡ and m f (and m g h)
  and_form_assoc f g h =
      by_value
      (λ ρ.
      of_and (and m f g) h ρ (value_and m f g ρ) refl ∙ and_assoc (value m f ρ) (value m g ρ) (value m h ρ)
      ∙ sym (of_and f (and m g h) ρ refl (value_and m g h ρ)))

  pub and_form_comm : (f g : Form m) → and m f g ≡ and m g f
  and_form_comm f g =
      by_value (λ ρ. value_and m f g ρ ∙ and_comm (value m f ρ) (value m g ρ) ∙ sym (value_and m g f ρ))

  pub and_form_true : (f : Form m) → and m f (constant m true) ≡ f
  and_form_true f =
      by_value (λ ρ. of_and f (constant m true) ρ refl (value_constant m true ρ) ∙ and-true (value m f ρ))

  pub and_form_self : (f : Form m) → and m f f ≡ f
  and_form_self f = by_value (λ ρ. value_and m f f ρ ∙ and_self (value m f ρ))

  pub xor_form_assoc : (f g h : Form m) → xor m (xor m f g) h ≡ xor m f (xor m g h)
  xor_form_assoc f g h =
      by_value
      (λ ρ.
      of_xor (xor m f g) h ρ (value_xor m f g ρ) refl ∙ ⊕_assoc (value m f ρ) (value m g ρ) (value m h ρ)
      ∙ sym (of_xor f (xor m g h) ρ refl (value_xor m g h ρ)))

  pub xor_form_comm : (f g : Form m) → xor m f g ≡ xor m g f
  xor_form_comm f g = by_value (λ ρ. value_xor m f g ρ ∙ ⊕_comm (value m f ρ) (value m g ρ) ∙ sym (value_xor m g f ρ))

  pub xor_form_false : (f : Form m) → xor m f (constant m false) ≡ f
  xor_form_false f =
      by_value (λ ρ. of_xor f (constant m false) ρ refl (value_constant m false ρ) ∙ ⊕_false (value m f ρ))

  pub xor_form_self : (f : Form m) → xor m f f ≡ constant m false
  xor_form_self f = by_value (λ ρ. value_xor m f f ρ ∙ ⊕_self (value m f ρ) ∙ sym (value_constant m false ρ))

  pub and_form_xor : (f g h : Form m) → and m (xor m f g) h ≡ xor m (and m f h) (and m g h)
  and_form_xor f g h =
      by_value
      (λ ρ.
      of_and (xor m f g) h ρ (value_xor m f g ρ) refl ∙ spread (value m f ρ) (value m g ρ) (value m h ρ)
      ∙ sym (of_xor (and m f h) (and m g h) ρ (value_and m f h ρ) (value_and m g h ρ)))
    where
      spread : (a b c : Bool) → ((a ⊕ b) && c) ≡ (a && c) ⊕ (b && c)
      spread a b c = and_comm (a ⊕ b) c ∙ &&_⊕ c a b ∙ ap₂ ◌⊕◌ (and_comm c a) (and_comm c b)
