-- A row past its list, a row under a test, and a moved shift as the code has it.
-- Assumes nothing.
use mathlib.Core.Path.{◌≡◌, refl, sym, ap, ◌∙◌}
use mathlib.Core.Bool.{false, ◌&&◌, ◌||◌, and-false}
use mathlib.Core.List.{List}
use Prim.Native.Nat.{ℕ, ◌≤◌}
use native.Mathlib.Omega.{arith}
use lib.ListN.{length, get_or-eq_default}
use Rattle.std.specs.Prelude.{Option, None, Some}
use Rattle.forms.specs.Form.{Form, constant, and, or, value}
use Rattle.forms.specs.Area.{form_in}
use Rattle.forms.proofs.Values.{value_constant, value_and, value_or, canonical}

pub past_row : (m count j : ℕ) (rows : List (Form m)) → length rows ≡ count → count ≤ j
    → constant m false ≡ form_in m rows j
past_row m count j rows e h = sym (get_or-eq_default rows (constant m false) (omega (arith, e)))

pub nothing : (s : Option ℕ) → ((n : ℕ) → s ≡ Some n → ⊥) → s ≡ None
nothing None h = refl
nothing (Some n) h = absurd (h n refl)

-- nothing and a form, nothing or a form
pub and_nothing : (m : ℕ) (f : Form m) → and m f (constant m false) ≡ constant m false
and_nothing m f =
    canonical m _ _
    (λ ρ.
    value_and m f (constant m false) ρ ∙ ap (λ b. value m f ρ && b) (value_constant m false ρ)
    ∙ and-false (value m f ρ) ∙ sym (value_constant m false ρ))

pub nothing_or : (m : ℕ) (f : Form m) → or m (constant m false) f ≡ f
nothing_or m f =
    canonical m _ _
    (λ ρ. value_or m (constant m false) f ρ ∙ ap (λ b. b || value m f ρ) (value_constant m false ρ))
