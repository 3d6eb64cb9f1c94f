-- Laws of exclusive or on Bool; the library has those of and, or and not.
-- Assumes nothing.
use mathlib.Core.Path.{◌≡◌, refl, sym, ap, ◌∙◌}
use mathlib.Core.Bool.{Bool, true, false, not, ◌&&◌, ◌||◌, not-not}
use Rattle.ground.specs.Fold.{◌⊕◌}

pub ⊕_false : (a : Bool) → a ⊕ false ≡ a
⊕_false true = refl
⊕_false false = refl

pub ⊕_self : (a : Bool) → a ⊕ a ≡ false
⊕_self true = refl
⊕_self false = refl

pub ⊕_comm : (a b : Bool) → a ⊕ b ≡ b ⊕ a
⊕_comm true true = refl
⊕_comm true false = refl
⊕_comm false true = refl
⊕_comm false false = refl

not_⊕ : (a b : Bool) → not a ⊕ b ≡ not (a ⊕ b)
not_⊕ true b = sym (not-not b)
not_⊕ false b = refl

pub ⊕_assoc : (a b c : Bool) → a ⊕ b ⊕ c ≡ a ⊕ (b ⊕ c)
⊕_assoc true b c = not_⊕ b c
⊕_assoc false b c = refl

pub ⊕_cancel : (a b : Bool) → a ⊕ (a ⊕ b) ≡ b
⊕_cancel a b = sym (⊕_assoc a a b) ∙ ap (λ x. x ⊕ b) (⊕_self a)

pub ⊕_inj : (a b c : Bool) → a ⊕ b ≡ a ⊕ c → b ≡ c
⊕_inj a b c e = sym (⊕_cancel a b) ∙ ap (λ x. a ⊕ x) e ∙ ⊕_cancel a c

pub &&_⊕ : (x a b : Bool) → (x && (a ⊕ b)) ≡ (x && a) ⊕ (x && b)
&&_⊕ true a b = refl
&&_⊕ false a b = refl

-- "a or b" is a xor b xor (a and b)
pub or_⊕ : (a b : Bool) → a ⊕ b ⊕ (a && b) ≡ (a || b)
or_⊕ true true = refl
or_⊕ true false = refl
or_⊕ false b = ⊕_false b
