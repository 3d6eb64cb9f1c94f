-- Rows that have their parameters' values at a record of the log, under every setting that is right so far.
-- Assumes nothing.
use mathlib.Core.Path.{◌≡◌, refl, ◌∙◌}
use mathlib.Core.Bool.{Bool, true, false, ◌&&◌}
use mathlib.Core.List.{List}
use Prim.Native.Nat.{ℕ, zero, suc, ◌≤◌, ◌<◌}
use native.Mathlib.Omega.{arith}
use Rattle.forms.specs.Form.{Form, constant, value}
use Rattle.forms.specs.Area.{form_in}
use Rattle.forms.proofs.Values.{value_constant, value_put_in}
use Rattle.meaning.specs.Rule.{Node, node_at, Ordered, first_of, Entry}
use Rattle.meaning.specs.Rewriting.{put, only_if, forms_of}
use Rattle.meaning.proofs.Blocks.{Rows}
use Rattle.meaning.proofs.Looking.{reach, reach_cases}
use Rattle.meaning.proofs.Agreement.{record_value, shift_value, Agrees, agrees_up, forms_value}

module _ (log : List Entry) (rule : List Node) (m : ℕ) where
  -- f has the value of record k's shift n at record i, under each setting that A allows
  abbrev pub RightRow : (ℕ → (ℕ → Bool) → Type 0) → ℕ → ℕ → ℕ → Form m → Type 0
  RightRow A i k n f = (ρ : ℕ → Bool) → A (reach (node_at rule k) k) ρ → value m f ρ ≡ shift_value log rule k n i

  abbrev pub RightRows : (ℕ → (ℕ → Bool) → Type 0) → List (Form m) → ℕ → ℕ → Type 0
  RightRows A rows K i = Rows rule (constant m false) (RightRow A i) rows K

  module _ (A : ℕ → (ℕ → Bool) → Type 0) (down : (k : ℕ) (ρ : ℕ → Bool) → A (suc k) ρ → A k ρ) where
    -- what A allows of more records it allows of fewer
    pub from_reach : (d : Node) (k : ℕ) (ρ : ℕ → Bool) → A (reach d k) ρ → A k ρ
    from_reach d k ρ = reach_cases (λ x. A x ρ → A k ρ) d k (λ _ a. a) (λ _. down k ρ)

    to_reach : (d : Node) (k : ℕ) (ρ : ℕ → Bool) → A (suc k) ρ → A (reach d k) ρ
    to_reach d k ρ a = reach_cases (λ x. A x ρ) d k (λ _. down k ρ a) (λ _. a)

    -- right rows make a right setting
    pub rows_agree : (rows : List (Form m)) (K i : ℕ) → RightRows A rows K i → (k : ℕ) → k ≤ K
        → (ρ : ℕ → Bool) → A k ρ → Agrees log rule i k (λ q. value m (form_in m rows q) ρ)
    unfolding first_of
    rows_agree rows K i ok zero h ρ a = λ p l. let z : ⊥ = omega arith in absurd z
    rows_agree rows K i ok (suc k) h ρ a =
        agrees_up log rule i k (λ q. value m (form_in m rows q) ρ)
        (rows_agree rows K i ok k (omega arith) ρ (down k ρ a))
        (λ n c. ok k n h c ρ (to_reach (node_at rule k) k ρ a))

pub value_only_if : (m : ℕ) (b : Bool) (f : Form m) (ρ : ℕ → Bool) → value m (only_if m b f) ρ ≡ (b && value m f ρ)
unfolding only_if
value_only_if m true f ρ = refl
value_only_if m false f ρ = value_constant m false ρ

pub value_put : (m : ℕ) (f : Form m) (rows : List (Form m)) (ρ : ℕ → Bool)
    → value m (put m f rows) ρ ≡ value m f (λ q. value m (form_in m rows q) ρ)
unfolding put
value_put m f rows ρ = value_put_in m m f (form_in m rows) ρ

-- a record's form, with rows put in that give the parameters their values at record i
pub put_value : (log : List Entry) (rule : List Node) → Ordered rule → (m : ℕ) → ((k : ℕ) → first_of rule k ≤ m)
    → (i k l : ℕ) (rows : List (Form m)) (ρ : ℕ → Bool) → Agrees log rule i k (λ q. value m (form_in m rows q) ρ)
    → l < k
    → value m (put m (form_in m (forms_of m rule k) l) rows) ρ ≡ record_value log rule k l i
put_value log rule ordered m fits i k l rows ρ a h =
    value_put m (form_in m (forms_of m rule k) l) rows ρ
    ∙ forms_value log rule ordered m fits i k (λ q. value m (form_in m rows q) ρ) a l h
