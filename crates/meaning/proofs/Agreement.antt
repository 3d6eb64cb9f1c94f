-- Settings that give the parameters their values at a record of the log, and forms under them.
-- Assumes nothing.
use mathlib.Core.Path.{◌≡◌, sym, ap, ap₂, ◌∙◌, subst}
use mathlib.Core.Bool.{Bool, false, ◌&&◌}
use mathlib.Core.List.{List}
use Prim.Native.Nat.{ℕ, zero, suc, ◌+◌, ◌-◌, ◌≤◌, ◌<◌}
use native.Mathlib.Nat.{add-zero}
use native.Mathlib.Decide.{dec_lt}
use native.Mathlib.Omega.{arith}
use lib.ListN.{get_or}
use Rattle.ground.specs.Fold.{◌⊕◌}
use Rattle.forms.specs.Form.{Form, constant, parameter, value}
use Rattle.forms.specs.Area.{form_in}
use Rattle.forms.proofs.Values.{value_constant, value_parameter, value_xor, value_and}
use Rattle.meaning.specs.Rule.{Node, fixed, signal, both, either, next, until, previous, since, node_at, Earlier}
use Rattle.meaning.specs.Rule.{Ordered, count, first_of, shifted_node, Entry}
use Rattle.meaning.specs.Meaning.{meaning, values, parameter_values}
use Rattle.meaning.specs.Rewriting.{form_of, forms_of}
use Rattle.meaning.proofs.Blocks.{one_new, block_low, block_new, first_of_more, length_values}
use Rattle.meaning.proofs.Blocks.{length_parameter_values, length_forms_of}
use Rattle.meaning.proofs.Intervals.{shifted_node_zero, shifts_pos}

-- the value of record r, and of parameter p, among the first k records, at record i of the log
abbrev pub record_value : List Entry → List Node → ℕ → ℕ → ℕ → Bool
record_value log rule k r i = (get_or (values log rule k) r (λ j. false)) i

abbrev pub parameter_value : List Entry → List Node → ℕ → ℕ → ℕ → Bool
parameter_value log rule k p i = (get_or (parameter_values log rule k) p (λ j. false)) i

-- the value of record k's shift n
abbrev pub shift_value : List Entry → List Node → ℕ → ℕ → ℕ → Bool
shift_value log rule k n i = meaning log (values log rule k) (shifted_node (node_at rule k) n) i

-- the setting gives the parameters of the first k records their values at record i
abbrev pub Agrees : List Entry → List Node → ℕ → ℕ → (ℕ → Bool) → Type 0
Agrees log rule i k ρ = (p : ℕ) → p < first_of rule k → ρ p ≡ parameter_value log rule k p i

module _ (log : List Entry) (rule : List Node) where
  pub record_low : (k r i : ℕ) → r < k → record_value log rule (suc k) r i ≡ record_value log rule k r i
  unfolding values
  record_low k r i h =
      ap (λ (f : ℕ → Bool). f i)
      (block_low (values log rule k) _ k r (λ j. false) (length_values log rule k) h)

  pub record_new : (k i : ℕ) → record_value log rule (suc k) k i ≡ meaning log (values log rule k) (node_at rule k) i
  unfolding values
  record_new k i =
      ap (λ (f : ℕ → Bool). f i)
      (one_new (values log rule k) (meaning log (values log rule k) (node_at rule k)) k (λ j. false)
      (length_values log rule k))

  parameter_low : (k p i : ℕ) → p < first_of rule k
      → parameter_value log rule (suc k) p i ≡ parameter_value log rule k p i
  unfolding parameter_values
  parameter_low k p i h =
      ap (λ (f : ℕ → Bool). f i)
      (block_low (parameter_values log rule k) _ (first_of rule k) p (λ j. false)
      (length_parameter_values log rule k) h)

  parameter_new : (k n i : ℕ) → n < count (node_at rule k)
      → parameter_value log rule (suc k) (first_of rule k + n) i ≡ shift_value log rule k n i
  unfolding parameter_values
  parameter_new k n i h =
      ap (λ (f : ℕ → Bool). f i)
      (block_new (parameter_values log rule k) (λ n. meaning log (values log rule k) (shifted_node (node_at rule k) n))
      (count (node_at rule k)) (first_of rule k) n (λ j. false) (length_parameter_values log rule k) h)

  -- of one record more, and of one record less
  pub agrees_down : (i k : ℕ) (ρ : ℕ → Bool) → Agrees log rule i (suc k) ρ → Agrees log rule i k ρ
  agrees_down i k ρ a p h = a p (omega (arith, first_of_more rule k)) ∙ parameter_low k p i h

  pub agrees_new : (i k : ℕ) (ρ : ℕ → Bool) → Agrees log rule i (suc k) ρ → (n : ℕ) → n < count (node_at rule k)
      → ρ (first_of rule k + n) ≡ shift_value log rule k n i
  agrees_new i k ρ a n h = a (first_of rule k + n) (omega (arith, first_of_more rule k)) ∙ parameter_new k n i h

  pub agrees_up : (i k : ℕ) (ρ : ℕ → Bool) → Agrees log rule i k ρ
      → ((n : ℕ) → n < count (node_at rule k) → ρ (first_of rule k + n) ≡ shift_value log rule k n i)
      → Agrees log rule i (suc k) ρ
  agrees_up i k ρ a b p h = go (dec_lt p (first_of rule k))
    where
      go : Dec (p < first_of rule k) → ρ p ≡ parameter_value log rule (suc k) p i
      go (yes l) = a p l ∙ sym (parameter_low k p i l)
      go (no l) =
          let e : first_of rule k + (p - first_of rule k) ≡ p = omega arith in
          let c : p - first_of rule k < count (node_at rule k) = omega (arith, first_of_more rule k) in
          subst (λ x. ρ x ≡ parameter_value log rule (suc k) x i) e
          (b (p - first_of rule k) c ∙ sym (parameter_new k (p - first_of rule k) i c))

module _ (log : List Entry) (rule : List Node) (ordered : Ordered rule) (m : ℕ)
    (fits : (k : ℕ) → first_of rule k ≤ m) where
  pub block_fits : (k n : ℕ) → n < count (node_at rule k) → first_of rule k + n < m
  block_fits k n h = omega (arith, fits (suc k), first_of_more rule k)

  -- a parameter's form has the parameter's value
  own_value : (i k : ℕ) (ρ : ℕ → Bool) → Agrees log rule i (suc k) ρ → 0 < count (node_at rule k)
      → value m (parameter m (first_of rule k)) ρ ≡ meaning log (values log rule k) (node_at rule k) i
  own_value i k ρ a c =
      value_parameter m (first_of rule k) ρ (omega (arith, block_fits k 0 c))
      ∙ ap ρ (sym (add-zero (first_of rule k))) ∙ agrees_new log rule i k ρ a 0 c
      ∙ ap (λ d. meaning log (values log rule k) d i) (shifted_node_zero (node_at rule k))

  -- a record's form has the record's value
  form_value : (i k : ℕ) (ρ : ℕ → Bool)
      → ((r : ℕ) → r < k → value m (form_in m (forms_of m rule k) r) ρ ≡ record_value log rule k r i)
      → (d : Node) → Earlier k d
      → (0 < count d → value m (parameter m (first_of rule k)) ρ ≡ meaning log (values log rule k) d i)
      → value m (form_of m (forms_of m rule k) (first_of rule k) d) ρ ≡ meaning log (values log rule k) d i
  unfolding form_of meaning Earlier count
  form_value i k ρ ih (fixed b) o own = value_constant m b ρ
  form_value i k ρ ih (signal s) o own = own (omega arith)
  form_value i k ρ ih (both l r) o own =
      value_and m (form_in m (forms_of m rule k) l) (form_in m (forms_of m rule k) r) ρ
      ∙ ap₂ ◌&&◌ (ih l o.0) (ih r o.1)
  form_value i k ρ ih (either l r) o own =
      value_xor m (form_in m (forms_of m rule k) l) (form_in m (forms_of m rule k) r) ρ
      ∙ ap₂ ◌⊕◌ (ih l o.0) (ih r o.1)
  form_value i k ρ ih (next l v) o own = own (omega arith)
  form_value i k ρ ih (until l r v) o own = own (shifts_pos v)
  form_value i k ρ ih (previous l v) o own = own (omega arith)
  form_value i k ρ ih (since l r v) o own = own (shifts_pos v)

  pub forms_value : (i k : ℕ) (ρ : ℕ → Bool) → Agrees log rule i k ρ → (r : ℕ) → r < k
      → value m (form_in m (forms_of m rule k) r) ρ ≡ record_value log rule k r i
  unfolding forms_of
  forms_value i zero ρ a r h = let z : ⊥ = omega arith in absurd z
  forms_value i (suc k) ρ a r h = go (forms_value i k ρ (agrees_down log rule i k ρ a)) (dec_lt r k)
    where
      forms : List (Form m)
      forms = forms_of m rule k

      here : Form m
      here = form_of m (forms_of m rule k) (first_of rule k) (node_at rule k)

      go : ((r : ℕ) → r < k → value m (form_in m (forms_of m rule k) r) ρ ≡ record_value log rule k r i) → Dec (r < k)
          → value m (form_in m (forms_of m rule (suc k)) r) ρ ≡ record_value log rule (suc k) r i
      go ih (yes l) =
          ap (λ f. value m f ρ) (block_low forms _ k r (constant m false) (length_forms_of m rule k) l)
          ∙ ih r l ∙ sym (record_low log rule k r i l)
      go ih (no l) =
          let e : k ≡ r = omega arith in
          subst (λ x. value m (form_in m (forms_of m rule (suc k)) x) ρ ≡ record_value log rule (suc k) x i) e
          (ap (λ f. value m f ρ) (one_new forms here k (constant m false) (length_forms_of m rule k))
          ∙ form_value i k ρ ih (node_at rule k) (ordered k) (own_value i k ρ a)
          ∙ sym (record_new log rule k i))
