-- The past rows of a record of the log are right where the derived rows of the record before are.
-- Assumes nothing.
use mathlib.Core.Path.{◌≡◌, sym, ap, ap₂, ◌∙◌, subst}
use mathlib.Core.Bool.{Bool, false, ◌&&◌, ◌||◌, or-false}
use mathlib.Core.List.{List, []}
use Prim.Native.Nat.{ℕ, zero, suc, ◌+◌, ◌≤◌, ◌<◌}
use native.Mathlib.Omega.{arith}
use lib.ListN.{length}
use Rattle.forms.specs.Form.{Form, constant, or, value}
use Rattle.forms.specs.Area.{form_in}
use Rattle.forms.proofs.Values.{value_constant, value_parameter, value_and, value_or}
use Rattle.meaning.specs.Interval.{Interval, inside, shifts, shifted, moved}
use Rattle.meaning.specs.Rule.{Node, fixed, signal, both, either, next, until, previous, since, node_at, Earlier}
use Rattle.meaning.specs.Rule.{Ordered, count, first_of, shifted_node, Entry, entry_at, time_at, holds, Rising}
use Rattle.meaning.specs.Meaning.{previous_at, since_at, meaning, values}
use Rattle.meaning.specs.Rewriting.{none, at, put, only_if, forms_of, row_to, previous_row, since_earlier, past_row}
use Rattle.meaning.specs.Rewriting.{past_rows}
use Rattle.meaning.specs.Shape.{Future}
use Rattle.meaning.proofs.Blocks.{rows_none, rows_more, length_past_rows}
use Rattle.meaning.proofs.Intervals.{moved_to, moved_cases}
use Rattle.meaning.proofs.Unrolling.{since_first, since_step}
use Rattle.meaning.proofs.Looking.{reach, reach_future}
use Rattle.meaning.proofs.Agreement.{record_value, Agrees, agrees_down, agrees_new, block_fits}
use Rattle.meaning.proofs.RowsRight.{RightRow, RightRows, from_reach, rows_agree, value_only_if, value_put}
use Rattle.meaning.proofs.RowsRight.{put_value}
use Rattle.meaning.proofs.DerivedRight.{now_right}

module _ (log : List Entry) (rising : Rising log) (rule : List Node) (ordered : Ordered rule) (m : ℕ)
    (fits : (k : ℕ) → first_of rule k ≤ m) where
  previous_right : (i k l : ℕ) (v : Interval) (derived past : List (Form m)) (t : ℕ) (ρ : ℕ → Bool)
      → t ≡ time_at log i → l < k
      → Agrees log rule i k (λ q. value m (form_in m derived q) (λ q. value m (form_in m past q) ρ))
      → value m (previous_row m (forms_of m rule k) derived past l v (time_at log (suc i)) (at t)) ρ
      ≡ previous_at log (record_value log rule k l) v (suc i)
  unfolding previous_row previous_at
  previous_right i k l v derived past t ρ e h a =
      value_only_if m (inside v (time_at log (suc i)) t)
      (put m (put m (form_in m (forms_of m rule k) l) derived) past) ρ
      ∙ ap₂ (λ x b. inside v (time_at log (suc i)) x && b) e
      (value_put m (put m (form_in m (forms_of m rule k) l) derived) past ρ
      ∙ put_value log rule ordered m fits i k l derived (λ q. value m (form_in m past q) ρ) a h)

  since_right_first : (k l r : ℕ) (v : Interval) (derived past : List (Form m)) (ρ : ℕ → Bool) → r < k
      → Agrees log rule 0 k (λ q. value m (form_in m past q) ρ)
      → value m
      (or m (only_if m (inside v (time_at log 0) (time_at log 0)) (put m (form_in m (forms_of m rule k) r) past))
      (constant m false)) ρ
      ≡ since_at log (record_value log rule k l) (record_value log rule k r) v 0
  since_right_first k l r v derived past ρ h a =
      value_or m _ (constant m false) ρ
      ∙ ap₂ ◌||◌ (now_right log rising rule ordered m fits 0 k r v past ρ h a) (value_constant m false ρ)
      ∙ or-false (inside v (time_at log 0) (time_at log 0) && record_value log rule k r 0)
      ∙ sym (since_first log rising (record_value log rule k l) (record_value log rule k r) v)

  since_right : (i k l r : ℕ) (v : Interval) (n : ℕ) (derived past : List (Form m)) (t : ℕ) (ρ : ℕ → Bool)
      → t ≡ time_at log i → suc i < length log → n < shifts v → l < k → r < k
      → Agrees log rule (suc i) k (λ q. value m (form_in m past q) ρ)
      → ((n : ℕ) → n < shifts v → value m (form_in m derived (first_of rule k + n)) (λ q. value m (form_in m past q) ρ)
      ≡ since_at log (record_value log rule k l) (record_value log rule k r) (shifted v n) i)
      → value m
      (or m
      (only_if m (inside (shifted v n) (time_at log (suc i)) (time_at log (suc i)))
      (put m (form_in m (forms_of m rule k) r) past))
      (since_earlier m (forms_of m rule k) derived past (first_of rule k) l v n (time_at log (suc i)) (at t))) ρ
      ≡ since_at log (record_value log rule k l) (record_value log rule k r) (shifted v n) (suc i)
  unfolding since_earlier row_to
  since_right i k l r v n derived past t ρ e len h hl hr a f =
      let moves = row_to m derived (first_of rule k) (moved v n (time_at log (suc i)) t) in
      value_or m _ _ ρ
      ∙ ap₂ ◌||◌ (now_right log rising rule ordered m fits (suc i) k r (shifted v n) past ρ hr a)
      (value_and m (put m (form_in m (forms_of m rule k) l) past) (put m moves past) ρ
      ∙ ap₂ ◌&&◌ (put_value log rule ordered m fits (suc i) k l past ρ a hl)
      (value_put m moves past ρ
      ∙ moved_cases
      (λ s. value m (row_to m derived (first_of rule k) s) (λ q. value m (form_in m past q) ρ)
      ≡ moved_to (λ w. since_at log left right w i) v s)
      v n (time_at log (suc i)) t (value_constant m false (λ q. value m (form_in m past q) ρ)) (λ n q. f n q)
      ∙ ap (λ x. moved_to (λ w. since_at log left right w i) v (moved v n (time_at log (suc i)) x)) e))
      ∙ sym (since_step log rising left right v n i h len)
    where
      left : ℕ → Bool
      left = record_value log rule k l

      right : ℕ → Bool
      right = record_value log rule k r

  -- one past row is right: at the first record, and at a later one
  resolve_first : (k n : ℕ) (derived past : List (Form m)) (ρ : ℕ → Bool) (d : Node) → Earlier k d → n < count d
      → ((n : ℕ) → n < count d → first_of rule k + n < m)
      → (Future d → ρ (first_of rule k + n) ≡ meaning log (values log rule k) (shifted_node d n) 0)
      → Agrees log rule 0 k (λ q. value m (form_in m past q) ρ)
      → value m (past_row m (forms_of m rule k) derived past (entry_at log 0) none (first_of rule k) d n) ρ
      ≡ meaning log (values log rule k) (shifted_node d n) 0
  unfolding past_row previous_row previous_at since_earlier meaning shifted_node count Earlier time_at Future
  resolve_first k n derived past ρ (fixed b) o c fit f a = let z : ⊥ = omega arith in absurd z
  resolve_first k n derived past ρ (signal s) o c fit f a = value_constant m (holds (entry_at log 0) s) ρ
  resolve_first k n derived past ρ (both l r) o c fit f a = let z : ⊥ = omega arith in absurd z
  resolve_first k n derived past ρ (either l r) o c fit f a = let z : ⊥ = omega arith in absurd z
  resolve_first k n derived past ρ (next l v) o c fit f a = value_parameter m (first_of rule k + n) ρ (fit n c) ∙ f tt
  resolve_first k n derived past ρ (until l r v) o c fit f a =
      value_parameter m (first_of rule k + n) ρ (fit n c) ∙ f tt
  resolve_first k n derived past ρ (previous l v) o c fit f a = value_constant m false ρ
  resolve_first k n derived past ρ (since l r v) o c fit f a =
      since_right_first k l r (shifted v n) derived past ρ o.1 a

  resolve_later : (i k n : ℕ) (derived past : List (Form m)) (t : ℕ) (ρ : ℕ → Bool) (d : Node) → t ≡ time_at log i
      → suc i < length log → Earlier k d → n < count d → ((n : ℕ) → n < count d → first_of rule k + n < m)
      → (Future d → ρ (first_of rule k + n) ≡ meaning log (values log rule k) (shifted_node d n) (suc i))
      → Agrees log rule (suc i) k (λ q. value m (form_in m past q) ρ)
      → Agrees log rule i k (λ q. value m (form_in m derived q) (λ q. value m (form_in m past q) ρ))
      → ((n : ℕ) → n < count d → (σ : ℕ → Bool) → Agrees log rule (suc i) (reach d k) σ
      → value m (form_in m derived (first_of rule k + n)) σ ≡ meaning log (values log rule k) (shifted_node d n) i)
      → value m (past_row m (forms_of m rule k) derived past (entry_at log (suc i)) (at t) (first_of rule k) d n) ρ
      ≡ meaning log (values log rule k) (shifted_node d n) (suc i)
  unfolding past_row meaning shifted_node count Earlier time_at Future reach
  resolve_later i k n derived past t ρ (fixed b) e len o c fit f a a' r = let z : ⊥ = omega arith in absurd z
  resolve_later i k n derived past t ρ (signal s) e len o c fit f a a' r =
      value_constant m (holds (entry_at log (suc i)) s) ρ
  resolve_later i k n derived past t ρ (both l r') e len o c fit f a a' r = let z : ⊥ = omega arith in absurd z
  resolve_later i k n derived past t ρ (either l r') e len o c fit f a a' r = let z : ⊥ = omega arith in absurd z
  resolve_later i k n derived past t ρ (next l v) e len o c fit f a a' r =
      value_parameter m (first_of rule k + n) ρ (fit n c) ∙ f tt
  resolve_later i k n derived past t ρ (until l r' v) e len o c fit f a a' r =
      value_parameter m (first_of rule k + n) ρ (fit n c) ∙ f tt
  resolve_later i k n derived past t ρ (previous l v) e len o c fit f a a' r =
      previous_right i k l v derived past t ρ e o a'
  resolve_later i k n derived past t ρ (since l r' v) e len o c fit f a a' r =
      since_right i k l r' v n derived past t ρ e len c o.0 o.1 a
      (λ n h. r n h (λ q. value m (form_in m past q) ρ) a)

  pub past_right_first : (k : ℕ)
      → RightRows log rule m (Agrees log rule 0) (past_rows m rule [] (entry_at log 0) none k) k 0
  unfolding past_rows
  past_right_first zero = rows_none rule (constant m false) (RightRow log rule m (Agrees log rule 0) 0)
  past_right_first (suc k) =
      let past : List (Form m) = past_rows m rule [] (entry_at log 0) none k in
      let ih : RightRows log rule m (Agrees log rule 0) past k 0 = past_right_first k in
      rows_more rule (constant m false) (RightRow log rule m (Agrees log rule 0) 0) past
      (past_row m (forms_of m rule k) [] past (entry_at log 0) none (first_of rule k) (node_at rule k)) k
      (length_past_rows m rule [] (entry_at log 0) none k) ih
      (λ n c ρ a.
      resolve_first k n [] past ρ (node_at rule k) (ordered k) c (block_fits log rule ordered m fits k)
      (λ f. agrees_new log rule 0 k ρ (subst (λ x. Agrees log rule 0 x ρ) (reach_future (node_at rule k) k f) a) n c)
      (rows_agree log rule m (Agrees log rule 0) (agrees_down log rule 0) past k 0 ih k (omega arith) ρ
      (from_reach log rule m (Agrees log rule 0) (agrees_down log rule 0) (node_at rule k) k ρ a)))

  pub past_right_later : (i K t : ℕ) (derived : List (Form m)) → t ≡ time_at log i → suc i < length log
      → RightRows log rule m (Agrees log rule (suc i)) derived K i → (k : ℕ) → k ≤ K
      → RightRows log rule m (Agrees log rule (suc i))
      (past_rows m rule derived (entry_at log (suc i)) (at t) k) k (suc i)
  unfolding past_rows
  past_right_later i K t derived e len ok zero h =
      rows_none rule (constant m false) (RightRow log rule m (Agrees log rule (suc i)) (suc i))
  past_right_later i K t derived e len ok (suc k) h =
      let past : List (Form m) = past_rows m rule derived (entry_at log (suc i)) (at t) k in
      let ih : RightRows log rule m (Agrees log rule (suc i)) past k (suc i)
      = past_right_later i K t derived e len ok k (omega arith) in
      rows_more rule (constant m false) (RightRow log rule m (Agrees log rule (suc i)) (suc i)) past
      (past_row m (forms_of m rule k) derived past (entry_at log (suc i)) (at t) (first_of rule k) (node_at rule k)) k
      (length_past_rows m rule derived (entry_at log (suc i)) (at t) k) ih
      (λ n c ρ a.
      let a₁ : Agrees log rule (suc i) k (λ q. value m (form_in m past q) ρ)
      = rows_agree log rule m (Agrees log rule (suc i)) (agrees_down log rule (suc i)) past k (suc i) ih k
      (omega arith) ρ
      (from_reach log rule m (Agrees log rule (suc i)) (agrees_down log rule (suc i)) (node_at rule k) k ρ a) in
      resolve_later i k n derived past t ρ (node_at rule k) e len (ordered k) c (block_fits log rule ordered m fits k)
      (λ f.
      agrees_new log rule (suc i) k ρ
      (subst (λ x. Agrees log rule (suc i) x ρ) (reach_future (node_at rule k) k f) a) n c)
      a₁
      (rows_agree log rule m (Agrees log rule (suc i)) (agrees_down log rule (suc i)) derived K i ok k (omega arith)
      (λ q. value m (form_in m past q) ρ) a₁)
      (λ n c σ s. ok k n h c σ s))
