-- The derived rows of a record of the log are right where its past rows are.
-- Assumes nothing.
use mathlib.Core.Path.{◌≡◌, sym, ap, ap₂, ◌∙◌, subst}
use mathlib.Core.Bool.{Bool, false, ◌&&◌, ◌||◌, or-false}
use mathlib.Core.List.{List}
use Prim.Native.Nat.{ℕ, zero, suc, ◌+◌, ◌≤◌, ◌<◌}
use native.Mathlib.Omega.{arith}
use lib.ListN.{length}
use borrow.Author.Tests.{lt-ltb, le-ltb}
use Rattle.forms.specs.Form.{Form, constant, and, or, value}
use Rattle.forms.specs.Area.{form_in}
use Rattle.forms.proofs.Values.{value_constant, value_parameter, value_and, value_or}
use Rattle.meaning.specs.Interval.{Interval, inside, shifts, shifted, moved}
use Rattle.meaning.specs.Rule.{Node, fixed, signal, both, either, next, until, previous, since, node_at, Earlier}
use Rattle.meaning.specs.Rule.{Ordered, count, first_of, shifted_node, Entry, entry_at, time_at, holds, Rising}
use Rattle.meaning.specs.Meaning.{next_at, until_at, meaning, values}
use Rattle.meaning.specs.Rewriting.{Neighbour, none, at, put, only_if, forms_of, parameter_to, next_row, until_later}
use Rattle.meaning.specs.Rewriting.{derived_row, derived_rows}
use Rattle.meaning.specs.Shape.{Future}
use Rattle.meaning.proofs.Blocks.{rows_none, rows_more, length_derived_rows}
use Rattle.meaning.proofs.Intervals.{moved_to, moved_cases}
use Rattle.meaning.proofs.Unrolling.{until_last, until_step}
use Rattle.meaning.proofs.Looking.{reach, reach_future}
use Rattle.meaning.proofs.Agreement.{record_value, Agrees, agrees_down, agrees_new, block_fits, forms_value}
use Rattle.meaning.proofs.RowsRight.{RightRow, RightRows, from_reach, rows_agree, value_only_if, value_put}
use Rattle.meaning.proofs.RowsRight.{put_value}

-- what a setting says of the next record: nothing at the end
abbrev pub Ahead : List Entry → List Node → Neighbour → ℕ → ℕ → (ℕ → Bool) → Type 0
Ahead log rule none i k ρ = Unit {0}
Ahead log rule (at t) i k ρ = Agrees log rule (suc i) k ρ

-- the neighbour is the next record of the log, or there is none
abbrev pub Follows : List Entry → Neighbour → ℕ → Type 0
Follows log none i = suc i ≡ length log
Follows log (at t) i = (suc i < length log) × (t ≡ time_at log (suc i))

-- the setting gives record k's own parameters their values at the next record
abbrev Own : List Entry → List Node → Neighbour → ℕ → ℕ → Node → (ℕ → Bool) → Type 0
Own log rule none i k d ρ = Unit {0}
Own log rule (at t) i k d ρ =
    (n : ℕ) → n < count d → ρ (first_of rule k + n) ≡ meaning log (values log rule k) (shifted_node d n) (suc i)

module _ (log : List Entry) (rising : Rising log) (rule : List Node) (ordered : Ordered rule) (m : ℕ)
    (fits : (k : ℕ) → first_of rule k ≤ m) where
  pub ahead_down : (later : Neighbour) (i k : ℕ) (ρ : ℕ → Bool) → Ahead log rule later i (suc k) ρ
      → Ahead log rule later i k ρ
  ahead_down none i k ρ a = tt
  ahead_down (at t) i k ρ a = agrees_down log rule (suc i) k ρ a

  ahead_own : (later : Neighbour) (i k : ℕ) (ρ : ℕ → Bool) → Ahead log rule later i (suc k) ρ
      → Own log rule later i k (node_at rule k) ρ
  ahead_own none i k ρ a = tt
  ahead_own (at t) i k ρ a = agrees_new log rule (suc i) k ρ a

  next_right : (later : Neighbour) (i k l : ℕ) (v : Interval) (ρ : ℕ → Bool) → Follows log later i
      → Ahead log rule later i k ρ → l < k
      → value m (next_row m (forms_of m rule k) l v (time_at log i) later) ρ
      ≡ next_at log (record_value log rule k l) v i
  unfolding next_row next_at
  next_right none i k l v ρ f a h =
      value_constant m false ρ
      ∙ sym (ap (λ b. b && (inside v (time_at log i) (time_at log (suc i)) && record_value log rule k l (suc i)))
      (le-ltb (suc i) (length log) (omega arith)))
  next_right (at t) i k l v ρ f a h =
      ap (λ x. value m (only_if m (inside v (time_at log i) x) (form_in m (forms_of m rule k) l)) ρ) f.1
      ∙ value_only_if m (inside v (time_at log i) (time_at log (suc i))) (form_in m (forms_of m rule k) l) ρ
      ∙ ap (λ b. inside v (time_at log i) (time_at log (suc i)) && b)
      (forms_value log rule ordered m fits (suc i) k ρ a l h)
      ∙ sym (ap (λ b. b && (inside v (time_at log i) (time_at log (suc i)) && record_value log rule k l (suc i)))
      (lt-ltb (suc i) (length log) f.0))

  -- right's form derived, if 0 is in the shifted interval
  pub now_right : (i k r : ℕ) (v : Interval) (derived : List (Form m)) (ρ : ℕ → Bool) → r < k
      → Agrees log rule i k (λ q. value m (form_in m derived q) ρ)
      → value m (only_if m (inside v (time_at log i) (time_at log i))
      (put m (form_in m (forms_of m rule k) r) derived)) ρ
      ≡ (inside v (time_at log i) (time_at log i) && record_value log rule k r i)
  now_right i k r v derived ρ h a =
      value_only_if m (inside v (time_at log i) (time_at log i)) (put m (form_in m (forms_of m rule k) r) derived) ρ
      ∙ ap (λ b. inside v (time_at log i) (time_at log i) && b) (put_value log rule ordered m fits i k r derived ρ a h)

  until_right : (later : Neighbour) (i k l r : ℕ) (v : Interval) (n : ℕ) (derived : List (Form m)) (ρ : ℕ → Bool)
      → Follows log later i → n < shifts v → l < k → r < k → ((n : ℕ) → n < shifts v → first_of rule k + n < m)
      → Own log rule later i k (until l r v) ρ → Agrees log rule i k (λ q. value m (form_in m derived q) ρ)
      → value m
      (or m
      (only_if m (inside (shifted v n) (time_at log i) (time_at log i))
      (put m (form_in m (forms_of m rule k) r) derived))
      (until_later m (forms_of m rule k) derived (first_of rule k) l v n (time_at log i) later)) ρ
      ≡ until_at log (record_value log rule k l) (record_value log rule k r) (shifted v n) i
  unfolding until_later parameter_to meaning shifted_node count
  until_right none i k l r v n derived ρ f h hl hr fit own a =
      value_or m _ (constant m false) ρ
      ∙ ap₂ ◌||◌ (now_right i k r (shifted v n) derived ρ hr a) (value_constant m false ρ)
      ∙ or-false (inside (shifted v n) (time_at log i) (time_at log i) && record_value log rule k r i)
      ∙ sym (until_last log rising (record_value log rule k l) (record_value log rule k r) (shifted v n) i f)
  until_right (at t) i k l r v n derived ρ f h hl hr fit own a =
      let put-left = put m (form_in m (forms_of m rule k) l) derived in
      let moves = parameter_to m (first_of rule k) (moved v n (time_at log i) t) in
      value_or m _ (and m put-left moves) ρ
      ∙ ap₂ ◌||◌ (now_right i k r (shifted v n) derived ρ hr a)
      (value_and m put-left moves ρ
      ∙ ap₂ ◌&&◌ (put_value log rule ordered m fits i k l derived ρ a hl)
      (moved_cases
      (λ s. value m (parameter_to m (first_of rule k) s) ρ ≡ moved_to (λ w. until_at log left right w (suc i)) v s)
      v n (time_at log i) t
      (value_constant m false ρ)
      (λ n q. value_parameter m (first_of rule k + n) ρ (fit n q) ∙ own n q)
      ∙ ap (λ x. moved_to (λ w. until_at log left right w (suc i)) v (moved v n (time_at log i) x)) f.1))
      ∙ sym (until_step log rising left right v n i h f.0)
    where
      left : ℕ → Bool
      left = record_value log rule k l

      right : ℕ → Bool
      right = record_value log rule k r

  -- one derived row is right
  derive_right : (later : Neighbour) (i k n : ℕ) (past derived : List (Form m)) (ρ : ℕ → Bool) (d : Node)
      → Follows log later i → Earlier k d → n < count d
      → ((n : ℕ) → n < count d → first_of rule k + n < m) → Ahead log rule later i k ρ
      → (Future d → Own log rule later i k d ρ) → Agrees log rule i k (λ q. value m (form_in m derived q) ρ)
      → ((σ : ℕ → Bool) → Agrees log rule i (reach d k) σ
      → value m (form_in m past (first_of rule k + n)) σ ≡ meaning log (values log rule k) (shifted_node d n) i)
      → value m (derived_row m past (forms_of m rule k) derived (entry_at log i) later (first_of rule k) d n) ρ
      ≡ meaning log (values log rule k) (shifted_node d n) i
  unfolding derived_row meaning shifted_node count Earlier time_at Future reach
  derive_right later i k n past derived ρ (fixed b) f o c fit a own e p = let z : ⊥ = omega arith in absurd z
  derive_right later i k n past derived ρ (signal s) f o c fit a own e p =
      value_constant m (holds (entry_at log i) s) ρ
  derive_right later i k n past derived ρ (both l r) f o c fit a own e p = let z : ⊥ = omega arith in absurd z
  derive_right later i k n past derived ρ (either l r) f o c fit a own e p = let z : ⊥ = omega arith in absurd z
  derive_right later i k n past derived ρ (next l v) f o c fit a own e p = next_right later i k l v ρ f a o
  derive_right later i k n past derived ρ (until l r v) f o c fit a own e p =
      until_right later i k l r v n derived ρ f c o.0 o.1 fit (own tt) e
  derive_right later i k n past derived ρ (previous l v) f o c fit a own e p =
      value_put m (form_in m past (first_of rule k + n)) derived ρ ∙ p (λ q. value m (form_in m derived q) ρ) e
  derive_right later i k n past derived ρ (since l r v) f o c fit a own e p =
      value_put m (form_in m past (first_of rule k + n)) derived ρ ∙ p (λ q. value m (form_in m derived q) ρ) e

  -- the derived rows are right where the past rows are
  pub derived_right : (later : Neighbour) (i K : ℕ) (past : List (Form m)) → Follows log later i
      → RightRows log rule m (Agrees log rule i) past K i → (k : ℕ) → k ≤ K
      → RightRows log rule m (Ahead log rule later i) (derived_rows m rule past (entry_at log i) later k) k i
  unfolding derived_rows
  derived_right later i K past f ok zero h =
      rows_none rule (constant m false) (RightRow log rule m (Ahead log rule later i) i)
  derived_right later i K past f ok (suc k) h =
      let derived : List (Form m) = derived_rows m rule past (entry_at log i) later k in
      let ih : RightRows log rule m (Ahead log rule later i) derived k i
      = derived_right later i K past f ok k (omega arith) in
      rows_more rule (constant m false) (RightRow log rule m (Ahead log rule later i) i) derived
      (derived_row m past (forms_of m rule k) derived (entry_at log i) later (first_of rule k) (node_at rule k)) k
      (length_derived_rows m rule past (entry_at log i) later k) ih
      (λ n c ρ a.
      let a' : Ahead log rule later i k ρ
      = from_reach log rule m (Ahead log rule later i) (ahead_down later i) (node_at rule k) k ρ a in
      derive_right later i k n past derived ρ (node_at rule k) f (ordered k) c
      (block_fits log rule ordered m fits k) a'
      (λ x. ahead_own later i k ρ (subst (λ y. Ahead log rule later i y ρ) (reach_future (node_at rule k) k x) a))
      (rows_agree log rule m (Ahead log rule later i) (ahead_down later i) derived k i ih k (omega arith) ρ a')
      (ok k n h c))
