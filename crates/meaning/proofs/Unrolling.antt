-- Until and since, one record of the log at a time, with the shift moved by the gap.
-- Assumes nothing.
use mathlib.Core.Path.{◌≡◌, refl, sym, ap, ap₂, ◌∙◌}
use mathlib.Core.Bool.{Bool, true, false, ◌&&◌, ◌||◌, and-true, and-false, and_comm, or-false, or_comm}
use mathlib.Core.Logic.{inl, inr}
use mathlib.Core.List.{List}
use Prim.Native.Nat.{ℕ, suc, ◌≤◌, ◌<◌}
use native.Mathlib.Omega.{arith}
use lib.ListN.{length}
use Rattle.ground.specs.Fold.{every_in, some_in}
use Rattle.meaning.specs.Interval.{Interval, inside, shifts, shifted, Moved, gone, to, moved}
use Rattle.meaning.specs.Rule.{Entry, time_at, Rising}
use Rattle.meaning.specs.Meaning.{until_at, since_at}
use Rattle.meaning.proofs.Ranges.{every_in_none, every_in_first, every_in_last, some_in_none, some_in_first}
use Rattle.meaning.proofs.Ranges.{some_in_last, some_in_never, some_in_cong, some_in_factor}
use Rattle.meaning.proofs.Intervals.{moved_to, inside_moved}

-- the moved interval goes out
some_in_moved : (v : Interval) (s : Moved) (a b : ℕ) (f : Interval → ℕ → Bool) (g : ℕ → Bool)
    → some_in a b (λ j. moved_to (λ w. f w j) v s && g j) ≡ moved_to (λ w. some_in a b (λ j. f w j && g j)) v s
some_in_moved v gone a b f g = some_in_never a b (λ j. false) (λ i h l. refl)
some_in_moved v (to n) a b f g = refl

turn : (x y z w : Bool) → (x && (y && (z && w))) ≡ (z && (x && (y && w)))
turn true true z w = refl
turn true false z w = sym (and-false z)
turn false y z w = sym (and-false z)

module _ (log : List Entry) (rising : Rising log) (left right : ℕ → Bool) where
  -- the present record itself
  here : (v : Interval) (i a b : ℕ) → b ≤ a
      → (inside v (time_at log i) (time_at log i) && (right i && every_in a b left))
      ≡ (inside v (time_at log i) (time_at log i) && right i)
  here v i a b h =
      ap (λ x. inside v (time_at log i) (time_at log i) && (right i && x)) (every_in_none a b left h)
      ∙ ap (λ x. inside v (time_at log i) (time_at log i) && x) (and-true (right i))

  -- at the last record until looks at it alone
  pub until_last : (v : Interval) (i : ℕ) → suc i ≡ length log
      → until_at log left right v i ≡ (inside v (time_at log i) (time_at log i) && right i)
  unfolding until_at
  until_last v i e =
      some_in_first i (length log) _ (omega arith)
      ∙ ap₂ ◌||◌ (here v i i i (omega arith)) (some_in_none (suc i) (length log) _ (omega arith))
      ∙ or-false (inside v (time_at log i) (time_at log i) && right i)

  -- one later record, seen from i and seen from i + 1
  later : (v : Interval) (n i j : ℕ) → n < shifts v → suc i ≤ j → j < length log
      → (inside (shifted v n) (time_at log i) (time_at log j) && (right j && every_in i j left))
      ≡ (left i
      && (moved_to (λ w. inside w (time_at log (suc i)) (time_at log j)) v
      (moved v n (time_at log i) (time_at log (suc i)))
      && (right j && every_in (suc i) j left)))
  later v n i j h l k =
      ap₂ (λ x y. x && (right j && y))
      (inside_moved v n (time_at log i) (time_at log (suc i)) (time_at log j) h
      (inl (rising i (suc i) (omega arith) (omega arith), rising (suc i) j l k)))
      (every_in_first i j left l)
      ∙ turn
      (moved_to (λ w. inside w (time_at log (suc i)) (time_at log j)) v
      (moved v n (time_at log i) (time_at log (suc i))))
      (right j) (left i) (every_in (suc i) j left)

  pub until_step : (v : Interval) (n i : ℕ) → n < shifts v → suc i < length log
      → until_at log left right (shifted v n) i
      ≡ (inside (shifted v n) (time_at log i) (time_at log i) && right i
      || left i && moved_to (λ w. until_at log left right w (suc i)) v
      (moved v n (time_at log i) (time_at log (suc i))))
  unfolding until_at
  until_step v n i h l =
      some_in_first i (length log) _ (omega arith)
      ∙ ap₂ ◌||◌ (here (shifted v n) i i i (omega arith))
      (some_in_cong (suc i) (length log) _ _ (λ j a b. later v n i j h a b)
      ∙ some_in_factor (suc i) (length log) (left i) _
      ∙ ap (λ x. left i && x)
      (some_in_moved v (moved v n (time_at log i) (time_at log (suc i))) (suc i) (length log)
      (λ w j. inside w (time_at log (suc i)) (time_at log j)) (λ j. right j && every_in (suc i) j left)))

  -- at the first record since looks at it alone
  pub since_first : (v : Interval) → since_at log left right v 0 ≡ (inside v (time_at log 0) (time_at log 0) && right 0)
  unfolding since_at
  since_first v =
      some_in_last 0 0 _ (omega arith)
      ∙ ap₂ ◌||◌ (some_in_none 0 0 _ (omega arith)) (here v 0 1 1 (omega arith))

  -- one earlier record, seen from i + 1 and seen from i
  earlier : (v : Interval) (n i j : ℕ) → n < shifts v → j ≤ i → suc i < length log
      → (inside (shifted v n) (time_at log (suc i)) (time_at log j) && (right j && every_in (suc j) (suc (suc i)) left))
      ≡ (left (suc i)
      && (moved_to (λ w. inside w (time_at log i) (time_at log j)) v (moved v n (time_at log (suc i)) (time_at log i))
      && (right j && every_in (suc j) (suc i) left)))
  earlier v n i j h l k =
      ap₂ (λ x y. x && (right j && y))
      (inside_moved v n (time_at log (suc i)) (time_at log i) (time_at log j) h
      (inr (rising j i l (omega arith), rising i (suc i) (omega arith) k)))
      (every_in_last (suc j) (suc i) left (omega arith) ∙ and_comm (every_in (suc j) (suc i) left) (left (suc i)))
      ∙ turn (moved_to (λ w. inside w (time_at log i) (time_at log j)) v
      (moved v n (time_at log (suc i)) (time_at log i)))
      (right j) (left (suc i)) (every_in (suc j) (suc i) left)

  pub since_step : (v : Interval) (n i : ℕ) → n < shifts v → suc i < length log
      → since_at log left right (shifted v n) (suc i)
      ≡ (inside (shifted v n) (time_at log (suc i)) (time_at log (suc i)) && right (suc i)
      || left (suc i) && moved_to (λ w. since_at log left right w i) v
      (moved v n (time_at log (suc i)) (time_at log i)))
  unfolding since_at
  since_step v n i h l =
      some_in_last 0 (suc i) _ (omega arith)
      ∙ or_comm (some_in 0 (suc i) _) _
      ∙ ap₂ ◌||◌ (here (shifted v n) (suc i) (suc (suc i)) (suc (suc i)) (omega arith))
      (some_in_cong 0 (suc i) _ _ (λ j a b. earlier v n i j h (omega arith) l)
      ∙ some_in_factor 0 (suc i) (left (suc i)) _
      ∙ ap (λ x. left (suc i) && x)
      (some_in_moved v (moved v n (time_at log (suc i)) (time_at log i)) 0 (suc i)
      (λ w j. inside w (time_at log i) (time_at log j)) (λ j. right j && every_in (suc j) (suc i) left)))
