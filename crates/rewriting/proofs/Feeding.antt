-- What the steps of feeding make of the work area.
-- Assumes nothing.
use mathlib.Core.Path.{◌≡◌, refl, sym, ap, ◌∙◌}
use mathlib.Core.Bool.{false}
use mathlib.Core.Logic.{inl, inr, ⊎_elim}
use mathlib.Core.List.{List, []}
use Prim.Native.Nat.{ℕ, ◌+◌, ◌≤◌, ◌<◌}
use native.Mathlib.Nat.{zero-add}
use native.Mathlib.Omega.{arith}
use lib.ListN.{length, replicate, get_or-eq_default}
use Rattle.ground.proofs.Folds.{less_or_not}
use Rattle.forms.specs.Form.{Form, constant}
use Rattle.forms.specs.Words.{pack}
use Rattle.forms.specs.Area.{row_at, put_rows, form_in, Holds}
use Rattle.forms.proofs.Packing.{pack_words, pack_false}
use Rattle.forms.proofs.Areas.{length_put_rows, row_put, row_kept}
use Rattle.rewriting.specs.Known.{words_for, form_at, area_of, Tidy}
use Rattle.rewriting.specs.Plans.{form_row}
use Rattle.rewriting.proofs.Placed.{words_for_rows, tidy_rest, cleared_laid}
use Rattle.rewriting.proofs.Written.{held_put, held_kept}

-- no derived row is held before the first record
pub held_none : (m : ℕ) (ws : List ℕ) (base : ℕ) → Holds m ws base 0 []
held_none m ws base = record { long = refl; row = λ j l. let z : ⊥ = omega arith in absurd z }

module _ (places m : ℕ) (past : List (Form m)) (remainder : Form m) (few : m ≤ places) (long : length past ≡ m) where
  -- past rows put into an area with its remainder and with zero in its unused rows, and the scratch cleared
  pub laid_out : (a b c : List ℕ) → length a ≡ words_for places
      → ((j : ℕ) → m ≤ j → j < places → row_at a j ≡ replicate 64 0) → row_at a places ≡ pack m remainder
      → b ≡ put_rows a 0 m (form_row m past) → c ≡ put_rows b (places + 1) (places + 1) (λ _. replicate 64 0)
      → c ≡ area_of places m past remainder
  unfolding form_row
  laid_out a b c la unused rest p q =
      cleared_laid places m past remainder b c (ap length p ∙ length_put_rows a 0 m _ ∙ la) row_below
      (kept places few ∙ rest) q
    where
      kept : (j : ℕ) → m ≤ j → row_at b j ≡ row_at a j
      kept j h = ap (λ (x : List ℕ). row_at x j) p ∙ row_kept a 0 m _ j (inr (omega arith))

      put : (j : ℕ) → j < m → row_at b j ≡ pack m (form_in m past j)
      put j h =
          ap (λ (x : List ℕ). row_at x j) p ∙ ap (row_at (put_rows a 0 m (form_row m past))) (sym (zero-add j))
          ∙ row_put a 0 m (form_row m past) j h (omega (arith, la, words_for_rows places))
          (pack_words m (form_in m past j)).long

      row_below : (j : ℕ) → j < places → row_at b j ≡ pack m (form_in m past j)
      row_below j h =
          ⊎_elim (put j)
          (λ l.
          kept j l ∙ unused j l h ∙ pack_false m
          ∙ ap (pack m) (sym (get_or-eq_default past (constant m false) (omega arith))))
          (less_or_not j m)

module _ (places m : ℕ) (ws : List ℕ) (tidy : Tidy places m ws) (few : m ≤ places) where
  -- the first record: the remainder stays
  pub first_laid : (past : List (Form m)) (b c : List ℕ) → length past ≡ m → b ≡ put_rows ws 0 m (form_row m past)
      → c ≡ put_rows b (places + 1) (places + 1) (λ _. replicate 64 0)
      → c ≡ area_of places m past (form_at m ws places)
  first_laid past b c long p q =
      laid_out places m past (form_at m ws places) few long ws b c tidy.long tidy.unused
      (tidy_rest places m ws tidy) p q

  -- a later record: the derived rows are put into the scratch, and the new remainder behind the past rows
  module _ (derived : List (Form m)) (a : List ℕ) (long : length derived ≡ m)
      (d : a ≡ put_rows ws (places + 1) m (form_row m derived)) where
    long_derived : length a ≡ words_for places
    long_derived = ap length d ∙ length_put_rows ws (places + 1) m _ ∙ tidy.long

    -- the derived rows stand in the scratch
    pub derived_held : Holds m a (places + 1) m derived
    derived_held =
        held_put m ws (places + 1) m derived (form_row m derived) a d long
        (omega (arith, tidy.long, words_for_rows places)) (λ j h. refl)

    module _ (remainder : Form m) (b : List ℕ) (r : b ≡ put_rows a places 1 (λ _. pack m remainder)) where
      long_put : length b ≡ words_for places
      long_put = ap length r ∙ length_put_rows a places 1 _ ∙ long_derived

      below : (j : ℕ) → j < places → row_at b j ≡ row_at ws j
      below j h =
          ap (λ (x : List ℕ). row_at x j) r ∙ row_kept a places 1 _ j (inl h)
          ∙ ap (λ (x : List ℕ). row_at x j) d ∙ row_kept ws (places + 1) m _ j (inl (omega arith))

      pub derived_stay : Holds m b (places + 1) m derived
      derived_stay =
          held_kept m a (places + 1) m derived (λ _. pack m remainder) places 1 b r (inr (omega arith)) derived_held

      pub feed_laid : (past : List (Form m)) (c e : List ℕ) → length past ≡ m → c ≡ put_rows b 0 m (form_row m past)
          → e ≡ put_rows c (places + 1) (places + 1) (λ _. replicate 64 0) → e ≡ area_of places m past remainder
      feed_laid past c e l p q =
          laid_out places m past remainder few l b c e long_put (λ j h u. below j u ∙ tidy.unused j h u) rest p q
        where
          rest : row_at b places ≡ pack m remainder
          rest =
              ap (λ (x : List ℕ). row_at x places) r
              ∙ ap (row_at (put_rows a places 1 (λ _. pack m remainder)))
              (let q : places ≡ places + 0 = omega arith in q)
              ∙ row_put a places 1 (λ _. pack m remainder) 0 (omega arith)
              (omega (arith, long_derived, words_for_rows places)) (pack_words m remainder).long

  -- the remainder is where it was
  pub rest_stays : (a : List ℕ) (g : ℕ → List ℕ) → a ≡ put_rows ws (places + 1) m g
      → row_at a places ≡ pack m (form_at m ws places)
  rest_stays a g d =
      ap (λ (x : List ℕ). row_at x places) d ∙ row_kept ws (places + 1) m g places (inl (omega arith))
      ∙ tidy_rest places m ws tidy
