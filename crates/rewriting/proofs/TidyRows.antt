-- What the tests of bits and of zeros tell of an area: one that passes both is tidy, and one that is laid out passes.
-- Assumes nothing.
use mathlib.Core.Path.{◌≡◌, refl, sym, ap, ap₂, ◌∙◌, subst}
use mathlib.Core.Bool.{Bool, true, false, not, ◌&&◌, ◌||◌}
use mathlib.Core.List.{List}
use Prim.Native.Nat.{ℕ, suc, ◌^◌, ◌≤◌, ◌<◌}
use native.Mathlib.Nat.{le_refl}
use native.Mathlib.Omega.{arith}
use borrow.Author.Tests.{le-leb, leb-true, eq-eqb, eqb-true, not-false}
use lib.Dec.{eqb, leb}
use lib.Pointwise.{pointwise, bytes_decides}
use lib.ListN.{length, get_or, replicate, get_or-eq_default}
use lib.Seq.{ext_get_or}
use Rattle.ground.specs.Fold.{fold, some}
use Rattle.ground.proofs.Folds.{fold_cong, every_all, every_at, some_none, none_at}
use Rattle.ground.proofs.Numbers.{zero_at}
use Rattle.ground.proofs.Tabs.{tab_cong}
use Rattle.forms.specs.Form.{Form, constant}
use Rattle.forms.specs.Words.{pack, unpack, fits}
use Rattle.forms.specs.Area.{row_at, form_in}
use Rattle.forms.proofs.Packing.{fits_pack, pack_false}
use Rattle.forms.proofs.Areas.{length_row_at}
use Rattle.meaning.specs.Rule.{Entry}
use Rattle.rewriting.specs.Known.{words_for, form_at, past_in, known_in, area_of, Tidy}
use Rattle.rewriting.specs.Shape.{bits_above, zero_row, not_zero_from}
use Rattle.rewriting.specs.inside.Shapes.{Fitting}
use Rattle.meaning.proofs.Ranges.{same_truth}
use Rattle.rewriting.proofs.Placed.{row_past, row_remainder, row_area_of}

-- the past rows and the remainder, of which one has a bit at or above 2^m or none has
module _ (places m : ℕ) (ws : List ℕ) where
  abbrev above : ℕ → Bool
  above j = not (fits m (row_at ws j))

  bits_all : some (suc places) above ≡ bits_above places m ws
  unfolding bits_above fold
  bits_all = refl

  pub bits_last : (r : Bool) → ((j : ℕ) → j < places → above j ≡ false) → r ≡ above places
      → r ≡ bits_above places m ws
  unfolding bits_above
  bits_last r none e = e ∙ rw (some_none places above none)

  pub fits_at : bits_above places m ws ≡ false → (j : ℕ) → j ≤ places → fits m (row_at ws j) ≡ true
  fits_at e j h = not-false _ (none_at (suc places) above (bits_all ∙ e) j (omega arith))

  pub fitting : m ≤ places → bits_above places m ws ≡ false → Fitting m ws
  fitting few e j h = fits_at e j (omega arith)

-- a row of zeros
zero_row_lem : zero_row (replicate 64 0) ≡ true
unfolding zero_row
zero_row_lem = every_all 64 _ (λ i h. eq-eqb (get_or (replicate 64 0) i 0) 0 (zero_at 64 i))

zero_row_is : (row : List ℕ) → length row ≡ 64 → zero_row row ≡ true → row ≡ replicate 64 0
unfolding zero_row
zero_row_is row l e =
    ext_get_or 0 row (replicate 64 0) l
    (λ i h.
    eqb-true (get_or row i 0) 0 (every_at 64 (λ j. eqb (get_or row j 0) 0) e i (subst (λ n. i < n) l h))
    ∙ sym (zero_at 64 i))

-- it is the row that equals it
pub zero_row_equal : (row : List ℕ) → length row ≡ 64 → pointwise eqb row (replicate 64 0) ≡ zero_row row
zero_row_equal row l =
    same_truth _ _ (λ e. ap zero_row ((bytes_decides row (replicate 64 0)).0 e) ∙ zero_row_lem)
    (λ e. (bytes_decides row (replicate 64 0)).1 (zero_row_is row l e))

zeros_at : (places from : ℕ) (ws : List ℕ) → not_zero_from places from ws ≡ false → (j : ℕ) → from ≤ j → j < places
    → row_at ws j ≡ replicate 64 0
unfolding not_zero_from
zeros_at places from ws e j h l =
    zero_row_is (row_at ws j) (length_row_at ws j)
    (not-false _ (ap (λ b. b && not (zero_row (row_at ws j))) (sym (le-leb from j h)) ∙ none_at places _ e j l))

-- an area that passes both
pub tidy : (places m : ℕ) (ws : List ℕ) → m ≤ places → length ws ≡ words_for places → ((i : ℕ) → get_or ws i 0 < 2 ^ 64)
    → bits_above places m ws ≡ false → not_zero_from places m ws ≡ false → Tidy places m ws
tidy places m ws few long small bits zeros =
    record {
      long = long;
      small = small;
      past = fitting places m ws few bits;
      unused = zeros_at places m ws zeros;
      remainder = fits_at places m ws bits places (le_refl places);
    }

-- areas with the same past rows and remainder
module _ (places : ℕ) (a b : List ℕ) (alike : (j : ℕ) → j ≤ places → row_at a j ≡ row_at b j) where
  pub bits_same : (m : ℕ) → bits_above places m a ≡ bits_above places m b
  bits_same m =
      sym (bits_all places m a)
      ∙ fold_cong ◌||◌ false (suc places) (above places m a) (above places m b)
      (λ j h. ap (λ row. not (fits m row)) (alike j (omega arith)))
      ∙ bits_all places m b

  pub zeros_same : (from : ℕ) → not_zero_from places from a ≡ not_zero_from places from b
  unfolding not_zero_from
  zeros_same from =
      fold_cong ◌||◌ false places _ _
      (λ j h. ap (λ row. leb from j && not (zero_row row)) (alike j (omega arith)))

  -- hold the same forms
  pub form_same : (m j : ℕ) → j ≤ places → form_at m a j ≡ form_at m b j
  unfolding form_at
  form_same m j h = ap (unpack m) (alike j h)

  pub past_same : (m : ℕ) → m ≤ places → past_in m a ≡ past_in m b
  unfolding past_in
  past_same m h = tab_cong m (form_at m a) (form_at m b) (λ j l. form_same m j (omega arith))

  pub known_same : (m : ℕ) → m ≤ places → (last : Entry) → known_in places m a last ≡ known_in places m b last
  unfolding known_in
  known_same m h last =
      ap₂ (λ past f. record { past = past; remainder = f; last = last }) (past_same m h)
      (form_same m places (le_refl places))

-- an area that is laid out
module _ (places m : ℕ) (past : List (Form m)) (remainder : Form m) where
  abbrev laid : List ℕ
  laid = area_of places m past remainder

  pub past_laid : (j : ℕ) → j < places → row_at laid j ≡ pack m (form_in m past j)
  past_laid j h = row_area_of places m past remainder j (omega arith) ∙ row_past places m past remainder j h

  pub bits_fine : bits_above places m laid ≡ false
  bits_fine =
      sym (bits_last places m laid false (λ j h. fine j (form_in m past j) (past_laid j h))
      (sym (fine places remainder (row_area_of places m past remainder places (omega arith)
      ∙ row_remainder places m past remainder))))
    where
      fine : (j : ℕ) (f : Form m) → row_at laid j ≡ pack m f → not (fits m (row_at laid j)) ≡ false
      fine j f e = ap not (ap (fits m) e ∙ fits_pack m f)

  -- rows past the list of past rows are zero
  pub unused_fine : (from : ℕ) → length past ≤ from → not_zero_from places from laid ≡ false
  unfolding not_zero_from
  unused_fine from h = some_none places _ (λ j l. go j l (leb from j) refl)
    where
      row : (j : ℕ) → j < places → from ≤ j → row_at laid j ≡ replicate 64 0
      row j l u =
          past_laid j l
          ∙ ap (pack m) (get_or-eq_default past (constant m false) (let k : length past ≤ j = omega arith in k))
          ∙ sym (pack_false m)

      go : (j : ℕ) → j < places → (b : Bool) → leb from j ≡ b → (b && not (zero_row (row_at laid j))) ≡ false
      go j l false e = refl
      go j l true e = ap not (ap zero_row (row j l (leb-true from j e)) ∙ zero_row_lem)
