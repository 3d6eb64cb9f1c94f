-- What is known, laid out in the work area and read from it.
-- Assumes nothing.
use mathlib.Core.Path.{◌≡◌, refl, sym, ap, ◌∙◌, subst}
use mathlib.Core.Bool.{true, false}
use mathlib.Core.Logic.{inl, ⊎_elim}
use mathlib.Core.List.{List}
use Prim.Native.Nat.{ℕ, ◌+◌, ◌-◌, ◌*◌, ◌/◌, ◌%◌, ◌^◌, ◌≤◌, ◌<◌}
use native.Mathlib.Nat.{zero-add}
use native.Mathlib.Omega.{arith}
use lib.Dec.{lit<}
use lib.ListN.{length, get_or, replicate}
use borrow.Author.Tests.{lt-ltb, le-ltb, eq-eqb, ne_eqb}
use Rattle.ground.proofs.Folds.{less_or_not}
use Rattle.ground.proofs.Numbers.{zero_at}
use Rattle.ground.proofs.Tabs.{length_tab, get_d_tab, get_d_tab_out, tab_is}
use Rattle.forms.specs.Form.{Form, constant}
use Rattle.forms.specs.Words.{pack, unpack, fits}
use Rattle.forms.specs.Area.{row_at, put_rows, form_in, Holds}
use Rattle.forms.proofs.Packing.{pack_words, unpack_pack, pack_unpack, pack_false}
use Rattle.forms.proofs.Areas.{length_put_rows, row_put, row_kept, row_words, rows_same}
use Rattle.rewriting.specs.Known.{words_for, form_at, past_in, row_for, area_of, Tidy}

pub words_for_rows : (places : ℕ) → words_for places ≡ 64 * (2 * (places + 1))
unfolding words_for
words_for_rows places = refl

-- the rows of an area that is laid out
module _ (places m : ℕ) (past : List (Form m)) (remainder : Form m) where
  pub row_past : (j : ℕ) → j < places → row_for places m past remainder j ≡ pack m (form_in m past j)
  unfolding row_for
  row_past j h = rw (lt-ltb j places h)

  pub row_remainder : row_for places m past remainder places ≡ pack m remainder
  unfolding row_for
  row_remainder = rw (le-ltb places places (omega arith), eq-eqb places places refl)

  pub row_scratch : (j : ℕ) → places < j → row_for places m past remainder j ≡ replicate 64 0
  unfolding row_for
  row_scratch j h = rw (le-ltb j places (omega arith), ne_eqb j places (λ e. let z : ⊥ = omega arith in z))

  -- what holds of each kind of row holds of all
  pub row_each : (P : ℕ → List ℕ → Type 0) → ((j : ℕ) → j < places → P j (pack m (form_in m past j)))
      → P places (pack m remainder) → ((j : ℕ) → places < j → P j (replicate 64 0)) → (j : ℕ)
      → P j (row_for places m past remainder j)
  row_each P a b c j =
      ⊎_elim (λ h. subst (P j) (sym (row_past j h)) (a j h))
      (λ h.
      ⊎_elim (λ g. subst (P j) (sym (row_scratch j g)) (c j g))
      (λ g.
      let e : places ≡ j = omega arith in
      subst (λ i. P i (row_for places m past remainder i)) e (subst (P places) (sym row_remainder) b))
      (less_or_not places j))
      (less_or_not j places)

  length_row : (j : ℕ) → length (row_for places m past remainder j) ≡ 64
  length_row =
      row_each (λ j r. length r ≡ 64) (λ j h. (pack_words m (form_in m past j)).long) (pack_words m remainder).long
      (λ j h. refl)

  pub length_area_of : length (area_of places m past remainder) ≡ words_for places
  unfolding area_of
  length_area_of = length_tab (words_for places) _

  word_at : (j i : ℕ) → j < 2 * (places + 1) → i < 64
      → get_or (area_of places m past remainder) (64 * j + i) 0 ≡ get_or (row_for places m past remainder j) i 0
  unfolding area_of
  word_at j i h l =
      let q : (64 * j + i) / 64 ≡ j = omega arith in
      let r : (64 * j + i) % 64 ≡ i = omega arith in
      get_d_tab (words_for places) _ (64 * j + i) 0 (omega (arith, words_for_rows places))
      ∙ ap (λ x. get_or (row_for places m past remainder x) ((64 * j + i) % 64) 0) q
      ∙ ap (λ x. get_or (row_for places m past remainder j) x 0) r

  pub row_area_of : (j : ℕ) → j < 2 * (places + 1)
      → row_at (area_of places m past remainder) j ≡ row_for places m past remainder j
  unfolding row_at
  row_area_of j h =
      sym (tab_is 64 _ (row_for places m past remainder j) 0 (length_row j) (λ i l. sym (word_at j i h l)))

  -- an area of these rows is the one that is laid out
  pub area_is : (a : List ℕ) → length a ≡ words_for places
      → ((j : ℕ) → j < 2 * (places + 1) → row_at a j ≡ row_for places m past remainder j)
      → a ≡ area_of places m past remainder
  area_is a l p =
      rows_same (2 * (places + 1)) a (area_of places m past remainder) (l ∙ words_for_rows places)
      (length_area_of ∙ words_for_rows places) (λ j h. p j h ∙ sym (row_area_of j h))

  -- by the three kinds of row
  pub area_by : (a : List ℕ) → length a ≡ words_for places
      → ((j : ℕ) → j < places → row_at a j ≡ pack m (form_in m past j)) → row_at a places ≡ pack m remainder
      → ((j : ℕ) → places < j → j < 2 * (places + 1) → row_at a j ≡ replicate 64 0)
      → a ≡ area_of places m past remainder
  area_by a l p r z =
      area_is a l
      (row_each (λ j row. j < 2 * (places + 1) → row_at a j ≡ row) (λ j h u. p j h) (λ u. r) (λ j h u. z j h u))

  -- reading back what was laid out
  pub read_remainder : m ≤ 12 → form_at m (area_of places m past remainder) places ≡ remainder
  unfolding form_at
  read_remainder few =
      ap (unpack m) (row_area_of places (omega arith) ∙ row_remainder) ∙ unpack_pack m remainder few

  read_at : m ≤ 12 → (j : ℕ) → j < places → form_at m (area_of places m past remainder) j ≡ form_in m past j
  unfolding form_at
  read_at few j h =
      ap (unpack m) (row_area_of j (omega arith) ∙ row_past j h) ∙ unpack_pack m (form_in m past j) few

  pub read_past : m ≤ 12 → m ≤ places → length past ≡ m → past_in m (area_of places m past remainder) ≡ past
  unfolding past_in
  read_past few h l =
      sym
      (tab_is m (form_at m (area_of places m past remainder)) past (constant m false) l
      (λ j u. sym (read_at few j (omega arith))))

  small_row : (j i : ℕ) → get_or (row_for places m past remainder j) i 0 < 2 ^ 64
  small_row =
      row_each (λ j r. (i : ℕ) → get_or r i 0 < 2 ^ 64) (λ j h. (pack_words m (form_in m past j)).small)
      (pack_words m remainder).small
      (λ j h i. subst (λ x. x < 2 ^ 64) (sym (zero_at 64 i)) (lit< tt))

  pub small_area_of : (k : ℕ) → get_or (area_of places m past remainder) k 0 < 2 ^ 64
  unfolding area_of
  small_area_of k =
      ⊎_elim
      (λ h. subst (λ x. x < 2 ^ 64) (sym (get_d_tab (words_for places) _ k 0 h)) (small_row (k / 64) (k % 64)))
      (λ h. subst (λ x. x < 2 ^ 64) (sym (get_d_tab_out (words_for places) _ k 0 h)) (lit< tt))
      (less_or_not k (words_for places))

-- the rows of a tidy area are those of the forms read from it
module _ (places m : ℕ) (ws : List ℕ) (tidy : Tidy places m ws) where
  whole : (j : ℕ) → fits m (row_at ws j) ≡ true → row_at ws j ≡ pack m (form_at m ws j)
  unfolding form_at
  whole j e = pack_unpack m (row_at ws j) (row_words ws j tidy.small) e

  pub tidy_rest : row_at ws places ≡ pack m (form_at m ws places)
  tidy_rest = whole places tidy.remainder

  pub tidy_past : (j : ℕ) → j < places → row_at ws j ≡ pack m (form_in m (past_in m ws) j)
  unfolding past_in
  tidy_past j h =
      ⊎_elim (λ l. whole j (tidy.past j l) ∙ ap (pack m) (sym (get_d_tab m (form_at m ws) j (constant m false) l)))
      (λ l.
      tidy.unused j l h ∙ pack_false m
      ∙ ap (pack m) (sym (get_d_tab_out m (form_at m ws) j (constant m false) l)))
      (less_or_not j m)

  pub tidy_held : m ≤ places → Holds m ws 0 m (past_in m ws)
  unfolding past_in
  tidy_held h =
      record {
        long = length_tab m (form_at m ws);
        row = λ j l. ap (row_at ws) (zero-add j) ∙ tidy_past j (omega arith);
      }

-- each of the places that one row is put at has it
pub row_among : (ws : List ℕ) (base count place : ℕ) (row : List ℕ) → base ≤ place → place < base + count
    → 64 * place + 64 ≤ length ws → length row ≡ 64 → row_at (put_rows ws base count (λ _. row)) place ≡ row
row_among ws base count place row h l room e =
    let q : base + (place - base) ≡ place = omega arith in
    subst (λ x. row_at (put_rows ws base count (λ _. row)) x ≡ row) q
    (row_put ws base count (λ _. row) (place - base) (omega arith) (omega arith) e)

-- past rows and a remainder with the scratch cleared are the area that is laid out
pub cleared_laid : (places m : ℕ) (past : List (Form m)) (f : Form m) (a out : List ℕ) → length a ≡ words_for places
    → ((j : ℕ) → j < places → row_at a j ≡ pack m (form_in m past j)) → row_at a places ≡ pack m f
    → out ≡ put_rows a (places + 1) (places + 1) (λ _. replicate 64 0) → out ≡ area_of places m past f
cleared_laid places m past f a out long p r z =
    area_by places m past f out
    (ap length z ∙ length_put_rows a (places + 1) (places + 1) (λ _. replicate 64 0) ∙ long)
    (λ j h. kept j (omega arith) ∙ p j h) (kept places (omega arith) ∙ r)
    (λ j h u.
    ap (λ (x : List ℕ). row_at x j) z
    ∙ row_among a (places + 1) (places + 1) j (replicate 64 0) (omega arith) (omega arith)
    (omega (arith, words_for_rows places, long)) refl)
  where
    kept : (j : ℕ) → j < places + 1 → row_at out j ≡ row_at a j
    kept j h =
        ap (λ (x : List ℕ). row_at x j) z ∙ row_kept a (places + 1) (places + 1) (λ _. replicate 64 0) j (inl h)
