-- Rows of an area put into a form: over the most parameters, and so over fewer.
-- Assumes nothing.
use mathlib.Core.Path.{◌≡◌, refl, sym, ap, ap₂, ◌∙◌, subst}
use mathlib.Core.Bool.{true, false, cond, false≢true}
use mathlib.Core.Logic.{inl, ⊎_elim}
use mathlib.Core.List.{List, map}
use Prim.Native.Nat.{ℕ, ◌+◌, ◌/◌, ◌%◌, ◌^◌, ◌≤◌, ◌<◌}
use native.Mathlib.Nat.{add-zero, le_trans}
use native.Mathlib.Omega.{arith}
use borrow.Author.Count.{below_more}
use lib.Bits.{bit_xor}
use lib.ListN.{length, get_or, set, replicate, length-map, get_or-map, get_or-eq_default}
use Rattle.ground.specs.Bits.{bit, of_bits, bit_at}
use Rattle.ground.proofs.Folds.{less_or_not}
use Rattle.ground.proofs.Bits.{bit_true, bit_false, bit_low}
use Rattle.ground.proofs.Numbers.{bit_of_bits}
use Rattle.forms.specs.Form.{Form, constant, parameter, xor, put_in, seen, value, names, truth}
use Rattle.forms.specs.Words.{most, pack, unpack, of_terms}
use Rattle.forms.specs.Area.{row_at, put_rows, form_in, Holds}
use Rattle.forms.specs.Rows.{OfForm, OfRow, WithRows}
use Rattle.forms.specs.inside.Steps.{Free, Only, Tables, PutTerms, only_named, TableOf, TablesOf}
use Rattle.forms.proofs.Values.{value_agree, value_put_in, canonical}
use Rattle.forms.proofs.Depends.{put_in_constant, put_in_parameter, put_in_xor, put_in_same}
use Rattle.forms.proofs.Depends.{depends_names, names_depends}
use Rattle.forms.proofs.Truths.{has_truth, truth_false, truth_truth}
use Rattle.forms.proofs.Document.{bit_of_low}
use Rattle.forms.proofs.Packing.{pack_words, bit_pack, unpack_pack, pack_false}
use Rattle.forms.proofs.Packing.{value_seen, pack_seen, most_is, most_few, most_wide}
use Rattle.forms.proofs.Making.{negated_row}
use Rattle.forms.proofs.Reading.{read_constant, read_parameter}
use Rattle.forms.proofs.Areas.{row_put, row_kept}

-- no row there
pub row_none : (ws : List ℕ) (base count j : ℕ) → count ≤ j → OfRow ws base count j (replicate 64 0)
row_none ws base count j h m rows holds =
    let past : length rows ≤ j = omega (arith, holds.long) in
    pack_false m ∙ ap (pack m) (sym (get_or-eq_default rows (constant m false) past))

-- the table of a row that is not named, and of one that is
pub table_none : (ws : List ℕ) (base count named j : ℕ) → named / 2 ^ j % 2 ≡ 0
    → TableOf ws base count named j (replicate 64 0)
unfolding only_named
table_none ws base count named j h rows holds =
    let even : bit named j ≡ false = bit_false named j (λ e. omega arith) in
    pack_false most
    ∙ ap (pack most) (sym (truth_false most)
    ∙ ap (λ b. truth most (cond b (form_in most rows j) (constant most false))) (sym even))

pub table_here : (ws row r : List ℕ) (base count named j : ℕ) → (named / 2 ^ j % 2 ≡ 0 → ⊥) → OfRow ws base count j row
    → ((f : Form most) → row ≡ pack most f → r ≡ pack most (truth most f)) → TableOf ws base count named j r
unfolding only_named
table_here ws row r base count named j h at made rows holds =
    let odd : bit named j ≡ true = bit_true named j (omega arith) in
    made (form_in most rows j) (at most rows holds)
    ∙ ap (λ b. pack most (truth most (cond b (form_in most rows j) (constant most false)))) (sym odd)

-- what is put in for a parameter that the form does not name does not matter
named_enough : (m : ℕ) (f : Form m) (named : ℕ) (σ : ℕ → Form most) → m ≤ 12 → named ≡ of_bits 12 (names m f)
    → put_in m most f (only_named named σ) ≡ put_in m most f σ
unfolding only_named
named_enough m f named σ few e =
    put_in_same (λ j. names m f j ≡ true) m most f _ σ (depends_names m f)
    (λ j s.
    ap (λ b. cond b (σ j) (constant most false)) (ap (λ x. bit x j) e ∙ bit_of_bits 12 (names m f) j (below j s) ∙ s))
  where
    below : (j : ℕ) → names m f j ≡ true → j < 12
    below j s =
        ⊎_elim (λ l. l)
        (λ l.
        absurd
        (false≢true
        (sym (names_depends (λ i. i < m) m f (value_agree m f) j (λ b. let z : ⊥ = omega arith in z)) ∙ s)))
        (less_or_not j 12)

-- one table more
pub tables_more : (ts ts' t : List ℕ) (j : ℕ) (σ : ℕ → Form most) → length ts ≡ 768 → j < 12
    → t ≡ pack most (truth most (σ j)) → ts' ≡ put_rows ts j 1 (λ _. t) → Tables ts j σ → Tables ts' (j + 1) σ
tables_more ts ts' t j σ long h e put sofar =
    let words : length t ≡ 64 = ap length e ∙ (pack_words most (truth most (σ j))).long in
    below_more (λ i. row_at ts' i ≡ pack most (truth most (σ i))) j
    (λ i l. ap (λ x. row_at x i) put ∙ row_kept ts j 1 (λ _. t) i (inl l) ∙ sofar i l)
    (ap₂ row_at put (sym (add-zero j)) ∙ row_put ts j 1 (λ _. t) 0 (omega arith) (omega arith) words ∙ e)

-- over the most parameters
put_most : (row v r ts ws : List ℕ) (base count named : ℕ) → OfForm (λ m f. of_bits 12 (names m f)) row named
    → TablesOf ws base count named ts → PutTerms row ts 12 0 v
    → ((f : Form most) → v ≡ pack most f → r ≡ pack most (truth most f)) → (f : Form most) (rows : List (Form most))
    → row ≡ pack most f → Holds most ws base count rows → r ≡ pack most (put_in most most f (form_in most rows))
unfolding unpack
put_most row v r ts ws base count named all tables put back f rows e holds =
    back (truth most g) (made ∙ ap (λ x. pack most (truth most (put_in most most x σ))) whole)
    ∙ ap (pack most)
    (truth_truth most g ∙ named_enough most f named (form_in most rows) most_few (all most f most_few e))
  where
    σ : ℕ → Form most
    σ = only_named named (form_in most rows)

    g : Form most
    g = put_in most most f σ

    whole : of_terms most (bit_at row) 0 ≡ f
    whole = ap (unpack most) e ∙ unpack_pack most f most_few

    made : v ≡ pack most (truth most (put_in most most (of_terms most (bit_at row) 0) σ))
    made =
        subst (λ p. v ≡ pack most (truth most (put_in p most (of_terms p (bit_at row) 0) σ))) (sym most_is)
        (put σ (tables rows holds))

-- a list of forms over m, seen over the most
module _ (m : ℕ) (few : m ≤ 12) where
  fits : m ≤ most
  fits = subst (λ x. m ≤ x) (sym most_is) few

  wider : List (Form m) → List (Form most)
  wider rows = map (seen m most) rows

  wider_at : (rows : List (Form m)) (j : ℕ) → form_in most (wider rows) j ≡ seen m most (form_in m rows j)
  unfolding wider seen
  wider_at rows j =
      ap (get_or (map (seen m most) rows) j) (sym (put_in_constant m most false _))
      ∙ get_or-map (seen m most) rows j (constant m false)

  wider_holds : (ws : List ℕ) (base count : ℕ) (rows : List (Form m)) → Holds m ws base count rows
      → Holds most ws base count (wider rows)
  unfolding wider
  wider_holds ws base count rows holds = record {
    long = length-map rows (seen m most) ∙ holds.long;
    row = λ j h.
        holds.row j h ∙ pack_seen m most (form_in m rows j) fits ∙ ap (pack most) (sym (wider_at rows j));
  }

  put_in_wider : (f : Form m) (rows : List (Form m))
      → put_in most most (seen m most f) (form_in most (wider rows)) ≡ seen m most (put_in m m f (form_in m rows))
  put_in_wider f rows =
      canonical most (put_in most most (seen m most f) (form_in most (wider rows)))
      (seen m most (put_in m m f (form_in m rows)))
      (λ ρ.
      value_put_in most most (seen m most f) (form_in most (wider rows)) ρ
      ∙ value_seen m most f (λ j. value most (form_in most (wider rows) j) ρ) fits
      ∙ value_agree m f (λ j. value most (form_in most (wider rows) j) ρ) (λ j. value m (form_in m rows j) ρ)
      (λ j h. ap (λ x. value most x ρ) (wider_at rows j) ∙ value_seen m most (form_in m rows j) ρ fits)
      ∙ sym (value_seen m most (put_in m m f (form_in m rows)) ρ fits ∙ value_put_in m m f (form_in m rows) ρ))

-- and so over fewer
pub put_rows_lem : (row v r ts ws : List ℕ) (base count named : ℕ) → OfForm (λ m f. of_bits 12 (names m f)) row named
    → TablesOf ws base count named ts → PutTerms row ts 12 0 v
    → ((f : Form most) → v ≡ pack most f → r ≡ pack most (truth most f)) → WithRows row ws base count r
put_rows_lem row v r ts ws base count named all tables put back m f rows few e holds =
    put_most row v r ts ws base count named all tables put back (seen m most f) (wider m few rows)
    (e ∙ pack_seen m most f (fits m few)) (wider_holds m few ws base count rows holds)
    ∙ ap (pack most) (put_in_wider m few f rows) ∙ sym (pack_seen m most (put_in m m f (form_in m rows)) (fits m few))

-- a constant stays
pub put_constant : (row ws : List ℕ) (base count : ℕ) → Free row 1 4096 → WithRows row ws base count row
put_constant row ws base count free m f rows few e holds =
    let same : f ≡ constant m (bit_at row 0) = read_constant m f row few e free (bit_at row 0) refl in
    e
    ∙ ap (pack m)
    (same ∙ sym (ap (λ g. put_in m m g (form_in m rows)) same ∙ put_in_constant m m (bit_at row 0) (form_in m rows)))

-- a parameter is the row put in for it, and its negation that row's
pub put_lone : (row ws r : List ℕ) (base count p : ℕ) → (p < 12) × Only row (2 ^ p) → OfRow ws base count p r
    → WithRows row ws base count (set r 0 (bit_xor (get_or r 0 0) (get_or row 0 0 % 2)))
unfolding bit_at
put_lone row ws r base count p lone at m f rows few e holds =
    let σ : ℕ → Form m = form_in m rows in
    let same = read_parameter m f row few e p lone.0 lone.1 in
    negated_row m (σ p) r (get_or row 0 0) (at m rows holds)
    ∙ ap (pack m)
    (sym (ap (λ g. put_in m m g σ) same.1 ∙ put_in_xor m m (parameter m p) (constant m (bit_at row 0)) σ
    ∙ ap₂ (xor m) (put_in_parameter m m p σ same.0) (put_in_constant m m (bit_at row 0) σ)))

-- a bit of the truth values is the form's value
pub value_here : (row t : List ℕ) (s : ℕ) → ((f : Form most) → row ≡ pack most f → t ≡ pack most (truth most f))
    → (m : ℕ) (f : Form m) → m ≤ 12 → row ≡ pack m f → bit_at t (s % 4096) ≡ value m f (bit s)
value_here row t s made m f few e =
    let k : ℕ = s % 4096 in
    let h : k < 4096 = omega arith in
    ap (λ x. bit_at x k) (made (seen m most f) (e ∙ pack_seen m most f (fits m few)))
    ∙ bit_pack most (truth most (seen m most f)) k h
    ∙ bit_of_low most (truth most (seen m most f)) k (le_trans h most_wide)
    ∙ has_truth most (seen m most f) (bit k) ∙ value_seen m most f (bit k) (fits m few)
    ∙ value_agree m f (bit k) (bit s) (λ j l. bit_low s 12 j (omega arith))
