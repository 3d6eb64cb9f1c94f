-- What is read from a row: which constant its form is, whether it fits, and which parameters it names.
-- Assumes nothing.
use mathlib.Core.Path.{◌≡◌, refl, sym, ap, ap₂, ◌∙◌, subst}
use mathlib.Core.Bool.{Bool, true, false, not, ◌&&◌, ◌||◌, cond, and-true, and-false, or-true, or-false}
use mathlib.Core.Bool.{false≢true}
use mathlib.Core.Logic.{⊎_elim}
use mathlib.Core.List.{List}
use Prim.Native.Nat.{ℕ, zero, suc, ◌+◌, ◌*◌, ◌%◌, ◌^◌, ◌≤◌, ◌<◌}
use native.Mathlib.Numerals.{add-one}
use native.Mathlib.Omega.{arith}
use lib.Bits.{bit_or}
use lib.Dec.{eqb, ltb}
use lib.ListN.{length}
use lib.Pow.{pow_mono, pow_pos}
use borrow.Author.Tests.{lt-ltb, le-ltb, eq-eqb, ne_eqb}
use Rattle.ground.specs.Fold.{◌⊕◌, fold, some}
use Rattle.ground.specs.Bits.{bit, of_bits, bit_at, Words}
use Rattle.ground.proofs.Xor.{⊕_false, ⊕_self}
use Rattle.ground.proofs.Folds.{less_or_not, fold_cong, fold_skip, every_all, every_not}
use Rattle.ground.proofs.Bits.{bit_or_lem, bit_zero, one_shl}
use Rattle.ground.proofs.Numbers.{same_bits, of_bits_lt, bit_of_bits}
use Rattle.forms.specs.Form.{Form, constant, parameter, xor, has, names, same}
use Rattle.forms.specs.Words.{bit_of, pack, fits}
use Rattle.forms.specs.Rows.{which_constant}
use Rattle.std.specs.Prelude.{Option, None, Some, is_some}
use Rattle.forms.specs.inside.Steps.{Free, First, Next, Only}
use Rattle.forms.specs.declared.rows.Truth.TheVariants.{True, False, Open}
use Rattle.forms.proofs.Values.{pairs}
use Rattle.forms.proofs.Document.{bit_of_low, bit_of_high}
use Rattle.forms.proofs.Packing.{bit_of_false, bit_of_xor, room, term_room, pack_words, bit_pack}
use Rattle.forms.proofs.Packing.{pack_is, pack_inj}
use Rattle.forms.proofs.Joining.{union_lt}
use Rattle.forms.proofs.Making.{bit_of_true, bit_of_constant, bit_of_parameter, true_row}

-- the test for the same form is right
pub same_refl : (m : ℕ) (f : Form m) → same m f f ≡ true
unfolding same
same_refl zero f = ap not (⊕_self f)
same_refl (suc m) f = ap₂ ◌&&◌ (same_refl m f.0) (same_refl m f.1)

pub same_eq : (m : ℕ) (f g : Form m) → same m f g ≡ true → f ≡ g
unfolding same
same_eq zero f g e = go f g e
  where
    go : (a b : Bool) → not (a ⊕ b) ≡ true → a ≡ b
    go true true q = refl
    go true false q = absurd (false≢true q)
    go false true q = absurd (false≢true q)
    go false false q = refl
same_eq (suc m) f g e =
    pairs m (same_eq m f.0 g.0 (first (same m f.0 g.0) (same m f.1 g.1) e))
    (same_eq m f.1 g.1 (second (same m f.0 g.0) (same m f.1 g.1) e))
  where
    first : (a b : Bool) → (a && b) ≡ true → a ≡ true
    first true b q = refl
    first false b q = q

    second : (a b : Bool) → (a && b) ≡ true → b ≡ true
    second true b q = q
    second false b q = absurd (false≢true q)

-- forms that differ are told apart
pub same_not : (m : ℕ) (f g : Form m) → (f ≡ g → ⊥) → same m f g ≡ false
same_not m f g h = go (same m f g) refl
  where
    go : (b : Bool) → same m f g ≡ b → same m f g ≡ false
    go true e = absurd (h (same_eq m f g e))
    go false e = e

-- the two constants differ
pub constants_differ : (m : ℕ) → constant m false ≡ constant m true → ⊥
constants_differ m e = false≢true (sym (bit_of_false m 0) ∙ ap (λ f. bit_of m f 0) e ∙ bit_of_true m 0)

-- a form that is found to be a constant is it
pub which_is_true : (m : ℕ) (f : Form m) → which_constant m f ≡ True → f ≡ constant m true
unfolding which_constant
which_is_true m f e = go (same m f (constant m true)) (same m f (constant m false)) refl e
  where
    go : (a b : Bool) → same m f (constant m true) ≡ a → cond a True (cond b False Open) ≡ True → f ≡ constant m true
    go true b q e = same_eq m f (constant m true) q
    go false true q e = let z : ◌≡◌ {A = ℕ} 0 1 = cc in let n : ⊥ = omega arith in absurd n
    go false false q e = let z : ◌≡◌ {A = ℕ} 0 1 = cc in let n : ⊥ = omega arith in absurd n

pub which_is_false : (m : ℕ) (f : Form m) → which_constant m f ≡ False → f ≡ constant m false
unfolding which_constant
which_is_false m f e = go (same m f (constant m true)) (same m f (constant m false)) refl e
  where
    go : (a b : Bool) → same m f (constant m false) ≡ b → cond a True (cond b False Open) ≡ False
        → f ≡ constant m false
    go true b q e = let z : ◌≡◌ {A = ℕ} 0 1 = cc in let n : ⊥ = omega arith in absurd n
    go false true q e = same_eq m f (constant m false) q
    go false false q e = let z : ◌≡◌ {A = ℕ} 0 1 = cc in let n : ⊥ = omega arith in absurd n

-- a form that is true, that is false, and that is neither
pub which_true : (m : ℕ) (f : Form m) → f ≡ constant m true → True ≡ which_constant m f
unfolding which_constant
which_true m f e =
    sym (ap (λ b. cond b True (cond (same m f (constant m false)) False Open))
    (ap (λ g. same m g (constant m true)) e ∙ same_refl m (constant m true)))

pub which_false : (m : ℕ) (f : Form m) → f ≡ constant m false → False ≡ which_constant m f
unfolding which_constant
which_false m f e =
    sym (ap₂ (λ a b. cond a True (cond b False Open))
    (same_not m f (constant m true) (λ q. constants_differ m (sym e ∙ q)))
    (ap (λ g. same m g (constant m false)) e ∙ same_refl m (constant m false)))

pub which_open : (m : ℕ) (f : Form m) → (f ≡ constant m true → ⊥) → (f ≡ constant m false → ⊥)
    → Open ≡ which_constant m f
unfolding which_constant
which_open m f h k =
    sym (ap₂ (λ a b. cond a True (cond b False Open)) (same_not m f (constant m true) h)
    (same_not m f (constant m false) k))

-- the row of a form f
module _ (m : ℕ) (f : Form m) (row : List ℕ) (few : m ≤ 12) (e : row ≡ pack m f) where
  row_bit : (k : ℕ) → k < 4096 → bit_at row k ≡ bit_of m f k
  row_bit k h = ap (λ ws. bit_at ws k) e ∙ bit_pack m f k h

  row_words : Words 64 row
  row_words = subst (λ ws. Words 64 ws) (sym e) (pack_words m f)

  -- no term
  pub read_none : ((l : ℕ) → l < 4096 → bit_at row l ≡ false) → f ≡ constant m false
  read_none p =
      pack_inj m f (constant m false) few
      (sym e ∙ pack_is m (constant m false) row row_words (λ l h. p l h ∙ sym (bit_of_false m l)))

  -- the term of p alone, but perhaps for the empty one
  pub read_parameter : (p : ℕ) → p < 12 → Only row (2 ^ p)
      → (p < m) × (f ≡ xor m (parameter m p) (constant m (bit_at row 0)))
  read_parameter p h only = (
    below,
    pack_inj m f g few
        (sym e
        ∙ pack_is m g row row_words
        (λ l b.
        bits l b
        ∙ sym (bit_of_xor m (parameter m p) (constant m (bit_at row 0)) l
        ∙ ap₂ ◌⊕◌ (bit_of_parameter m p l below) (bit_of_constant m (bit_at row 0) l)))),
  )
    where
      g : Form m
      g = xor m (parameter m p) (constant m (bit_at row 0))

      place : 2 ^ p < 4096
      place = term_room p h

      bits : (l : ℕ) → l < 4096 → bit_at row l ≡ eqb (2 ^ p) l ⊕ (eqb 0 l && bit_at row 0)
      bits zero b =
          let other : eqb (2 ^ p) 0 ≡ false = ne_eqb (2 ^ p) 0 (λ z. omega (arith, pow_pos p)) in
          sym (ap₂ (λ x y. x ⊕ (y && bit_at row 0)) other (eq-eqb 0 0 refl))
      bits (suc l) b =
          only (suc l) (omega arith) b
          ∙ sym (ap (λ y. eqb (2 ^ p) (suc l) ⊕ (y && bit_at row 0)) (ne_eqb 0 (suc l) (λ z. omega arith))
          ∙ ⊕_false (eqb (2 ^ p) (suc l)))

      below : p < m
      below =
          ⊎_elim (λ l. l)
          (λ l.
          absurd
          (false≢true
          (sym (row_bit (2 ^ p) place ∙ bit_of_high m f (2 ^ p) (pow_mono l))
          ∙ only (2 ^ p) (pow_pos p) place ∙ eq-eqb (2 ^ p) (2 ^ p) refl)))
          (less_or_not p m)

  -- a term that is not the empty one
  pub read_open : (k : ℕ) → First row 1 4096 k → Open ≡ which_constant m f
  read_open k next =
      which_open m f
      (λ q.
      false≢true
      (sym (ne_eqb 0 k (λ z. omega (arith, next.low))) ∙ sym (bit_of_true m k) ∙ has_it q))
      (λ q. false≢true (sym (bit_of_false m k) ∙ has_it q))
    where
      has_it : {g : Form m} → f ≡ g → bit_of m g k ≡ true
      has_it q = ap (λ x. bit_of m x k) (sym q) ∙ sym (row_bit k next.high) ∙ next.here

  -- no term but perhaps the empty one
  module _ (others : Free row 1 4096) where
    -- bits that are false from 1 on are the row's
    from_empty : (g : ℕ → Bool) → bit_at row 0 ≡ g 0 → ((l : ℕ) → g (suc l) ≡ false) → (l : ℕ) → l < 4096
        → bit_at row l ≡ g l
    from_empty g q p zero h = q
    from_empty g q p (suc l) h = others (suc l) (omega arith) h ∙ sym (p l)

    -- a constant: true with the empty term, false without
    pub read_constant : (b : Bool) → bit_at row 0 ≡ b → f ≡ constant m b
    read_constant true q =
        pack_inj m f (constant m true) few
        (sym e
        ∙ true_row m row (record {
          words = row_words;
          bits = from_empty (eqb 0) q (λ l. ne_eqb 0 (suc l) (λ z. omega arith));
        }))
    read_constant false q = read_none (from_empty (λ _. false) q (λ _. refl))

    pub read_true : (n : ℕ) → First row 0 1 n → True ≡ which_constant m f
    read_true n first =
        which_true m f
        (read_constant true (ap (bit_at row) (let z : 0 ≡ n = omega (arith, first.high) in z) ∙ first.here))

    pub read_false : Free row 0 1 → False ≡ which_constant m f
    read_false none = which_false m f (read_constant false (none 0 (omega arith) (omega arith)))

-- every row of 64 words is one of a form over 12 parameters or more
pub fits_wide : (m : ℕ) (ws : List ℕ) → length ws ≡ 64 → 12 ≤ m → true ≡ fits m ws
unfolding fits
fits_wide m ws long wide =
    sym (every_all (64 * length ws) (λ k. ltb k (2 ^ m) || not (bit_at ws k))
    (λ k h.
    let enough : 2 ^ 12 ≤ 2 ^ m = pow_mono wide in
    ap (λ b. b || not (bit_at ws k)) (lt-ltb k (2 ^ m) (omega arith))))

-- whether a row fits is whether it has no term from 2 ^ m on
module _ (m : ℕ) (ws : List ℕ) (long : length ws ≡ 64) (few : m ≤ 12) where
  fits_none : Free ws (2 ^ m) 4096 → true ≡ fits m ws
  unfolding fits
  fits_none free =
      sym (every_all (64 * length ws) (λ k. ltb k (2 ^ m) || not (bit_at ws k))
      (λ k h.
      ⊎_elim (λ l. ap (λ b. b || not (bit_at ws k)) (lt-ltb k (2 ^ m) l))
      (λ l. ap (λ b. ltb k (2 ^ m) || not b) (free k l (omega (arith, long))) ∙ or-true (ltb k (2 ^ m)))
      (less_or_not k (2 ^ m))))

  fits_not : (k : ℕ) → First ws (2 ^ m) 4096 k → false ≡ fits m ws
  unfolding fits
  fits_not k next =
      sym (every_not (64 * length ws) (λ i. ltb i (2 ^ m) || not (bit_at ws i)) k (omega (arith, long, next.high))
      (ap₂ (λ a b. a || not b) (le-ltb k (2 ^ m) next.low) next.here))

  pub fits_next : (r : Option ℕ) (o : Bool) → Next ws ((1 * 2 ^ m) % 2 ^ 64) 4096 r → is_some r ≡ not o → o ≡ fits m ws
  fits_next None true next e = fits_none (subst (λ n. Free ws n 4096) (one_shl m (omega arith)) next)
  fits_next None false next e = absurd (false≢true e)
  fits_next (Some k) true next e = absurd (false≢true (sym e))
  fits_next (Some k) false next e = fits_not k (subst (λ n. First ws n 4096 k) (one_shl m (omega arith)) next)

-- the union of the row's terms before k
pub record Naming (row : List ℕ) (named k : ℕ) : Type 0 where
  pub small : named < 4096
  pub place : k ≤ 4096
  pub bits : (j : ℕ) → bit named j ≡ some k (λ i. bit i j && bit_at row i)

-- no place yet
pub naming_first : (row : List ℕ) (k : ℕ) → k ≡ 0 → Naming row 0 k
unfolding fold
naming_first row k z =
    subst (Naming row 0) (sym z) (record { small = omega arith; place = omega arith; bits = λ j. bit_zero j })

-- places with no term name nothing
unnamed : (row : List ℕ) (j k : ℕ) → j ≤ k → Free row j k → (p : ℕ)
    → some k (λ i. bit i p && bit_at row i) ≡ some j (λ i. bit i p && bit_at row i)
unnamed row j k h free p =
    fold_skip ◌||◌ false or-false k (λ i. bit i p && bit_at row i) j h
    (λ i a b. ap (λ y. bit i p && y) (free i a b) ∙ and-false (bit i p))

-- the next term, and the places from `on` on are left
pub naming_more : (row left : List ℕ) (named j k on : ℕ) → left ≡ row → Naming row named j
    → First left j 4096 k × (on ≡ k + 1) → Naming row (bit_or named k) on
unfolding fold
naming_more row left named j k on same sofar gave =
    let next : First row j 4096 k = subst (λ ws. First ws j 4096 k) same gave.0 in
    subst (Naming row (bit_or named k)) (sym gave.1)
    (record {
      small = union_lt named k sofar.small next.high;
      place = omega (arith, next.high);
      bits = λ p.
          bit_or_lem named k p
          ∙ ap₂ ◌||◌ (sofar.bits p ∙ sym (unnamed row j k next.low next.none p))
          (sym (ap (λ b. bit k p && b) next.here ∙ and-true (bit k p)))
          ∙ ap (λ n. some n (λ i. bit i p && bit_at row i)) (sym (add-one k));
    })

-- no term is left: what the form names
pub naming_done : (m : ℕ) (f : Form m) (row left : List ℕ) (named k : ℕ) → m ≤ 12 → row ≡ pack m f → left ≡ row
    → Naming row named k → Free left k 4096 → named ≡ of_bits 12 (names m f)
unfolding names
naming_done m f row left named k few e same all none =
    let free : Free row k 4096 = subst (λ ws. Free ws k 4096) same none in
    same_bits 12 named (of_bits 12 (names m f)) all.small (of_bits_lt 12 (names m f))
    (λ j h.
    all.bits j ∙ sym (unnamed row k 4096 all.place free j) ∙ through j ∙ sym (bit_of_bits 12 (names m f) j h))
  where
    through : (j : ℕ) → some 4096 (λ i. bit i j && bit_at row i) ≡ some (2 ^ m) (λ i. bit i j && has m f (bit i))
    through j =
        fold_skip ◌||◌ false or-false 4096 (λ i. bit i j && bit_at row i) (2 ^ m) (omega (arith, room m few))
        (λ i a b.
        ap (λ y. bit i j && y) (row_bit m f row few e i b ∙ bit_of_high m f i a)
        ∙ and-false (bit i j))
        ∙ fold_cong ◌||◌ false (2 ^ m) (λ i. bit i j && bit_at row i) (λ i. bit i j && has m f (bit i))
        (λ i h. ap (λ y. bit i j && y) (row_bit m f row few e i (omega (arith, room m few)) ∙ bit_of_low m f i h))
