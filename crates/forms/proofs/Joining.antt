-- Joining two rows term against term, bit by bit.
-- Assumes nothing.
use mathlib.Core.Path.{◌≡◌, refl, sym, ap, ap₂, ◌∙◌, subst}
use mathlib.Core.Bool.{Bool, true, false, ◌&&◌, and_comm, and_assoc}
use mathlib.Core.List.{List}
use Prim.Native.Nat.{ℕ, ◌+◌, ◌*◌, ◌/◌, ◌%◌, ◌^◌, ◌≤◌, ◌<◌}
use native.Mathlib.Numerals.{add-one}
use native.Mathlib.Omega.{arith}
use lib.ListN.{get_or, set, length-set}
use lib.Seq.{get_or-set_same, get_or-set_other}
use lib.Bits.{bit_xor, bit_or, or_lt, xor_lt}
use lib.Pow.{pow-lt}
use lib.Dec.{eqb}
use borrow.Author.Tests.{eq-eqb, ne_eqb, eqb-true, eqb-false}
use Rattle.ground.specs.Fold.{◌⊕◌, fold, parity}
use Rattle.ground.specs.Bits.{bit, bit_at, Words}
use Rattle.ground.proofs.Xor.{⊕_false, ⊕_assoc}
use Rattle.ground.proofs.Folds.{fold_skip, parity_and, parity_cong}
use Rattle.ground.proofs.Bits.{bit_xor_lem, bit_pow, one_shl}
use Rattle.forms.specs.Form.{Form, and}
use Rattle.forms.specs.Words.{bit_of, pack}
use Rattle.forms.specs.Document.{conjunct}
use Rattle.forms.specs.inside.Steps.{Free, First}
use Rattle.forms.proofs.Document.{bit_of_high, and_document}
use Rattle.forms.proofs.Packing.{room, bit_pack, pack_is}

-- the code's store: bit k of a row turned over
abbrev pub flip : List ℕ → ℕ → List ℕ
flip ws k = set ws (k / 64) (bit_xor (get_or ws (k / 64) 0) ((1 * 2 ^ (k % 64)) % 2 ^ 64))

pub flip_words : (ws : List ℕ) (k : ℕ) → k < 4096 → Words 64 ws → Words 64 (flip ws k)
flip_words ws k h w = record {
  long = length-set ws (k / 64) v ∙ w.long;
  small = λ i. go i (eqb i (k / 64)) refl;
}
  where
    v : ℕ
    v = bit_xor (get_or ws (k / 64) 0) ((1 * 2 ^ (k % 64)) % 2 ^ 64)

    small : bit_xor (get_or ws (k / 64) 0) ((1 * 2 ^ (k % 64)) % 2 ^ 64) < 2 ^ 64
    small =
        xor_lt 64 (get_or ws (k / 64) 0) ((1 * 2 ^ (k % 64)) % 2 ^ 64) (w.small (k / 64))
        (subst (λ x. x < 2 ^ 64) (sym (one_shl (k % 64) (omega arith))) (pow-lt {i = k % 64} {j = 64} (omega arith)))

    go : (i : ℕ) (b : Bool) → eqb i (k / 64) ≡ b → get_or (flip ws k) i 0 < 2 ^ 64
    go i true e =
        let q : i ≡ k / 64 = eqb-true i (k / 64) e in
        subst (λ x. get_or (flip ws k) x 0 < 2 ^ 64) (sym q)
        (subst (λ x. x < 2 ^ 64) (sym (get_or-set_same ws (k / 64) v 0 (omega (arith, w.long)))) small)
    go i false e =
        subst (λ x. x < 2 ^ 64) (sym (get_or-set_other ws (k / 64) i v 0 (eqb-false i (k / 64) e))) (w.small i)

pub flip_bit : (ws : List ℕ) (k l : ℕ) → k < 4096 → Words 64 ws → bit_at (flip ws k) l ≡ bit_at ws l ⊕ eqb k l
unfolding bit_at
flip_bit ws k l h w = go (eqb (l / 64) (k / 64)) refl
  where
    v : ℕ
    v = bit_xor (get_or ws (k / 64) 0) ((1 * 2 ^ (k % 64)) % 2 ^ 64)

    same : l / 64 ≡ k / 64 → (b : Bool) → eqb k l ≡ b → eqb (k % 64) (l % 64) ≡ b
    same q true e = eq-eqb (k % 64) (l % 64) (ap (λ x. x % 64) (eqb-true k l e))
    same q false e = ne_eqb (k % 64) (l % 64) (λ z. eqb-false k l e (omega arith))

    go : (b : Bool) → eqb (l / 64) (k / 64) ≡ b
        → bit (get_or (flip ws k) (l / 64) 0) (l % 64) ≡ bit (get_or ws (l / 64) 0) (l % 64) ⊕ eqb k l
    go true e =
        let q : l / 64 ≡ k / 64 = eqb-true (l / 64) (k / 64) e in
        ap (λ x. bit (get_or (flip ws k) x 0) (l % 64)) q
        ∙ ap (λ x. bit x (l % 64)) (get_or-set_same ws (k / 64) v 0 (omega (arith, w.long)))
        ∙ bit_xor_lem (get_or ws (k / 64) 0) ((1 * 2 ^ (k % 64)) % 2 ^ 64) (l % 64)
        ∙ ap₂ ◌⊕◌ (ap (λ x. bit (get_or ws x 0) (l % 64)) (sym q))
        (ap (λ x. bit x (l % 64)) (one_shl (k % 64) (omega arith)) ∙ bit_pow (k % 64) (l % 64)
        ∙ same q (eqb k l) refl)
    go false e =
        let n : l / 64 ≡ k / 64 → ⊥ = eqb-false (l / 64) (k / 64) e in
        ap (λ x. bit x (l % 64)) (get_or-set_other ws (k / 64) (l / 64) v 0 n)
        ∙ sym (ap (λ x. bit (get_or ws (l / 64) 0) (l % 64) ⊕ x) (ne_eqb k l (λ z. n (ap (λ x. x / 64) (sym z))))
        ∙ ⊕_false (bit (get_or ws (l / 64) 0) (l % 64)))

-- what the terms of a row before j add to the bits `old`: term x turns over the bits l with h x l
pub record Adding (row : List ℕ) (old : ℕ → Bool) (h : ℕ → ℕ → Bool) (r : List ℕ) (j : ℕ) : Type 0 where
  pub words : Words 64 r
  pub place : j ≤ 4096
  pub bits : (l : ℕ) → l < 4096 → bit_at r l ≡ old l ⊕ parity j (λ x. bit_at row x && h x l)

module _ (row : List ℕ) (old : ℕ → Bool) (h : ℕ → ℕ → Bool) where
  -- before the first place there is nothing to add
  pub adding_first : (r : List ℕ) (j : ℕ) → j ≡ 0 → Words 64 r → ((l : ℕ) → l < 4096 → bit_at r l ≡ old l)
      → Adding row old h r j
  unfolding fold
  adding_first r j z w e =
      subst (Adding row old h r) (sym z)
      (record { words = w; place = omega arith; bits = λ l k. e l k ∙ sym (⊕_false (old l)) })

  -- places with no term add nothing
  passed : (j k : ℕ) → j ≤ k → Free row j k → (l : ℕ)
      → parity k (λ x. bit_at row x && h x l) ≡ parity j (λ x. bit_at row x && h x l)
  passed j k u free l =
      fold_skip ◌⊕◌ false ⊕_false k (λ x. bit_at row x && h x l) j u (λ i a b. ap (λ y. y && h i l) (free i a b))

  -- the next term is added, and the places from `on` on are left
  pub adding_more : (r r' left : List ℕ) (j k on : ℕ) → left ≡ row → Adding row old h r j
      → First left j 4096 k × (on ≡ k + 1) → Words 64 r'
      → ((l : ℕ) → l < 4096 → bit_at r' l ≡ bit_at r l ⊕ h k l) → Adding row old h r' on
  unfolding fold
  adding_more r r' left j k on same sofar gave w e =
      let next : First row j 4096 k = subst (λ ws. First ws j 4096 k) same gave.0 in
      subst (Adding row old h r') (sym gave.1)
      (record {
        words = w;
        place = omega (arith, next.high);
        bits = λ l u.
            e l u ∙ ap (λ b. b ⊕ h k l) (sofar.bits l u)
            ∙ ⊕_assoc (old l) (parity j (λ x. bit_at row x && h x l)) (h k l)
            ∙ ap (λ b. old l ⊕ b)
            (ap₂ ◌⊕◌ (sym (passed j k next.low next.none l)) (sym (ap (λ b. b && h k l) next.here))
            ∙ ap (λ n. parity n (λ x. bit_at row x && h x l)) (sym (add-one k)));
      })

  -- no term is left
  pub adding_done : (r left : List ℕ) (j : ℕ) → left ≡ row → Adding row old h r j → Free left j 4096
      → (l : ℕ) → l < 4096 → bit_at r l ≡ old l ⊕ parity 4096 (λ x. bit_at row x && h x l)
  adding_done r left j same sofar free l k =
      sofar.bits l k
      ∙ ap (λ b. old l ⊕ b) (sym (passed j 4096 sofar.place (subst (λ ws. Free ws j 4096) same free) l))

-- the union of two terms is a term
pub union_lt : (i j : ℕ) → i < 4096 → j < 4096 → bit_or i j < 4096
union_lt i j h k = or_lt 12 i j h k

-- term against term is document 000's conjunction
module _ (m : ℕ) (f g : Form m) (a b : List ℕ) (few : m ≤ 12) (ea : a ≡ pack m f) (eb : b ≡ pack m g) where
  -- the terms from 2 ^ m on are absent
  short : (h : Form m) (x : ℕ → Bool)
      → parity 4096 (λ i. bit_of m h i && x i) ≡ parity (2 ^ m) (λ i. bit_of m h i && x i)
  short h x =
      fold_skip ◌⊕◌ false ⊕_false 4096 (λ i. bit_of m h i && x i) (2 ^ m) (room m few)
      (λ i l k. ap (λ y. y && x i) (bit_of_high m h i l))

  row_bits : (h : Form m) (ws : List ℕ) → ws ≡ pack m h → (x : ℕ → Bool)
      → parity 4096 (λ i. bit_at ws i && x i) ≡ parity (2 ^ m) (λ i. bit_of m h i && x i)
  row_bits h ws e x =
      parity_cong 4096 (λ i. bit_at ws i && x i) (λ i. bit_of m h i && x i)
      (λ i l. ap (λ y. y && x i) (ap (λ y. bit_at y i) e ∙ bit_pack m h i l))
      ∙ short h x

  joined_conjunct : (l : ℕ)
      → parity 4096 (λ i. bit_at a i && parity 4096 (λ j. bit_at b j && eqb (bit_or i j) l)) ≡ conjunct m f g l
  unfolding conjunct
  joined_conjunct l =
      row_bits f a ea (λ i. parity 4096 (λ j. bit_at b j && eqb (bit_or i j) l))
      ∙ parity_cong (2 ^ m) _ (λ i. parity (2 ^ m) (λ j. eqb (bit_or i j) l && (bit_of m f i && bit_of m g j)))
      (λ i h.
      ap (λ y. bit_of m f i && y) (row_bits g b eb (λ j. eqb (bit_or i j) l))
      ∙ parity_and (bit_of m f i) (2 ^ m) (λ j. bit_of m g j && eqb (bit_or i j) l)
      ∙ parity_cong (2 ^ m) _ _
      (λ j k.
      sym (and_assoc (bit_of m f i) (bit_of m g j) (eqb (bit_or i j) l))
      ∙ and_comm (bit_of m f i && bit_of m g j) (eqb (bit_or i j) l)))

  pub joined_and : (r : List ℕ) → Words 64 r
      → ((l : ℕ) → l < 4096 → bit_at r l
      ≡ parity 4096 (λ i. bit_at a i && parity 4096 (λ j. bit_at b j && eqb (bit_or i j) l)))
      → r ≡ pack m (and m f g)
  joined_and r w e = pack_is m (and m f g) r w (λ l h. e l h ∙ joined_conjunct l ∙ sym (and_document m f g l))
