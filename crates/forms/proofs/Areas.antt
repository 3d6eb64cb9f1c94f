-- Laws of the rows of an area, and of rows that are put into one.
-- Assumes nothing.
use mathlib.Core.Path.{◌≡◌, refl, sym, ap, ap₂, ◌∙◌, subst}
use mathlib.Core.Bool.{true, false, ◌&&◌, and-false, cond}
use mathlib.Core.Logic.{◌⊎◌, inl, inr, ⊎_elim}
use mathlib.Core.List.{List, ◌++◌}
use Prim.Native.Nat.{ℕ, suc, ◌+◌, ◌-◌, ◌*◌, ◌/◌, ◌%◌, ◌^◌, ◌≤◌, ◌<◌, min}
use native.Mathlib.Omega.{arith}
use lib.Dec.{leb, ltb, lit<}
use lib.ListN.{length, get_or, replicate, length-replicate, take, drop, get_or-append, get_or-eq_default}
use lib.Seq.{ext_get_or, take-length}
use borrow.Author.Tests.{lt-ltb, le-ltb, le-leb, lt-leb}
use Rattle.std.proofs.lemmas.List.{length-append, length-take-le, length-drop, get_or-take, get_or-drop}
use Rattle.std.proofs.lemmas.List.{get_or-append_right}
use Rattle.ground.specs.Bits.{Words}
use Rattle.ground.proofs.Folds.{less_or_not}
use Rattle.ground.proofs.Tabs.{length_tab, get_d_tab, get_d_tab_out, tab_is, tab_cong}
use Rattle.ground.proofs.Tabs.{parted, length_parted, parted_new, parted_old}
use Rattle.ground.proofs.Numbers.{zero_at}
use Rattle.forms.specs.Area.{row_at, put_rows}

-- the place is not among the count places from base on
abbrev pub Outside : ℕ → ℕ → ℕ → Type 0
Outside base count place = (place < base) ⊎ (base + count ≤ place)

-- the place is among them, or not
among : (base count place : ℕ) → ((base ≤ place) × (place < base + count)) ⊎ Outside base count place
among base count place =
    ⊎_elim (λ l. inr (inl l)) (λ l. ⊎_elim (λ u. inl (l, u)) (λ u. inr (inr u)) (less_or_not place (base + count)))
    (less_or_not place base)

-- word k of the rows g 0, g 1, .. from place base on
abbrev pub word_of : (ℕ → List ℕ) → ℕ → ℕ → ℕ
word_of g base k = get_or (g (k / 64 - base)) (k % 64) 0

-- the test of `put_rows`
tested_in : (base count q : ℕ) → base ≤ q → q < base + count → (leb base q && ltb q (base + count)) ≡ true
tested_in base count q h l = ap₂ ◌&&◌ (le-leb base q h) (lt-ltb q (base + count) l)

tested_out : (base count q : ℕ) → Outside base count q → (leb base q && ltb q (base + count)) ≡ false
tested_out base count q (inl h) = ap (λ b. b && ltb q (base + count)) (lt-leb base q h)
tested_out base count q (inr h) = ap (λ b. leb base q && b) (le-ltb q (base + count) h) ∙ and-false (leb base q)

module _ (ws : List ℕ) (base count : ℕ) (g : ℕ → List ℕ) where
  pub length_put_rows : length (put_rows ws base count g) ≡ length ws
  unfolding put_rows
  length_put_rows = length_tab (length ws) _

  -- word k after the rows are put: of the row that was put there, or what it was
  pub word_put : (k : ℕ) → k < length ws → base ≤ k / 64 → k / 64 < base + count
      → get_or (put_rows ws base count g) k 0 ≡ word_of g base k
  unfolding put_rows
  word_put k h l u =
      get_d_tab (length ws) _ k 0 h
      ∙ ap (λ b. cond b (word_of g base k) (get_or ws k 0)) (tested_in base count (k / 64) l u)

  pub word_kept : (k : ℕ) → Outside base count (k / 64) → get_or (put_rows ws base count g) k 0 ≡ get_or ws k 0
  unfolding put_rows
  word_kept k o =
      ⊎_elim
      (λ h.
      get_d_tab (length ws) _ k 0 h
      ∙ ap (λ b. cond b (word_of g base k) (get_or ws k 0)) (tested_out base count (k / 64) o))
      (λ h. get_d_tab_out (length ws) _ k 0 h ∙ sym (get_or-eq_default ws 0 h))
      (less_or_not k (length ws))

  -- a list of these words is the area with the rows put
  put_rows_is : (r : List ℕ) → length r ≡ length ws
      → ((k : ℕ) → k < length ws → base ≤ k / 64 → k / 64 < base + count → get_or r k 0 ≡ word_of g base k)
      → ((k : ℕ) → Outside base count (k / 64) → get_or r k 0 ≡ get_or ws k 0) → r ≡ put_rows ws base count g
  put_rows_is r e p q =
      ext_get_or 0 r (put_rows ws base count g) (e ∙ sym length_put_rows)
      (λ k h.
      let l : k < length ws = omega arith in
      ⊎_elim (λ i. p k l i.0 i.1 ∙ sym (word_put k l i.0 i.1)) (λ o. q k o ∙ sym (word_kept k o))
      (among base count (k / 64)))

  -- a row that is put, and one that is not
  pub row_put : (j : ℕ) → j < count → 64 * (base + j) + 64 ≤ length ws → length (g j) ≡ 64
      → row_at (put_rows ws base count g) (base + j) ≡ g j
  unfolding row_at
  row_put j h l e =
      sym
      (tab_is 64 _ (g j) 0 e
      (λ i u.
      let k : ℕ = 64 * (base + j) + i in
      let q : k / 64 - base ≡ j = omega arith in
      let r : k % 64 ≡ i = omega arith in
      sym (word_put k (omega arith) (omega arith) (omega arith) ∙ ap₂ (λ x y. get_or (g x) y 0) q r)))

  pub row_kept : (place : ℕ) → Outside base count place → row_at (put_rows ws base count g) place ≡ row_at ws place
  unfolding row_at
  row_kept place o =
      tab_cong 64 _ _
      (λ i h. word_kept (64 * place + i) (⊎_elim (λ l. inl (omega arith)) (λ l. inr (omega arith)) o))

-- words exchanged by the words of rows
parted_rows : (ws new : List ℕ) (from to : ℕ) → from ≤ to → to ≤ length ws → length new ≡ to - from
    → (base count : ℕ) (g : ℕ → List ℕ) → from ≡ min (length ws) (64 * (base + 0))
    → to ≡ min (length ws) (64 * (base + count))
    → ((i : ℕ) → i < to - from → get_or new i 0 ≡ word_of g base (from + i))
    → parted ws new from to ≡ put_rows ws base count g
parted_rows ws new from to low high long base count g f t p =
    put_rows_is ws base count g (parted ws new from to) (length_parted ws new from to low high long)
    (λ k h l u.
    let e : from + (k - from) ≡ k = omega arith in
    parted_new ws new from to low high long k 0 (omega arith) (omega arith) ∙ p (k - from) (omega arith)
    ∙ ap (word_of g base) e)
    (λ k o.
    parted_old ws new from to low high long k 0
    (⊎_elim inl (λ l. inr (⊎_elim (λ h. omega arith) (λ h. omega arith) o)) (less_or_not k from)))

-- the words of one row, and of rows of zeros
module _ (ws new : List ℕ) (from to base : ℕ) where
  pub stored : (row : List ℕ) → length row ≡ 64 → from ≡ min (length ws) (64 * (base + 0))
      → to ≡ min (length ws) (64 * (base + 1)) → new ≡ take (to - from) row
      → take from ws ++ (new ++ drop (to - from) (drop from ws)) ≡ put_rows ws base 1 (λ _. row)
  stored row r f t e =
      parted_rows ws new from to (omega arith) (omega arith)
      (ap length e ∙ length-take-le (to - from) row (omega arith)) base 1 (λ _. row) f t
      (λ i l.
      let q : (from + i) % 64 ≡ i = omega arith in
      ap (λ xs. get_or xs i 0) e ∙ get_or-take (to - from) row i 0 l ∙ ap (λ j. get_or row j 0) (sym q))

  pub cleared : (count : ℕ) → from ≡ min (length ws) (64 * (base + 0)) → to ≡ min (length ws) (64 * (base + count))
      → new ≡ replicate (length (take (to - from) (drop from ws))) 0
      → take from ws ++ (new ++ drop (to - from) (drop from ws)) ≡ put_rows ws base count (λ _. replicate 64 0)
  cleared count f t e =
      let n : ℕ = length (take (to - from) (drop from ws)) in
      parted_rows ws new from to (omega arith) (omega arith)
      (ap length e ∙ length-replicate n 0
      ∙ length-take-le (to - from) (drop from ws) (omega (arith, length-drop from ws)))
      base count (λ _. replicate 64 0) f t
      (λ i l. ap (λ xs. get_or xs i 0) e ∙ zero_at n i ∙ sym (zero_at 64 ((from + i) % 64)))

-- the words of a row in front of zeros
loaded_rest : (ws new : List ℕ) (from n place : ℕ) → from ≡ min (length ws) (64 * place)
    → n ≡ min (length (drop from ws)) 64 → new ≡ take n (drop from ws)
    → new ++ drop n (replicate 64 0) ≡ row_at ws place
unfolding row_at
loaded_rest ws new from n place f t e =
    tab_is 64 (λ i. get_or ws (64 * place + i) 0) (new ++ drop n (replicate 64 0)) 0
    (omega (
      arith,
      long,
      length-append new (drop n (replicate 64 0)),
      length-drop {A = ℕ} n (replicate 64 0),
      length-replicate {A = ℕ} 64 0,
    ))
    (λ i h. ⊎_elim (here i) (past i h) (less_or_not i n))
  where
    long : length new ≡ n
    long = ap length e ∙ length-take-le n (drop from ws) (omega arith)

    here : (i : ℕ) → i < n → get_or (new ++ drop n (replicate 64 0)) i 0 ≡ get_or ws (64 * place + i) 0
    here i h =
        let q : from + i ≡ 64 * place + i = omega (arith, length-drop from ws) in
        get_or-append new (drop n (replicate 64 0)) 0 i (omega (arith, long))
        ∙ ap (λ xs. get_or xs i 0) e ∙ get_or-take n (drop from ws) i 0 h
        ∙ get_or-drop from ws i 0 ∙ ap (λ j. get_or ws j 0) q

    past : (i : ℕ) → i < 64 → n ≤ i → get_or (new ++ drop n (replicate 64 0)) i 0 ≡ get_or ws (64 * place + i) 0
    past i l h =
        get_or-append_right new (drop n (replicate 64 0)) n i 0 long h
        ∙ get_or-drop n (replicate 64 0) (i - n) 0 ∙ zero_at 64 (n + (i - n))
        ∙ sym (get_or-eq_default ws 0 (omega (arith, length-drop from ws)))

pub loaded : (ws new : List ℕ) (from n place : ℕ) → from ≡ min (length ws) (64 * place)
    → n ≡ min (length (take (length ws - from) (drop from ws))) 64
    → new ≡ take n (take (length ws - from) (drop from ws)) → new ++ drop n (replicate 64 0) ≡ row_at ws place
loaded ws new from n place f t e =
    let all : take (length ws - from) (drop from ws) ≡ drop from ws
    = ap (λ k. take k (drop from ws)) (sym (length-drop from ws)) ∙ take-length (drop from ws) in
    loaded_rest ws new from n place f (t ∙ ap (λ xs. min (length xs) 64) all) (e ∙ ap (take n) all)

-- no row, one row more, the same rows
pub put_rows_none : (ws : List ℕ) (base : ℕ) (g : ℕ → List ℕ) → put_rows ws base 0 g ≡ ws
put_rows_none ws base g =
    sym (put_rows_is ws base 0 g ws refl (λ k h l u. let z : ⊥ = omega arith in absurd z) (λ k o. refl))

pub put_rows_more : (ws : List ℕ) (base count : ℕ) (g : ℕ → List ℕ)
    → put_rows (put_rows ws base count g) (base + count) 1 (λ _. g count) ≡ put_rows ws base (suc count) g
put_rows_more ws base count g =
    put_rows_is ws base (suc count) g (put_rows first (base + count) 1 last)
    (length_put_rows first (base + count) 1 last ∙ long)
    (λ k h l u. ⊎_elim (before k h l) (at k h u) (less_or_not (k / 64) (base + count)))
    (λ k o.
    word_kept first (base + count) 1 last k (⊎_elim (λ l. inl (omega arith)) (λ l. inr (omega arith)) o)
    ∙ word_kept ws base count g k (⊎_elim (λ l. inl l) (λ l. inr (omega arith)) o))
  where
    first : List ℕ
    first = put_rows ws base count g

    last : ℕ → List ℕ
    last _ = g count

    long : length first ≡ length ws
    long = length_put_rows ws base count g

    before : (k : ℕ) → k < length ws → base ≤ k / 64 → k / 64 < base + count
        → get_or (put_rows first (base + count) 1 last) k 0 ≡ word_of g base k
    before k h l u = word_kept first (base + count) 1 last k (inl u) ∙ word_put ws base count g k h l u

    at : (k : ℕ) → k < length ws → k / 64 < base + suc count → base + count ≤ k / 64
        → get_or (put_rows first (base + count) 1 last) k 0 ≡ word_of g base k
    at k h u l =
        let q : count ≡ k / 64 - base = omega arith in
        word_put first (base + count) 1 last k (omega (arith, long)) l (omega arith)
        ∙ ap (λ j. get_or (g j) (k % 64) 0) q

pub put_rows_cong : (ws : List ℕ) (base count : ℕ) (g h : ℕ → List ℕ) → ((j : ℕ) → j < count → g j ≡ h j)
    → put_rows ws base count g ≡ put_rows ws base count h
put_rows_cong ws base count g h p =
    put_rows_is ws base count h (put_rows ws base count g) (length_put_rows ws base count g)
    (λ k l a b. word_put ws base count g k l a b ∙ ap (λ r. get_or r (k % 64) 0) (p (k / 64 - base) (omega arith)))
    (word_kept ws base count g)

-- a row has 64 words
pub length_row_at : (ws : List ℕ) (place : ℕ) → length (row_at ws place) ≡ 64
unfolding row_at
length_row_at ws place = length_tab 64 _

-- word i of a row
pub row_at_lem : (ws : List ℕ) (place i : ℕ) → i < 64 → get_or (row_at ws place) i 0 ≡ get_or ws (64 * place + i) 0
unfolding row_at
row_at_lem ws place i h = get_d_tab 64 _ i 0 h

-- an area of n rows is its rows
pub rows_same : (n : ℕ) (a b : List ℕ) → length a ≡ 64 * n → length b ≡ 64 * n
    → ((place : ℕ) → place < n → row_at a place ≡ row_at b place) → a ≡ b
rows_same n a b la lb p =
    ext_get_or 0 a b (la ∙ sym lb)
    (λ k h.
    let e : 64 * (k / 64) + k % 64 ≡ k = omega arith in
    let l : k % 64 < 64 = omega arith in
    ap (λ x. get_or a x 0) (sym e) ∙ sym (row_at_lem a (k / 64) (k % 64) l)
    ∙ ap (λ r. get_or r (k % 64) 0) (p (k / 64) (omega arith))
    ∙ row_at_lem b (k / 64) (k % 64) l ∙ ap (λ x. get_or b x 0) e)

-- a row of an area of words
pub row_words : (ws : List ℕ) (place : ℕ) → ((i : ℕ) → get_or ws i 0 < 2 ^ 64) → Words 64 (row_at ws place)
unfolding row_at
row_words ws place p =
    record {
      long = length_row_at ws place;
      small =
          λ i.
          ⊎_elim (λ h. subst (λ x. x < 2 ^ 64) (sym (row_at_lem ws place i h)) (p (64 * place + i)))
          (λ h. subst (λ x. x < 2 ^ 64) (sym (get_d_tab_out 64 _ i 0 h)) (lit< tt)) (less_or_not i 64);
    }

-- a row past the area's end is zeros
pub row_past : (ws : List ℕ) (place : ℕ) → length ws ≤ 64 * place → row_at ws place ≡ replicate 64 0
row_past ws place h =
    ext_get_or 0 (row_at ws place) (replicate 64 0) (length_row_at ws place)
    (λ i l.
    row_at_lem ws place i (subst (λ n. i < n) (length_row_at ws place) l)
    ∙ get_or-eq_default ws 0 (let e : length ws ≤ 64 * place + i = omega arith in e)
    ∙ sym (zero_at 64 i))
