-- The pass of a parameter, on the words of a row and on its bits.
-- Assumes nothing.
use mathlib.Core.Path.{◌≡◌, refl, sym, ap, ap₂, ◌∙◌, subst}
use mathlib.Core.Bool.{Bool, true, false, ◌&&◌, beq, and_assoc, and_comm, false≢true}
use mathlib.Core.Logic.{⊎_elim}
use mathlib.Core.List.{List}
use Prim.Native.Nat.{ℕ, ◌+◌, ◌-◌, ◌*◌, ◌/◌, ◌%◌, ◌^◌, ◌≤◌, ◌<◌}
use native.Mathlib.Nat.{div-eq_of_lt}
use native.Mathlib.Numerals.{add-one}
use native.Mathlib.Omega.{arith}
use lib.ListN.{length, get_or}
use lib.Bits.{bit_xor, bit_and}
use lib.Dec.{leb}
use lib.Pow.{pow-add}
use borrow.Author.Tests.{eq-eqb, ne_eqb}
use Rattle.ground.specs.Fold.{◌⊕◌, fold, every}
use Rattle.ground.specs.Bits.{bit, bit_at}
use Rattle.ground.proofs.Xor.{⊕_false}
use Rattle.ground.proofs.Folds.{less_or_not, every_at}
use Rattle.ground.proofs.Bits.{bit_xor_lem, bit_and_lem, bit_shr, bit_shl, bit_low, bit_le, bit_true, bit_false}
use Rattle.ground.proofs.Bits.{one_shl}
use Rattle.ground.proofs.Numbers.{bit_minus, words_of_lem}
use Rattle.forms.specs.Form.{Form, constant, has, truth}
use Rattle.forms.specs.Words.{most, pack}
use Rattle.forms.specs.inside.Steps.{Free, masks, passed_bit, PassedWord, Passed}
use Rattle.forms.proofs.Document.{bit_of_low}
use Rattle.forms.proofs.Truths.{pass, passes, has_pass, passes_truth, truth_false}
use Rattle.forms.proofs.Packing.{bit_pack, pack_is, most_is, most_few, most_wide}
use Rattle.forms.proofs.Reading.{read_none}

-- the masks' rule, computed at each parameter and each bit
mask_right : ℕ → ℕ → Bool
mask_right p t = beq (leb (2 ^ p) t && bit (get_or masks p 0) (t - 2 ^ p)) (bit t p)

masks_right : every 6 (λ p. every 64 (mask_right p)) ≡ true
unfolding fold mask_right bit
masks_right = refl

beq_same : (a b : Bool) → beq a b ≡ true → a ≡ b
beq_same true true e = refl
beq_same true false e = absurd (false≢true e)
beq_same false true e = absurd (false≢true e)
beq_same false false e = refl

mask_bit : (p t : ℕ) → p < 6 → t < 64 → (leb (2 ^ p) t && bit (get_or masks p 0) (t - 2 ^ p)) ≡ bit t p
unfolding mask_right
mask_bit p t h k =
    beq_same _ _ (every_at 64 (mask_right p) (every_at 6 (λ p. every 64 (mask_right p)) masks_right p h) t k)

-- place t of word i
bit_at_word : (row : List ℕ) (i t : ℕ) → t < 64 → bit_at row (64 * i + t) ≡ bit (get_or row i 0) t
unfolding bit_at
bit_at_word row i t h =
    let word : (64 * i + t) / 64 ≡ i = omega arith in
    let place : (64 * i + t) % 64 ≡ t = omega arith in
    ap₂ (λ x y. bit (get_or row x 0) y) word place

-- what is added where a bit is set may be named by it
guarded : (a x y : Bool) → (a ≡ true → x ≡ y) → (a && x) ≡ (a && y)
guarded true x y h = h refl
guarded false x y h = refl

-- parameters inside a word
pub pass_inside : (row : List ℕ) (p i : ℕ) → p < 6
    → PassedWord row p i
    (bit_xor (get_or row i 0) ((bit_and (get_or row i 0) (get_or masks p 0) * 2 ^ ((1 * 2 ^ p) % 2 ^ 64)) % 2 ^ 64))
unfolding passed_bit
pass_inside row p i h t k =
    let w : ℕ = get_or row i 0 in
    let s : ℕ = 2 ^ p in
    let y : ℕ = bit_and w (get_or masks p 0) in
    bit_xor_lem w ((y * 2 ^ ((1 * 2 ^ p) % 2 ^ 64)) % 2 ^ 64) t
    ∙ ap₂ ◌⊕◌ (sym (bit_at_word row i t k))
    (ap (λ x. bit ((y * 2 ^ x) % 2 ^ 64) t) (one_shl p (omega arith))
    ∙ bit_low (y * 2 ^ s) 64 t k ∙ bit_shl y s t
    ∙ ap (λ b. leb s t && b) (bit_and_lem w (get_or masks p 0) (t - s))
    ∙ turn (leb s t) (bit w (t - s)) (bit (get_or masks p 0) (t - s))
    ∙ ap (λ b. b && bit w (t - s)) (mask_bit p t h k ∙ low)
    ∙ guarded (bit (64 * i + t) p) (bit w (t - s)) (bit_at row (64 * i + t - s))
    (λ e.
    let l : s ≤ t = bit_le t p (low ∙ e) in
    sym (ap (bit_at row) (let q : 64 * i + t - s ≡ 64 * i + (t - s) = omega arith in q)
    ∙ bit_at_word row i (t - s) (omega arith))))
  where
    turn : (a b c : Bool) → (a && (b && c)) ≡ (a && c && b)
    turn a b c = ap (λ x. a && x) (and_comm b c) ∙ sym (and_assoc a c b)

    low : bit t p ≡ bit (64 * i + t) p
    low = ap (λ x. bit x p) (let e : t ≡ (64 * i + t) % 64 = omega arith in e) ∙ bit_low (64 * i + t) 6 p h

-- where a quotient is odd, the divisor is no more than the number
pub odd_le : (i by : ℕ) → i / by % 2 ≡ 1 → by ≤ i
odd_le i by e =
    ⊎_elim (λ l. let z : i / by ≡ 0 = div-eq_of_lt l in let y : ⊥ = omega arith in absurd y) (λ l. l)
    (less_or_not i by)

-- parameters across words
across_bit : (i t p : ℕ) → 6 ≤ p → t < 64 → bit (64 * i + t) p ≡ bit i (p - 6)
across_bit i t p h k =
    ap (bit (64 * i + t)) (let e : p ≡ 6 + (p - 6) = omega arith in e) ∙ sym (bit_shr (64 * i + t) 6 (p - 6))
    ∙ ap (λ x. bit x (p - 6)) (let e : (64 * i + t) / 64 ≡ i = omega arith in e)

pub pass_across : (row : List ℕ) (p i by : ℕ) → 6 ≤ p → by ≡ 2 ^ (p - 6) → i / by % 2 ≡ 1
    → PassedWord row p i (bit_xor (get_or row i 0) (get_or row (i - by) 0))
unfolding passed_bit
pass_across row p i by h step e t k =
    let set : bit i (p - 6) ≡ true = bit_true i (p - 6) (ap (λ x. i / x % 2) (sym step) ∙ e) in
    let l : by ≤ i = odd_le i by e in
    let whole : 2 ^ p ≡ 64 * by
    = ap (λ x. 2 ^ x) (let q : p ≡ 6 + (p - 6) = omega arith in q) ∙ pow-add 2 6 (p - 6)
    ∙ ap (λ x. 64 * x) (sym step) in
    bit_xor_lem (get_or row i 0) (get_or row (i - by) 0) t
    ∙ ap₂ ◌⊕◌ (sym (bit_at_word row i t k))
    (sym (ap₂ ◌&&◌ (across_bit i t p h k ∙ set)
    (ap (bit_at row) (let q : 64 * i + t - 2 ^ p ≡ 64 * (i - by) + t = omega (arith, whole, l) in q)
    ∙ bit_at_word row (i - by) t k)))

pub pass_kept : (row : List ℕ) (p i by : ℕ) → 6 ≤ p → by ≡ 2 ^ (p - 6) → (i / by % 2 ≡ 1 → ⊥)
    → PassedWord row p i (get_or row i 0)
unfolding passed_bit
pass_kept row p i by h step e t k =
    sym (ap₂ (λ x b. x ⊕ (b && bit_at row (64 * i + t - 2 ^ p))) (bit_at_word row i t k)
    (across_bit i t p h k ∙ bit_false i (p - 6) (λ q. e (ap (λ x. i / x % 2) step ∙ q)))
    ∙ ⊕_false (bit (get_or row i 0) t))

-- word by word, the row
pub passed_row : (row r : List ℕ) (p : ℕ) → length r ≡ 64
    → ((i : ℕ) → i < 64 → (get_or r i 0 < 2 ^ 64) × PassedWord row p i (get_or r i 0)) → Passed row p r
passed_row row r p l h = record {
  words = words_of_lem 64 r l (λ i n. (h i n).0);
  bits = λ k n.
      bits_of k n
      ∙ (h (k / 64) (omega arith)).1 (k % 64) (omega arith)
      ∙ ap (passed_bit row p) (let e : 64 * (k / 64) + k % 64 ≡ k = omega arith in e);
}
  where
    bits_of : (k : ℕ) → k < 4096 → bit_at r k ≡ bit (get_or r (k / 64) 0) (k % 64)
    bits_of k n =
        ap (bit_at r) (let e : k ≡ 64 * (k / 64) + k % 64 = omega arith in e)
        ∙ bit_at_word r (k / 64) (k % 64) (omega arith)

-- a pass on a row is the pass on its form, where the form has all 4096 bits
pub passed_form : (m : ℕ) (f : Form m) (row r : List ℕ) (p : ℕ) → 4096 ≤ 2 ^ m → p < m → row ≡ pack m f
    → Passed row p r → r ≡ pack m (pass m p f)
unfolding passed_bit
passed_form m f row r p wide h e made =
    pack_is m (pass m p f) r made.words
    (λ k l.
    made.bits k l ∙ ap₂ ◌⊕◌ (term k l) (guarded (bit k p) _ _ (λ s. term (k - 2 ^ p) (omega arith)))
    ∙ go k (bit k p) refl ∙ sym (bit_of_low m (pass m p f) k (omega arith)))
  where
    term : (k : ℕ) → k < 4096 → bit_at row k ≡ has m f (bit k)
    term k l = ap (λ x. bit_at x k) e ∙ bit_pack m f k l ∙ bit_of_low m f k (omega arith)

    go : (k : ℕ) (b : Bool) → bit k p ≡ b
        → has m f (bit k) ⊕ (bit k p && has m f (bit (k - 2 ^ p))) ≡ has m (pass m p f) (bit k)
    go k true s =
        sym (has_pass m p f (bit k) (bit (k - 2 ^ p)) h
        (λ j n. bit_minus k p j s ∙ ap (λ b. b ⊕ bit k j) (ne_eqb p j (λ q. n (sym q))))
        (bit_minus k p p s ∙ ap₂ ◌⊕◌ (eq-eqb p p refl) s))
    go k false s =
        ap (λ b. has m f (bit k) ⊕ (b && has m f (bit (k - 2 ^ p)))) s
        ∙ sym (ap (λ b. has m f (bit k) ⊕ (b && has m f (bit k))) s)
        ∙ sym (has_pass m p f (bit k) (bit k) h (λ j n. refl) s)

-- one pass more, at all 4096 bits
pub truth_more : (f : Form most) (row r : List ℕ) (p : ℕ) → p < 12 → row ≡ pack most (passes most p f)
    → Passed row p r → r ≡ pack most (passes most (p + 1) f)
unfolding passes
truth_more f row r p h e made =
    passed_form most (passes most p f) row r p most_wide (subst (λ m. p < m) (sym most_is) h) e made
    ∙ ap (λ k. pack most (passes most k f)) (sym (add-one p))

pub truth_done : (f : Form most) (r : List ℕ) (p : ℕ) → p ≤ 12 → 12 ≤ p → r ≡ pack most (passes most p f)
    → r ≡ pack most (truth most f)
truth_done f r p h l e =
    e ∙ ap (pack most)
    (ap (λ k. passes most k f) (let q : p ≡ 12 = omega arith in q ∙ sym most_is) ∙ passes_truth most f)

-- the truth values of a row with no term
pub truth_none : (row : List ℕ) → Free row 0 4096 → (f : Form most) → row ≡ pack most f
    → row ≡ pack most (truth most f)
truth_none row free f e =
    let none : f ≡ constant most false = read_none most f row most_few e (λ l h. free l (omega arith) h) in
    e ∙ ap (pack most) (none ∙ sym (ap (truth most) none ∙ truth_false most))
