-- Putting rows in by truth values.
-- Assumes nothing.
use mathlib.Core.Path.{◌≡◌, sym, ap, ap₂, ◌∙◌, subst}
use mathlib.Core.Bool.{true, false, ◌&&◌}
use mathlib.Core.List.{List}
use Prim.Native.Nat.{ℕ, suc, ◌+◌, ◌-◌, ◌*◌, ◌/◌, ◌%◌, ◌^◌, ◌≤◌, ◌<◌}
use native.Mathlib.Nat.{lt_of_le_of_lt, two-pow-succ}
use native.Mathlib.Omega.{arith}
use lib.Bits.{bit_xor, bit_and, xor_lt, and_le_r}
use lib.ListN.{length, get_or, replicate, length-replicate, get_or-replicate}
use lib.Pow.{ones_lt}
use Rattle.ground.specs.Fold.{◌⊕◌}
use Rattle.ground.specs.Bits.{bit, bit_at}
use Rattle.ground.proofs.Bits.{bit_xor_lem, bit_and_lem}
use Rattle.ground.proofs.Numbers.{words_of_lem, bit_ones}
use Rattle.forms.specs.Form.{constant, xor, put_in, truth, each}
use Rattle.forms.specs.Words.{most, pack, of_terms}
use Rattle.forms.specs.Area.{row_at}
use Rattle.forms.specs.inside.Steps.{Mixed, PutTerms}
use Rattle.forms.proofs.Areas.{row_at_lem}
use Rattle.forms.proofs.Values.{value_constant}
use Rattle.forms.proofs.Terms.{has_false, has_of_terms, terms_same}
use Rattle.forms.proofs.Depends.{put_in_constant}
use Rattle.forms.proofs.Document.{bit_of_low}
use Rattle.forms.proofs.Truths.{has_truth, truth_false, truth_step}
use Rattle.forms.proofs.Packing.{bit_of_xor, bit_of_each, word_lt, word_bit}
use Rattle.forms.proofs.Packing.{pack_by, pack_is, pack_false, most_wide}

-- a xor (p and b), word by word
mixed : (a p b r : List ℕ) → length r ≡ 64
    → ((i : ℕ) → i < 64 → get_or r i 0 ≡ bit_xor (get_or a i 0) (bit_and (get_or p i 0) (get_or b i 0))) → Mixed a p b r
mixed a p b r l e m f g h ea ep eb =
    pack_by m (xor m f (each m g h)) r l
    (λ i n.
    subst (λ x. x < 2 ^ 64) (sym (e i n))
    (xor_lt 64 (get_or a i 0) (bit_and (get_or p i 0) (get_or b i 0)) (word_lt m f a i ea)
    (lt_of_le_of_lt (and_le_r (get_or p i 0) (get_or b i 0)) (word_lt m h b i eb))))
    (λ i t n k.
    ap (λ x. bit x t) (e i n) ∙ bit_xor_lem (get_or a i 0) (bit_and (get_or p i 0) (get_or b i 0)) t
    ∙ ap₂ ◌⊕◌ (word_bit m f a i t ea n k)
    (bit_and_lem (get_or p i 0) (get_or b i 0) t ∙ ap₂ ◌&&◌ (word_bit m g p i t ep n k) (word_bit m h b i t eb n k)
    ∙ sym (bit_of_each m g h (64 * i + t)))
    ∙ sym (bit_of_xor m f (each m g h) (64 * i + t)))

-- the same, with p a row of an area
pub mixed_at : (a ws : List ℕ) (q : ℕ) (b r : List ℕ) → length r ≡ 64
    → ((i : ℕ) → i < 64 → get_or r i 0 ≡ bit_xor (get_or a i 0) (bit_and (get_or ws (64 * q + i) 0) (get_or b i 0)))
    → Mixed a (row_at ws q) b r
mixed_at a ws q b r l e =
    mixed a (row_at ws q) b r l
    (λ i n. e i n ∙ ap (λ x. bit_xor (get_or a i 0) (bit_and x (get_or b i 0))) (sym (row_at_lem ws q i n)))

-- the truth values of true are all ones, where a form has all 4096 bits
ones_row : (m : ℕ) → 4096 ≤ 2 ^ m → replicate 64 (2 ^ 64 - 1) ≡ pack m (truth m (constant m true))
unfolding bit_at
ones_row m wide =
    pack_is m (truth m (constant m true)) (replicate 64 (2 ^ 64 - 1))
    (words_of_lem 64 (replicate 64 (2 ^ 64 - 1)) (length-replicate 64 (2 ^ 64 - 1))
    (λ i h. subst (λ x. x < 2 ^ 64) (sym (get_or-replicate 64 i (2 ^ 64 - 1) 0 h)) (ones_lt 64)))
    (λ k h.
    ap (λ x. bit x (k % 64)) (get_or-replicate 64 (k / 64) (2 ^ 64 - 1) 0 (omega arith))
    ∙ bit_ones 64 (k % 64) (omega arith)
    ∙ sym (bit_of_low m (truth m (constant m true)) k (omega arith) ∙ has_truth m (constant m true) (bit k)
    ∙ value_constant m true (bit k)))

module _ (row ts : List ℕ) where
  -- no term among the 2 ^ p bits
  pub put_none : (p k : ℕ) → ((i : ℕ) → k ≤ i → i < k + 2 ^ p → bit_at row i ≡ false)
      → PutTerms row ts p k (replicate 64 0)
  put_none p k h σ t =
      pack_false most
      ∙ ap (pack most) (sym (truth_false most)
      ∙ ap (truth most) (sym (ap (λ f. put_in p most f σ) none ∙ put_in_constant p most false σ)))
    where
      none : of_terms p (bit_at row) k ≡ constant p false
      none =
          terms_same p (of_terms p (bit_at row) k) (constant p false)
          (λ i l. has_of_terms p (bit_at row) k i l ∙ h (k + i) (omega arith) (omega arith) ∙ sym (has_false p (bit i)))

  -- the one bit is set
  pub put_one : (p k : ℕ) → p ≡ 0 → bit_at row k ≡ true → PutTerms row ts p k (replicate 64 (2 ^ 64 - 1))
  unfolding put_in of_terms
  put_one p k e h = subst (λ x. PutTerms row ts x k (replicate 64 (2 ^ 64 - 1))) (sym e) (one h)
    where
      one : bit_at row k ≡ true → PutTerms row ts 0 k (replicate 64 (2 ^ 64 - 1))
      one s σ t = ones_row most most_wide ∙ ap (λ b. pack most (truth most (constant most b))) (sym s)

  -- two halves, joined at parameter q
  put_suc : (q k : ℕ) (a b r : List ℕ) → PutTerms row ts q k a → PutTerms row ts q (k + 2 ^ q) b
      → Mixed a (row_at ts q) b r → PutTerms row ts (suc q) k r
  unfolding put_in of_terms
  put_suc q k a b r low high mix σ t =
      mix most _ (truth most (σ q)) _ (low σ (λ j h. t j (omega arith))) (t q (omega arith))
      (high σ (λ j h. t j (omega arith)))
      ∙ ap (pack most)
      (sym (truth_step most (put_in q most (of_terms q (bit_at row) k) σ) (σ q)
      (put_in q most (of_terms q (bit_at row) (k + 2 ^ q)) σ)))

  pub put_more : (p k half : ℕ) (a b r : List ℕ) → (p ≡ 0 → ⊥) → half ≡ 2 ^ (p - 1) → PutTerms row ts (p - 1) k a
      → PutTerms row ts (p - 1) (k + half) b → Mixed a (row_at ts (p - 1)) b r → PutTerms row ts p k r
  put_more p k half a b r h e low high mix =
      subst (λ x. PutTerms row ts x k r) (let q : suc (p - 1) ≡ p = omega arith in q)
      (put_suc (p - 1) k a b r low (subst (λ x. PutTerms row ts (p - 1) (k + x) b) e high) mix)

-- the halves lie inside the 4096 bits
pub halves_fit : (p k half : ℕ) → (p ≡ 0 → ⊥) → half ≡ 2 ^ (p - 1) → k + 2 ^ p ≤ 4096
    → (k + 2 ^ (p - 1) ≤ 4096) × (k + half + 2 ^ (p - 1) ≤ 4096)
halves_fit p k half h e l =
    let two : 2 ^ p ≡ 2 ^ (p - 1) + 2 ^ (p - 1)
    = ap (λ x. 2 ^ x) (let q : p ≡ suc (p - 1) = omega arith in q) ∙ two-pow-succ (p - 1) in
    (omega arith, omega arith)
