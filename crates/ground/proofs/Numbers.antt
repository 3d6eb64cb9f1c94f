-- What fixes a number, and a list of words: bounds and bits.
-- Assumes nothing.
use mathlib.Core.Path.{◌≡◌, refl, sym, ap, ap₂, ◌∙◌, subst}
use mathlib.Core.Bool.{Bool, true, false, cond, ◌&&◌, and-false}
use mathlib.Core.Logic.{⊎_elim}
use mathlib.Core.List.{List}
use Prim.Native.Nat.{ℕ, zero, suc, ◌+◌, ◌-◌, ◌*◌, ◌/◌, ◌%◌, ◌^◌, ◌≤◌, ◌<◌}
use native.Mathlib.Nat.{mod-lt, mod-one, mod-eq_of_lt, two-pow-succ, zero-add, lt_of_le_of_lt}
use native.Mathlib.Numerals.{one-add}
use native.Mathlib.Omega.{arith}
use lib.Dec.{eqb, lit<}
use lib.ListN.{length, get_or, replicate, length-replicate, get_or-eq_default}
use lib.Seq.{ext_get_or}
use lib.Pow.{mod-pow-add, pow-lt, pow_pos}
use lib.Bits.{bit_and, bit_xor, and_le_r, and_mask, xor_add_and}
use borrow.Author.Tests.{eq-eqb, ne_eqb, eqb-true, eqb-false}
use Rattle.ground.specs.Fold.{◌⊕◌}
use Rattle.ground.specs.Bits.{bit, of_bits, bit_at, Words}
use Rattle.ground.proofs.Xor.{⊕_comm}
use Rattle.ground.proofs.Folds.{last_or_less, less_or_not}
use Rattle.ground.proofs.Bits.{bit_xor_lem, bit_and_lem, bit_pow, bit_plus, bit_over, bit_zero}

-- two digits with the same test
digit_same : (x y : ℕ) → x < 2 → y < 2 → eqb x 1 ≡ eqb y 1 → x ≡ y
digit_same zero zero h k e = refl
digit_same zero (suc zero) h k e = absurd (eqb-false 0 1 refl (eqb-true 0 1 e))
digit_same (suc zero) zero h k e = absurd (eqb-false 0 1 refl (eqb-true 0 1 (sym e)))
digit_same (suc zero) (suc zero) h k e = refl
digit_same zero (suc (suc y)) h k e = let z : ⊥ = omega arith in absurd z
digit_same (suc zero) (suc (suc y)) h k e = let z : ⊥ = omega arith in absurd z
digit_same (suc (suc x)) y h k e = let z : ⊥ = omega arith in absurd z

low_same : (n a b : ℕ) → ((t : ℕ) → t < n → bit a t ≡ bit b t) → a % 2 ^ n ≡ b % 2 ^ n
unfolding bit
low_same zero a b p = mod-one a ∙ sym (mod-one b)
low_same (suc n) a b p =
    ap (λ k. a % 2 ^ k) (sym (one-add n)) ∙ mod-pow-add a 1 n
    ∙ ap₂ (λ x y. x * 2 ^ n + y)
    (digit_same (a / 2 ^ n % 2) (b / 2 ^ n % 2) (mod-lt (a / 2 ^ n) (lit< tt)) (mod-lt (b / 2 ^ n) (lit< tt))
    (p n (omega arith)))
    (low_same n a b (λ t h. p t (omega arith)))
    ∙ sym (mod-pow-add b 1 n) ∙ ap (λ k. b % 2 ^ k) (one-add n)

-- a number below 2 ^ n is its bits below n
pub same_bits : (n a b : ℕ) → a < 2 ^ n → b < 2 ^ n → ((t : ℕ) → t < n → bit a t ≡ bit b t) → a ≡ b
same_bits n a b h k p = sym (mod-eq_of_lt h) ∙ low_same n a b p ∙ mod-eq_of_lt k

pub of_bits_lt : (n : ℕ) (g : ℕ → Bool) → of_bits n g < 2 ^ n
unfolding of_bits
of_bits_lt zero g = lit< tt
of_bits_lt (suc n) g = go (g n) (of_bits_lt n g)
  where
    go : (b : Bool) → of_bits n g < 2 ^ n → cond b (2 ^ n) 0 + of_bits n g < 2 ^ suc n
    go true h = omega (arith, two-pow-succ n)
    go false h = omega (arith, two-pow-succ n)

pub bit_of_bits : (n : ℕ) (g : ℕ → Bool) (t : ℕ) → t < n → bit (of_bits n g) t ≡ g t
unfolding of_bits
bit_of_bits zero g t h = let z : ⊥ = omega arith in absurd z
bit_of_bits (suc n) g t h =
    ⊎_elim (λ e. ap (λ x. bit (cond (g n) (2 ^ n) 0 + of_bits n g) x) e ∙ top (g n) ∙ ap g (sym e))
    (λ l. rest (g n) (λ e. let z : ⊥ = omega arith in z) ∙ bit_of_bits n g t l) (last_or_less h)
  where
    lt : of_bits n g < 2 ^ n
    lt = of_bits_lt n g

    top : (b : Bool) → bit (cond b (2 ^ n) 0 + of_bits n g) n ≡ b
    top true = bit_plus n (of_bits n g) n lt ∙ ap₂ ◌⊕◌ (eq-eqb n n refl) (bit_over (of_bits n g) n lt)
    top false = ap (λ x. bit x n) (zero-add (of_bits n g)) ∙ bit_over (of_bits n g) n lt

    rest : (b : Bool) → (n ≡ t → ⊥) → bit (cond b (2 ^ n) 0 + of_bits n g) t ≡ bit (of_bits n g) t
    rest true e = bit_plus n (of_bits n g) t lt ∙ ap (λ x. x ⊕ bit (of_bits n g) t) (ne_eqb n t e)
    rest false e = ap (λ x. bit x t) (zero-add (of_bits n g))

-- one bit less: bit p is taken out
pub bit_minus : (x p t : ℕ) → bit x p ≡ true → bit (x - 2 ^ p) t ≡ eqb p t ⊕ bit x t
bit_minus x p t e =
    let both : bit_and x (2 ^ p) ≡ 2 ^ p
    = same_bits (suc p) (bit_and x (2 ^ p)) (2 ^ p) (lt_of_le_of_lt (and_le_r x (2 ^ p)) less) less here in
    let out : x - 2 ^ p ≡ bit_xor x (2 ^ p) = omega (arith, xor_add_and x (2 ^ p), both) in
    ap (λ y. bit y t) out ∙ bit_xor_lem x (2 ^ p) t ∙ ⊕_comm (bit x t) (bit (2 ^ p) t)
    ∙ ap (λ y. y ⊕ bit x t) (bit_pow p t)
  where
    less : 2 ^ p < 2 ^ suc p
    less = pow-lt (omega arith)

    pick_one : (s : ℕ) (b : Bool) → eqb p s ≡ b → (bit x s && b) ≡ b
    pick_one s true q = ap (λ y. bit x y && true) (sym (eqb-true p s q)) ∙ ap (λ y. y && true) e
    pick_one s false q = and-false (bit x s)

    here : (s : ℕ) → s < suc p → bit (bit_and x (2 ^ p)) s ≡ bit (2 ^ p) s
    here s h =
        bit_and_lem x (2 ^ p) s ∙ ap (λ y. bit x s && y) (bit_pow p s) ∙ pick_one s (eqb p s) refl ∙ sym (bit_pow p s)

-- 2 ^ n - 1 has every bit below n
pub bit_ones : (n t : ℕ) → t < n → bit (2 ^ n - 1) t ≡ true
bit_ones n t h =
    let here : bit (2 ^ t) t ≡ true = bit_pow t t ∙ eq-eqb t t refl in
    sym (ap (λ b. b && bit (2 ^ n - 1) t) here) ∙ sym (bit_and_lem (2 ^ t) (2 ^ n - 1) t)
    ∙ ap (λ x. bit x t) (and_mask (2 ^ t) n ∙ mod-eq_of_lt (pow-lt h)) ∙ here

-- a list of n small numbers is n words
pub words_of_lem : (n : ℕ) (ws : List ℕ) → length ws ≡ n → ((i : ℕ) → i < n → get_or ws i 0 < 2 ^ 64) → Words n ws
words_of_lem n ws l h = record { long = l; small = λ i. ⊎_elim (h i) (past i) (less_or_not i n) }
  where
    past : (i : ℕ) → n ≤ i → get_or ws i 0 < 2 ^ 64
    past i k =
        let e : length ws ≤ i = omega arith in
        subst (λ x. x < 2 ^ 64) (sym (get_or-eq_default ws 0 e)) (pow_pos 64)

-- n words are their 64 n bits
pub words_same : (n : ℕ) (a b : List ℕ) → Words n a → Words n b → ((k : ℕ) → k < 64 * n → bit_at a k ≡ bit_at b k)
    → a ≡ b
unfolding bit_at
words_same n a b wa wb p =
    ext_get_or 0 a b (wa.long ∙ sym wb.long)
    (λ i h.
    same_bits 64 (get_or a i 0) (get_or b i 0) (wa.small i) (wb.small i)
    (λ t l.
    let q : (64 * i + t) / 64 ≡ i = omega arith in
    let r : (64 * i + t) % 64 ≡ t = omega arith in
    ap₂ (λ x y. bit (get_or a x 0) y) (sym q) (sym r)
    ∙ p (64 * i + t) (omega (arith, wa.long))
    ∙ ap₂ (λ x y. bit (get_or b x 0) y) q r))

-- words of zeros
pub zero_at : (n i : ℕ) → get_or {A = ℕ} (replicate n 0) i 0 ≡ 0
zero_at zero i = refl
zero_at (suc n) zero = refl
zero_at (suc n) (suc i) = zero_at n i

pub zero_words : (n : ℕ) → Words n (replicate n 0)
zero_words n = record {
  long = length-replicate n 0;
  small = λ i. subst (λ x. x < 2 ^ 64) (sym (zero_at n i)) (pow_pos 64);
}

pub zero_bit : (n k : ℕ) → bit_at (replicate n 0) k ≡ false
unfolding bit_at
zero_bit n k = ap (λ x. bit x (k % 64)) (zero_at n (k / 64)) ∙ bit_zero (k % 64)
