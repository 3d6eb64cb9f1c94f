-- The bits of what `^ & | << >>`, `%` and sums make of numbers.
-- Assumes nothing.
use mathlib.Core.Path.{◌≡◌, refl, sym, ap, ◌∙◌}
use mathlib.Core.Bool.{Bool, true, false, ◌&&◌, ◌||◌, true≢false}
use mathlib.Core.Logic.{⊎_elim}
use Prim.Native.Nat.{ℕ, zero, suc, ◌+◌, ◌-◌, ◌*◌, ◌/◌, ◌%◌, ◌^◌, ◌≤◌, ◌<◌, min, max}
use native.Mathlib.Nat.{mod-lt, div-eq_of_lt, div-one, pow-suc}
use native.Mathlib.Nat.{mul-mod_left, mul-div-mul_right, one-mul, lt_of_lt_of_le}
use native.Mathlib.Omega.{arith}
use lib.Dec.{eqb, leb, lit<, eqb-zero-suc, eqb-suc-zero, eqb-suc-suc}
use lib.Pow.{pow_pos, pow-lt, pow_mono, shr-shr, shl-shr, field, mod-mod-pow, shl_exact}
use lib.Bits.{bit_and, bit_or, bit_xor, differ, and_shr, or_shr, xor_shr, and_step, or_step, xor_step, xor_shifted}
use borrow.Author.Tests.{le-leb, lt-leb, eq-eqb, ne_eqb}
use Rattle.ground.specs.Fold.{◌⊕◌}
use Rattle.ground.specs.Bits.{bit}
use Rattle.ground.proofs.Folds.{less_or_not}

-- what holds of 0 and 1 holds of two digits
two_digits : (P : ℕ → ℕ → Type 0) → P 0 0 → P 0 1 → P 1 0 → P 1 1 → (x y : ℕ) → x < 2 → y < 2 → P x y
two_digits P a b c d zero zero h k = a
two_digits P a b c d zero (suc zero) h k = b
two_digits P a b c d (suc zero) zero h k = c
two_digits P a b c d (suc zero) (suc zero) h k = d
two_digits P a b c d zero (suc (suc y)) h k = let z : ⊥ = omega arith in absurd z
two_digits P a b c d (suc zero) (suc (suc y)) h k = let z : ⊥ = omega arith in absurd z
two_digits P a b c d (suc (suc x)) y h k = let z : ⊥ = omega arith in absurd z

-- an operation that goes digit by digit, as f does on bits
module _ (op digit : ℕ → ℕ → ℕ) (f : Bool → Bool → Bool)
    (shift : (a b k : ℕ) → op a b / 2 ^ k ≡ op (a / 2 ^ k) (b / 2 ^ k))
    (step : (a b : ℕ) → op a b ≡ op (a / 2) (b / 2) * 2 + digit (a % 2) (b % 2))
    (right : (x y : ℕ) → x < 2 → y < 2 → (digit x y < 2) × (eqb (digit x y) 1 ≡ f (eqb x 1) (eqb y 1))) where
  low : (a b : ℕ) → eqb (op a b % 2) 1 ≡ f (eqb (a % 2) 1) (eqb (b % 2) 1)
  low a b =
      let r = right (a % 2) (b % 2) (mod-lt a (lit< tt)) (mod-lt b (lit< tt)) in
      let c : (op (a / 2) (b / 2) * 2 + digit (a % 2) (b % 2)) % 2 ≡ digit (a % 2) (b % 2) = omega (arith, r.0) in
      ap (λ x. eqb (x % 2) 1) (step a b) ∙ ap (λ x. eqb x 1) c ∙ r.1

  bit_op : (a b t : ℕ) → bit (op a b) t ≡ f (bit a t) (bit b t)
  unfolding bit
  bit_op a b t = ap (λ x. eqb (x % 2) 1) (shift a b t) ∙ low (a / 2 ^ t) (b / 2 ^ t)

pub bit_xor_lem : (a b t : ℕ) → bit (bit_xor a b) t ≡ bit a t ⊕ bit b t
bit_xor_lem = bit_op bit_xor differ ◌⊕◌ xor_shr xor_step
    (two_digits (λ x y. (differ x y < 2) × (eqb (differ x y) 1 ≡ eqb x 1 ⊕ eqb y 1))
    (lit< tt, refl) (lit< tt, refl) (lit< tt, refl) (lit< tt, refl))

pub bit_and_lem : (a b t : ℕ) → bit (bit_and a b) t ≡ (bit a t && bit b t)
bit_and_lem = bit_op bit_and min ◌&&◌ and_shr and_step
    (two_digits (λ x y. (min x y < 2) × (eqb (min x y) 1 ≡ (eqb x 1 && eqb y 1)))
    (lit< tt, refl) (lit< tt, refl) (lit< tt, refl) (lit< tt, refl))

pub bit_or_lem : (a b t : ℕ) → bit (bit_or a b) t ≡ (bit a t || bit b t)
bit_or_lem = bit_op bit_or max ◌||◌ or_shr or_step
    (two_digits (λ x y. (max x y < 2) × (eqb (max x y) 1 ≡ (eqb x 1 || eqb y 1)))
    (lit< tt, refl) (lit< tt, refl) (lit< tt, refl) (lit< tt, refl))

-- the code's test of a bit
pub bit_true : (x t : ℕ) → x / 2 ^ t % 2 ≡ 1 → bit x t ≡ true
unfolding bit
bit_true x t h = eq-eqb (x / 2 ^ t % 2) 1 h

pub bit_false : (x t : ℕ) → (x / 2 ^ t % 2 ≡ 1 → ⊥) → bit x t ≡ false
unfolding bit
bit_false x t h = ne_eqb (x / 2 ^ t % 2) 1 h

-- a number has no bit at or above its bound
pub bit_over : (x t : ℕ) → x < 2 ^ t → bit x t ≡ false
unfolding bit
bit_over x t h = ap (λ y. eqb (y % 2) 1) (div-eq_of_lt h)

pub bit_above : (x n t : ℕ) → x < 2 ^ n → n ≤ t → bit x t ≡ false
bit_above x n t h l = bit_over x t (lt_of_lt_of_le h (pow_mono l))

pub bit_zero : (t : ℕ) → bit 0 t ≡ false
bit_zero t = bit_over 0 t (pow_pos t)

pub bit_shr : (x s t : ℕ) → bit (x / 2 ^ s) t ≡ bit x (s + t)
unfolding bit
bit_shr x s t = ap (λ y. eqb (y % 2) 1) (shr-shr x s t)

-- the remainder by 2 ^ n has the bits below n
pub bit_low : (x n t : ℕ) → t < n → bit (x % 2 ^ n) t ≡ bit x t
unfolding bit
bit_low x n t h =
    let e : n - suc t + 1 + t ≡ n = omega arith in
    ap (λ y. eqb y 1)
    (ap (λ k. x % 2 ^ k / 2 ^ t % 2) (sym e) ∙ ap (λ y. y % 2) (field x (n - suc t + 1) t)
    ∙ mod-mod-pow (x / 2 ^ t) (n - suc t) 1)

-- what is shifted up by s has the bits from s on
pub bit_shl : (x s t : ℕ) → bit (x * 2 ^ s) t ≡ (leb s t && bit x (t - s))
bit_shl x s t =
    ⊎_elim
    (λ h.
    sym (bit_low (x * 2 ^ s) s t h) ∙ ap (λ y. bit y t) (mul-mod_left x (2 ^ s)) ∙ bit_zero t
    ∙ sym (ap (λ b. b && bit x (t - s)) (lt-leb s t h)))
    (λ h.
    let e : s + (t - s) ≡ t = omega arith in
    ap (bit (x * 2 ^ s)) (sym e) ∙ sym (bit_shr (x * 2 ^ s) s (t - s)) ∙ ap (λ y. bit y (t - s)) (shl-shr x s)
    ∙ sym (ap (λ b. b && bit x (t - s)) (le-leb s t h)))
    (less_or_not t s)

-- a number with bit t is 2 ^ t or more
pub bit_le : (x t : ℕ) → bit x t ≡ true → 2 ^ t ≤ x
bit_le x t e = ⊎_elim (λ h. absurd (true≢false (sym e ∙ bit_over x t h))) (λ h. h) (less_or_not x (2 ^ t))

pub bit_pow : (s t : ℕ) → bit (2 ^ s) t ≡ eqb s t
unfolding bit
bit_pow zero zero = refl
bit_pow zero (suc t) =
    rw (div-eq_of_lt {n = 1} {m = 2 ^ suc t} (pow-lt {i = 0} {j = suc t} (omega arith)), eqb-zero-suc t)
bit_pow (suc s) zero = rw (div-one, pow-suc 2 s, mul-mod_left, eqb-suc-zero s)
bit_pow (suc s) (suc t) =
    rw (pow-suc 2 s, pow-suc 2 t, mul-div-mul_right {m = 2} (2 ^ s) (2 ^ t) (omega arith), eqb-suc-suc s t)
    (bit_pow s t)

-- one bit more than a number below it
pub bit_plus : (m x t : ℕ) → x < 2 ^ m → bit (2 ^ m + x) t ≡ eqb m t ⊕ bit x t
bit_plus m x t h =
    ap (λ y. bit y t)
    (ap (λ y. y + x) (sym (one-mul (2 ^ m))) ∙ sym (xor_shifted 1 m x h) ∙ ap (λ y. bit_xor y x) (one-mul (2 ^ m)))
    ∙ bit_xor_lem (2 ^ m) x t ∙ ap (λ y. y ⊕ bit x t) (bit_pow m t)

-- the code's 1 << s
pub one_shl : (s : ℕ) → s < 64 → (1 * 2 ^ s) % 2 ^ 64 ≡ 2 ^ s
one_shl s h = shl_exact 1 s 64 (lit< tt) (omega arith) ∙ one-mul (2 ^ s)
