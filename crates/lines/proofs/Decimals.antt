-- Laws of decimal digits. A number's text, read as such, is the number; so two numbers with the same text are the same.
-- Assumes nothing.
use mathlib.Core.Path.{◌≡◌, refl, sym, ap, ◌∙◌}
use mathlib.Core.Bool.{Bool, true, false, cond}
use mathlib.Core.List.{List, [], ◌∷◌, ◌++◌}
use Prim.Native.Nat.{ℕ, zero, suc, ◌+◌, ◌-◌, ◌*◌, ◌/◌, ◌%◌, ◌≤◌, ◌<◌}
use native.Mathlib.Numerals.{add-one}
use native.Mathlib.Omega.{arith}
use lib.Dec.{ltb}
use borrow.Author.Tests.{lt-ltb, le-ltb, ltb-false}
use Rattle.lines.specs.Text.{digits, decimal}

-- as many digits as a number has are enough, and more change nothing
digits_enough : (j k n : ℕ) → n < j → n < k → digits j n ≡ digits k n
unfolding digits
digits_enough zero k n h l = let z : ⊥ = omega arith in absurd z
digits_enough j zero n h l = let z : ⊥ = omega arith in absurd z
digits_enough (suc j) (suc k) n h l = go (ltb n 10) refl (digits_enough j k (n / 10))
  where
    go : (b : Bool) → ltb n 10 ≡ b → (n / 10 < j → n / 10 < k → digits j (n / 10) ≡ digits k (n / 10))
        → cond b ((48 + n) ∷ []) (digits j (n / 10) ++ ((48 + n % 10) ∷ []))
        ≡ cond b ((48 + n) ∷ []) (digits k (n / 10) ++ ((48 + n % 10) ∷ []))
    go true e same = refl
    go false e same =
        let ten = ltb-false n 10 e in
        ap (λ d. d ++ ((48 + n % 10) ∷ [])) (same (omega (arith, ten)) (omega (arith, ten)))

-- a number of one digit, and of more
pub decimal_short : (n : ℕ) → n < 10 → decimal n ≡ (48 + n % 10) ∷ []
unfolding decimal digits
decimal_short n h = let e : n % 10 ≡ n = omega arith in rw (add-one n, lt-ltb n 10 h, e) refl

pub decimal_long : (n : ℕ) → 10 ≤ n → decimal n ≡ decimal (n / 10) ++ ((48 + n % 10) ∷ [])
unfolding decimal digits
decimal_long n h =
    rw (add-one n, le-ltb n 10 h, digits_enough n (n / 10 + 1) (n / 10) (omega arith) (omega arith)) refl

-- the number that digits make behind a number that is already read
abbrev pub reading : ℕ → List ℕ → ℕ
reading n [] = n
reading n (b ∷ text) = reading (10 * n + (b - 48)) text

reading_last : (n : ℕ) (text : List ℕ) (b : ℕ) → reading n (text ++ (b ∷ [])) ≡ 10 * reading n text + (b - 48)
reading_last n [] b = refl
reading_last n (d ∷ text) b = reading_last (10 * n + (d - 48)) text b

digits_read : (k n : ℕ) → n < k → reading 0 (digits k n) ≡ n
unfolding digits
digits_read zero n h = let z : ⊥ = omega arith in absurd z
digits_read (suc k) n h = go (ltb n 10) refl (digits_read k (n / 10))
  where
    go : (b : Bool) → ltb n 10 ≡ b → (n / 10 < k → reading 0 (digits k (n / 10)) ≡ n / 10)
        → reading 0 (cond b ((48 + n) ∷ []) (digits k (n / 10) ++ ((48 + n % 10) ∷ []))) ≡ n
    go true e less = omega arith
    go false e less =
        let ten = ltb-false n 10 e in
        reading_last 0 (digits k (n / 10)) (48 + n % 10) ∙ omega (arith, less (omega (arith, ten)))

pub decimal_read : (n : ℕ) → reading 0 (decimal n) ≡ n
unfolding decimal
decimal_read n = digits_read (n + 1) n (omega arith)

pub decimal_one : (a b : ℕ) → decimal a ≡ decimal b → a ≡ b
decimal_one a b e = sym (decimal_read a) ∙ ap (reading 0) e ∙ decimal_read b
