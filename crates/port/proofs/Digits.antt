-- The bytes of a number make it again, and are those that the code makes.
-- Assumes nothing.
use mathlib.Core.Path.{◌≡◌, refl, sym, ap, ◌∙◌}
use mathlib.Core.List.{List}
use Prim.Native.Nat.{ℕ, zero, suc, ◌+◌, ◌*◌, ◌-◌, ◌/◌, ◌%◌, ◌^◌, ◌≤◌, ◌<◌}
use native.Mathlib.Nat.{pow-succ', div-one, div-div-eq-div-mul}
use native.Mathlib.Omega.{arith}
use lib.ListN.{length, get_or}
use Rattle.std.specs.Int.{byte_at, bytes_low_first}
use Rattle.ground.specs.Bytes.{little}
use Rattle.port.specs.Layout.{digit}

-- where n bytes are those of a number below 256 ^ n, they make that number
pub little_digits : (bytes : List ℕ) (at n x : ℕ) → ((k : ℕ) → k < n → get_or bytes (at + k) 0 ≡ digit x k)
    → x < 256 ^ n → little bytes at n ≡ x
unfolding little digit
little_digits bytes at zero x p h = omega arith
little_digits bytes at (suc n) x p h =
    let low : get_or bytes at 0 ≡ x % 256 = ap (λ i. get_or bytes i 0) (omega arith) ∙ p 0 (omega arith) in
    let rest : little bytes (at + 1) n ≡ x / 256 =
    little_digits bytes (at + 1) n (x / 256)
    (λ k l.
    let e : at + 1 + k ≡ at + suc k = omega arith in
    ap (λ i. get_or bytes i 0) e ∙ p (suc k) (omega arith))
    (omega (arith, pow-succ' 256 n)) in
    omega (arith, low, rest)

-- a byte of a number, by a power of 256
digit_power : (n k : ℕ) → digit n k ≡ n / 256 ^ k % 256
unfolding digit
digit_power n zero = ap (λ x. x % 256) (sym (div-one n))
digit_power n (suc k) =
    digit_power (n / 256) k
    ∙ ap (λ x. x % 256) (div-div-eq-div-mul n 256 (256 ^ k) ∙ ap (λ x. n / x) (sym (pow-succ' 256 k)))

byte_power : (n k : ℕ) → byte_at k n ≡ n / 256 ^ k % 256
byte_power n zero = ap (λ x. x % 256) (sym (div-one n))
byte_power n (suc k) = refl

-- the bytes of a number as the code makes them
pub length_low : (k n x : ℕ) → length (bytes_low_first k n x) ≡ n
length_low k zero x = refl
length_low k (suc n) x = ap suc (length_low (suc k) n x)

pub low_at : (k n x i : ℕ) → i < n → get_or (bytes_low_first k n x) i 0 ≡ digit x (k + i)
low_at k zero x i h = let z : ⊥ = omega arith in absurd z
low_at k (suc n) x zero h =
    let e : k ≡ k + 0 = omega arith in byte_power x k ∙ sym (digit_power x k) ∙ ap (digit x) e
low_at k (suc n) x (suc i) h =
    let e : suc k + i ≡ k + suc i = omega arith in low_at (suc k) n x i (omega arith) ∙ ap (digit x) e
