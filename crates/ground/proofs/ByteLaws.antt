-- A number of bytes is bounded, splits, and is zero past the end; zeros behind a prefix are zeros one by one.
-- Assumes nothing.
use mathlib.Core.Path.{◌≡◌, refl, sym, ap, ◌∙◌}
use mathlib.Core.Bool.{true, ◌||◌, or-true}
use mathlib.Core.Logic.{⊎_elim}
use mathlib.Core.List.{List}
use Prim.Native.Nat.{ℕ, zero, suc, ◌+◌, ◌-◌, ◌*◌, ◌^◌, ◌≤◌, ◌<◌}
use native.Mathlib.Nat.{pow-succ', one-le-pow}
use native.Mathlib.Omega.{arith}
use lib.Dec.{eqb, ltb}
use Rattle.std.specs.Cmp.{both_ways}
use Rattle.std.proofs.lemmas.List.{get_or-drop, length-drop}
use Rattle.std.proofs.lemmas.List.Sums.{AllPass-from_list_all, list_all-from_AllPass}
use Rattle.std.proofs.lemmas.Grind.{get_or_default_zero}
use lib.ListN.{length, drop, get_or, get_or-eq_default}
use borrow.Author.Tests.{lt-ltb, le-ltb, eq-eqb, eqb-true}
use Rattle.ground.specs.Bytes.{little, zeros_from}
use Rattle.ground.specs.Clauses.{LittleClause}
use Rattle.ground.specs.Fold.{every}
use Rattle.ground.proofs.Folds.{less_or_not, every_all, every_at}

-- up to k bytes, each below 256, make a number below 256 ^ k
pub little_below : (bytes : List ℕ) (at n k : ℕ) → ((i : ℕ) → get_or bytes i 0 < 256) → n ≤ k
    → little bytes at n < 256 ^ k
unfolding little
little_below bytes at zero k h l = one-le-pow k 256 (omega arith)
little_below bytes at (suc n) zero h l = let z : ⊥ = omega arith in absurd z
little_below bytes at (suc n) (suc k) h l =
    omega (arith, h at, little_below bytes (at + 1) n k h (omega arith), pow-succ' 256 k)

pub little_lt : (bytes : List ℕ) (at n : ℕ) → ((i : ℕ) → get_or bytes i 0 < 256) → little bytes at n < 256 ^ n
little_lt bytes at n h = little_below bytes at n n h (omega arith)

-- what a number of two bytes is, and of four: it fits into 16 bits, and into 32
module _ (bytes : List ℕ) (at o : ℕ) (small : (i : ℕ) → get_or bytes i 0 < 256) where
  pub of_two : LittleClause 2 bytes at o → (o ≡ little bytes at 2) × (o < 2 ^ 16)
  of_two e = (e, omega (arith, e, little_lt bytes at 2 small))

  pub of_four : LittleClause 4 bytes at o → (o ≡ little bytes at 4) × (o < 2 ^ 32)
  of_four e = (e, omega (arith, e, little_lt bytes at 4 small))

-- past the end the number is zero
pub little_past : (bytes : List ℕ) (at n : ℕ) → length bytes ≤ at → little bytes at n ≡ 0
unfolding little
little_past bytes at zero h = refl
little_past bytes at (suc n) h =
    omega (arith, get_or-eq_default bytes 0 h, little_past bytes (at + 1) n (omega arith))

-- with the byte before it, a number of bytes is that of one more; up to eight fit into 64 bits
pub little_more : (bytes : List ℕ) (at n k : ℕ) → ((i : ℕ) → get_or bytes i 0 < 256) → n ≤ 8 → 0 < k → k ≤ n
    → (256 * little bytes (at + k) (n - k) + get_or bytes (at + (k - 1)) 0
    ≡ little bytes (at + (k - 1)) (n - (k - 1)))
    × (little bytes (at + (k - 1)) (n - (k - 1)) < 2 ^ 64)
unfolding little
little_more bytes at n k small h l m =
    let e : n - (k - 1) ≡ suc (n - k) = omega arith in
    let f : at + k ≡ at + (k - 1) + 1 = omega arith in
    (rw (e, f) (omega arith), little_below bytes (at + (k - 1)) (n - (k - 1)) 8 small (omega arith))

-- where the bytes from `from` on are zeros, each of them is zero, also past the end
pub zeros_at : (bytes : List ℕ) (from i : ℕ) → zeros_from bytes from ≡ true → from ≤ i → get_or bytes i 0 ≡ 0
zeros_at bytes from i e h =
    ⊎_elim
    (λ l.
    let k : from + (i - from) ≡ i = omega arith in
    ap (λ j. get_or bytes j 0) (sym k) ∙ sym (get_or-drop from bytes (i - from) 0)
    ∙ eqb-true (get_or (drop from bytes) (i - from) 0) 0
    (AllPass-from_list_all (λ x. eqb x 0) (drop from bytes) e (i - from) 0 (omega (arith, length-drop from bytes))))
    (get_or-eq_default bytes 0) (less_or_not i (length bytes))

-- where each byte from `from` on is zero, they are zeros
pub zeros_all : (bytes : List ℕ) (from : ℕ) → ((i : ℕ) → from ≤ i → i < length bytes → get_or bytes i 0 ≡ 0)
    → zeros_from bytes from ≡ true
zeros_all bytes from p =
    list_all-from_AllPass (λ x. eqb x 0) (drop from bytes)
    (λ k d l.
    let h : from + k < length bytes = omega (arith, length-drop from bytes) in
    eq-eqb (get_or (drop from bytes) k d) 0
    (get_or-drop from bytes k d ∙ get_or_default_zero bytes (from + k) d h ∙ p (from + k) (omega arith) h))

-- past the end there is none that is not
pub zeros_past : (bytes : List ℕ) (from : ℕ) → length bytes ≤ from → zeros_from bytes from ≡ true
zeros_past bytes from h = zeros_all bytes from (λ i l k. let z : ⊥ = omega arith in absurd z)

-- they are zeros exactly if every byte of the list is zero or lies before `from`
pub zeros_every : (bytes : List ℕ) (from : ℕ)
    → zeros_from bytes from ≡ every (length bytes) (λ i. ltb i from || eqb (get_or bytes i 0) 0)
zeros_every bytes from =
    both_ways (zeros_from bytes from) (every (length bytes) (λ i. ltb i from || eqb (get_or bytes i 0) 0))
    (λ e.
    every_all (length bytes) (λ i. ltb i from || eqb (get_or bytes i 0) 0)
    (λ i l.
    ⊎_elim (λ h. ap (λ b. b || eqb (get_or bytes i 0) 0) (lt-ltb i from h))
    (λ h.
    ap (λ b. ltb i from || b) (eq-eqb (get_or bytes i 0) 0 (zeros_at bytes from i e h)) ∙ or-true (ltb i from))
    (less_or_not i from)))
    (λ e.
    zeros_all bytes from
    (λ i h l.
    eqb-true (get_or bytes i 0) 0
    (ap (λ b. b || eqb (get_or bytes i 0) 0) (sym (le-ltb i from h))
    ∙ every_at (length bytes) (λ k. ltb k from || eqb (get_or bytes k 0) 0) e i l)))
