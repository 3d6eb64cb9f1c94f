-- Looking for the next term of a row, and for the one term of a parameter: which bits are passed over.
-- Assumes nothing.
use mathlib.Core.Path.{◌≡◌, refl, sym, ap, ap₂, ◌∙◌, subst}
use mathlib.Core.Bool.{true, false, false≢true}
use mathlib.Core.Logic.{⊎_elim}
use mathlib.Core.List.{List}
use Prim.Native.Nat.{ℕ, ◌+◌, ◌-◌, ◌*◌, ◌/◌, ◌%◌, ◌^◌, ◌≤◌, ◌<◌}
use native.Mathlib.Omega.{arith}
use lib.ListN.{get_or}
use lib.Pow.{pow_pos}
use borrow.Author.Tests.{eq-eqb, ne_eqb, eqb-true}
use Rattle.std.specs.Prelude.{Option, None, Some, is_some, MatchOption}
use Rattle.ground.specs.Bits.{bit, bit_at}
use Rattle.ground.proofs.Folds.{less_or_not}
use Rattle.forms.specs.inside.Steps.{Free, First, Next, Only, Lone}
use Rattle.ground.proofs.Bits.{bit_true, bit_false, bit_shr, bit_zero, one_shl}
use Rattle.forms.proofs.Packing.{term_room}

-- what a look for a term found, and that it found none
module _ (row : List ℕ) (from to : ℕ) where
  pub seen : (r : Option ℕ) → true ≡ is_some r → Next row from to r → (k : ℕ) × First row from to k
  seen None e m = absurd (false≢true (sym e))
  seen (Some k) e m = (k, m)

  pub unseen : (r : Option ℕ) → false ≡ is_some r → Next row from to r → Free row from to
  unseen None e m = m
  unseen (Some k) e m = absurd (false≢true e)

-- what the code's test of bit k says
pub bit_here : (row : List ℕ) (k : ℕ) → get_or row (k / 64) 0 / 2 ^ (k % 64) % 2 ≡ 1 → bit_at row k ≡ true
unfolding bit_at
bit_here row k h = bit_true (get_or row (k / 64) 0) (k % 64) h

pub bit_absent : (row : List ℕ) (k : ℕ) → (get_or row (k / 64) 0 / 2 ^ (k % 64) % 2 ≡ 1 → ⊥) → bit_at row k ≡ false
unfolding bit_at
bit_absent row k h = bit_false (get_or row (k / 64) 0) (k % 64) h

-- nothing is left of the word from bit k on
pub word_absent : (row : List ℕ) (k i : ℕ) → get_or row (k / 64) 0 / 2 ^ (k % 64) ≡ 0 → k ≤ i → i < (k / 64 + 1) * 64
    → bit_at row i ≡ false
unfolding bit_at
word_absent row k i h a b =
    let word : i / 64 ≡ k / 64 = omega arith in
    let place : i % 64 ≡ k % 64 + (i - k) = omega arith in
    ap₂ (λ x y. bit (get_or row x 0) y) word place ∙ sym (bit_shr (get_or row (k / 64) 0) (k % 64) (i - k))
    ∙ ap (λ x. bit x (i - k)) h ∙ bit_zero (i - k)

-- what holds from a up to k, and from k up to n, holds from a up to n
pub onwards : (P : ℕ → Type 0) (a k n : ℕ) → ((i : ℕ) → a ≤ i → i < k → P i) → ((i : ℕ) → k ≤ i → i < n → P i)
    → (i : ℕ) → a ≤ i → i < n → P i
onwards P a k n low high i h l = ⊎_elim (low i h) (λ d. high i d l) (less_or_not i k)

-- one place
pub only_one : (P : ℕ → Type 0) (k : ℕ) → P k → (i : ℕ) → k ≤ i → i < k + 1 → P i
only_one P k p i h l = let e : k ≡ i = omega arith in subst P e p

-- a term among one bit is that bit
pub first_alone : (row : List ℕ) (k end r : ℕ) → First row k end r → end ≡ k + 1 → bit_at row k ≡ true
first_alone row k end r next e =
    let q : r ≡ k = omega (arith, next.low, next.high) in ap (bit_at row) (sym q) ∙ next.here

-- a row with no term but the empty one is that of no parameter
pub lone_empty : (row : List ℕ) → Free row 1 4096 → (p : ℕ) → p < 12 → Only row (2 ^ p) → ⊥
lone_empty row free p h only =
    let t : ℕ = 2 ^ p in
    false≢true (sym (free t (pow_pos p) (term_room p h)) ∙ only t (pow_pos p) (term_room p h) ∙ eq-eqb t t refl)

-- the first term from 1 on
module _ (row : List ℕ) (k : ℕ) (first : First row 1 4096 k) where
  -- there is no second: the first is the only one
  only_here : Free row (k + 1) 4096 → Only row k
  only_here free l a b =
      ⊎_elim (λ s. first.none l a s ∙ sym (ne_eqb k l (λ q. omega arith)))
      (λ s.
      ⊎_elim (λ u. free l (omega arith) b ∙ sym (ne_eqb k l (λ q. omega arith)))
      (λ u. let q : k ≡ l = omega arith in ap (bit_at row) (sym q) ∙ first.here ∙ sym (eq-eqb k l q))
      (less_or_not k l))
      (less_or_not l k)

  -- the only one is the first
  only_first : (t : ℕ) → Only row t → t ≡ k
  only_first t only = eqb-true t k (sym (only k first.low first.high) ∙ first.here)

  -- so with a second it is that of no parameter
  pub lone_more : (r : ℕ) → First row (k + 1) 4096 r → (p : ℕ) → p < 12 → Only row (2 ^ p) → ⊥
  lone_more r second p h only =
      let a : 2 ^ p ≡ k = only_first (2 ^ p) only in
      let b : 2 ^ p ≡ r
      = eqb-true (2 ^ p) r (sym (only r (omega (arith, second.low)) second.high) ∙ second.here) in
      omega (arith, second.low)

  -- with none, it is that of the parameter whose term it is, negated or not, or of none
  pub lone_here : Free row (k + 1) 4096 → (p : ℕ) → p < 12 → k ≡ 2 ^ p → Only row (2 ^ p)
  lone_here free p h e = subst (Only row) e (only_here free)

  pub lone_none : ((p : ℕ) → p < 12 → k ≡ 2 ^ p → ⊥) → (p : ℕ) → p < 12 → Only row (2 ^ p) → ⊥
  lone_none other p h only = other p h (sym (only_first (2 ^ p) only))

  -- as the code looks for it, 1 << p being 2 ^ p
  pub lone_found : (r : Option ℕ) → Free row (k + 1) 4096
      → MatchOption r ((p : ℕ) → 0 ≤ p → p < 12 → k ≡ (1 * 2 ^ p) % 2 ^ 64 → ⊥)
      (λ p. (0 ≤ p) × (p < 12) × (k ≡ (1 * 2 ^ p) % 2 ^ 64)
      × ((q : ℕ) → 0 ≤ q → q < p → k ≡ (1 * 2 ^ q) % 2 ^ 64 → ⊥))
      → Lone row r
  lone_found None free none =
      lone_none (λ p h e. none p (omega arith) h (e ∙ sym (one_shl p (omega arith))))
  lone_found (Some p) free found = (found.1, lone_here free p found.1 (found.2 ∙ one_shl p (omega arith)))
