-- Laws of intervals: what a gap makes of a shift.
-- Assumes nothing.
use mathlib.Core.Path.{◌≡◌, refl, ap, ap₂, ◌∙◌}
use mathlib.Core.Bool.{Bool, true, false, ◌&&◌, cond, and-false, and-eq-true_iff}
use mathlib.Core.Logic.{◌⊎◌, inl, inr}
use Prim.Native.Nat.{ℕ, ◌+◌, ◌-◌, ◌≤◌, ◌<◌, min}
use native.Mathlib.Nat.{sub-zero}
use native.Mathlib.Omega.{arith}
use lib.Dec.{leb}
use borrow.Author.Tests.{leb-true, leb-false, le-leb, lt-leb}
use Rattle.meaning.specs.Interval.{Interval, between, onward, distance, inside, shifts, shifted, Moved, gone}
use Rattle.meaning.specs.Interval.{to, moved}
use Rattle.meaning.specs.Rule.{Node, fixed, signal, both, either, next, until, previous, since, shifted_node}
use Rattle.meaning.proofs.Ranges.{same_truth}

pub distance_same : (t : ℕ) → distance t t ≡ 0
unfolding distance
distance_same t = omega arith

-- what a test of an interval says of the distance, and what makes it pass
pub between_gives : (low high here other : ℕ) → inside (between low high) here other ≡ true
    → (low ≤ distance here other) × (distance here other ≤ high)
unfolding inside
between_gives low high here other e =
    let p = (and-eq-true_iff (leb low (distance here other)) (leb (distance here other) high)).0 e in
    (leb-true low (distance here other) p.0, leb-true (distance here other) high p.1)

pub between_made : (low high here other : ℕ) → low ≤ distance here other → distance here other ≤ high
    → inside (between low high) here other ≡ true
unfolding inside
between_made low high here other l h =
    (and-eq-true_iff (leb low (distance here other)) (leb (distance here other) high)).1
    (le-leb low (distance here other) l, le-leb (distance here other) high h)

-- b lies between a and c
abbrev pub Amid : ℕ → ℕ → ℕ → Type 0
Amid a b c = ((a ≤ b) × (b ≤ c)) ⊎ ((c ≤ b) × (b ≤ a))

pub distance_amid : (a b c : ℕ) → Amid a b c → distance a c ≡ distance b c + distance a b
unfolding distance
distance_amid a b c (inl h) = omega (arith, h.0, h.1)
distance_amid a b c (inr h) = omega (arith, h.0, h.1)

-- two tests that pass together are equal
tests_same : (a b c d : ℕ) → (a ≤ b → c ≤ d) → (c ≤ d → a ≤ b) → leb a b ≡ leb c d
tests_same a b c d to' from =
    same_truth (leb a b) (leb c d) (λ e. le-leb c d (to' (leb-true a b e))) (λ e. le-leb a b (from (leb-true c d e)))

-- f of the interval with the moved shift; false where the shift is gone
abbrev pub moved_to : (Interval → Bool) → Interval → Moved → Bool
moved_to f v gone = false
moved_to f v (to n) = f (shifted v n)

-- a record is in the interval of shift n, seen from one side of the gap,
-- exactly if it is in that of the moved shift, seen from the other
pub inside_moved : (v : Interval) (n here mid other : ℕ) → n < shifts v → Amid here mid other
    → inside (shifted v n) here other ≡ moved_to (λ w. inside w mid other) v (moved v n here mid)
unfolding inside shifts shifted moved
inside_moved (between low high) n here mid other h amid = go (leb (n + g) high) refl
  where
    g : ℕ
    g = distance here mid

    e : distance here other ≡ distance mid other + distance here mid
    e = distance_amid here mid other amid

    go : (b : Bool) → leb (n + distance here mid) high ≡ b
        → (leb (low - n) (distance here other) && leb (distance here other) (high - n))
        ≡ moved_to (λ w. inside w mid other) (between low high) (cond b (to (n + distance here mid)) gone)
    go true q =
        let l : n + distance here mid ≤ high = leb-true (n + distance here mid) high q in
        ap₂ ◌&&◌
        (tests_same (low - n) (distance here other) (low - (n + distance here mid)) (distance mid other)
        (λ x. omega (arith, e)) (λ x. omega (arith, e)))
        (tests_same (distance here other) (high - n) (distance mid other) (high - (n + distance here mid))
        (λ x. omega (arith, e)) (λ x. omega (arith, e)))
    go false q =
        let l : high < n + distance here mid = leb-false (n + distance here mid) high q in
        ap (λ b. leb (low - n) (distance here other) && b)
        (lt-leb (distance here other) (high - n) (omega (arith, e)))
        ∙ and-false (leb (low - n) (distance here other))
inside_moved (onward low) n here mid other h amid =
    let e : distance here other ≡ distance mid other + distance here mid = distance_amid here mid other amid in
    tests_same (low - n) (distance here other) (low - min (n + distance here mid) low) (distance mid other)
    (λ x. omega arith) (λ x. omega arith)

-- what holds of a shift that is gone, and of every shift there is, holds of a moved one
pub moved_cases : (P : Moved → Type 0) (v : Interval) (n here other : ℕ) → P gone
    → ((k : ℕ) → k < shifts v → P (to k)) → P (moved v n here other)
unfolding shifts moved
moved_cases P (between low high) n here other p q = go (leb (n + distance here other) high) refl
  where
    go : (b : Bool) → leb (n + distance here other) high ≡ b → P (cond b (to (n + distance here other)) gone)
    go true e =
        let l : n + distance here other ≤ high = leb-true (n + distance here other) high e in
        q (n + distance here other) (omega arith)
    go false e = p
moved_cases P (onward low) n here other p q = q (min (n + distance here other) low) (omega arith)

-- shift 0 leaves an interval as it is
pub shifted_zero : (v : Interval) → shifted v 0 ≡ v
unfolding shifted
shifted_zero (between low high) = ap₂ between (sub-zero low) (sub-zero high)
shifted_zero (onward low) = ap onward (sub-zero low)

pub shifted_node_zero : (d : Node) → shifted_node d 0 ≡ d
unfolding shifted_node
shifted_node_zero (fixed b) = refl
shifted_node_zero (signal s) = refl
shifted_node_zero (both l r) = refl
shifted_node_zero (either l r) = refl
shifted_node_zero (next l v) = refl
shifted_node_zero (until l r v) = ap (until l r) (shifted_zero v)
shifted_node_zero (previous l v) = refl
shifted_node_zero (since l r v) = ap (since l r) (shifted_zero v)

-- a record has shift 0
pub shifts_pos : (v : Interval) → 0 < shifts v
unfolding shifts
shifts_pos (between low high) = omega arith
shifts_pos (onward low) = omega arith
