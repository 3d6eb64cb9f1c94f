-- The interval of a record: what each way through the code finds, and what others say of `interval_for`.
-- Assumes nothing.
use mathlib.Core.Path.{◌≡◌, refl, ap, sym, ◌∙◌}
use mathlib.Core.Bool.{Bool, true, false, cond}
use Prim.Native.Nat.{ℕ, ◌+◌, ◌-◌, ◌≤◌, ◌<◌, min}
use native.Mathlib.Numerals.{add-one}
use native.Mathlib.Omega.{arith}
use borrow.Author.Tests.{leb-true, leb-false, le-leb, lt-leb}
use lib.Dec.{leb}
use Rattle.std.specs.Prelude.{Option}
use Rattle.std.specs.Bool.{then_some}
use Rattle.meaning.specs.Interval.{between, onward, distance, inside, shifts, shifted, gone, to, moved}
use Rattle.meaning.specs.Horizon.{Horizon, within, never, later}
use Rattle.meaning.proofs.Intervals.{distance_same}
use Rattle.rewriting.specs.declared.step.Interval.{Interval}
use Rattle.rewriting.specs.Decode.{endless, interval_of, interval_for}
use Rattle.rewriting.specs.Clauses.{EndlessClause}
use Rattle.rewriting.specs.inside.Steps.{moved_of, Near}

-- an interval, and whether it has no upper end
module _ (v : Interval) (b : Bool) (tells : EndlessClause v b) where
  onward_is : b ≡ true → interval_for v ≡ onward v.low
  unfolding interval_for interval_of
  onward_is e = ap (λ t. cond t (onward v.low) (between v.low v.high)) (sym tells ∙ e)

  between_is : b ≡ false → interval_for v ≡ between v.low v.high
  unfolding interval_for interval_of
  between_is e = ap (λ t. cond t (onward v.low) (between v.low v.high)) (sym tells ∙ e)

  -- the gap is inside
  module _ (here other gap : ℕ) (is : gap ≡ distance here other) where
    pub inside_onward : b ≡ true → v.low ≤ gap → true ≡ inside (interval_for v) here other
    unfolding inside
    inside_onward e h = rw (onward_is e, ← is, le-leb v.low gap h)

    pub inside_between : b ≡ false → v.low ≤ gap → leb gap v.high ≡ inside (interval_for v) here other
    unfolding inside
    inside_between e h = rw (between_is e, ← is, le-leb v.low gap h)

  -- what a shift becomes
  module _ (n here other gap : ℕ) (is : gap ≡ distance here other) where
    pub moved_onward : b ≡ true → (j : ℕ) → j ≡ min (n + gap) v.low → to j ≡ moved (interval_for v) n here other
    unfolding moved
    moved_onward e j q = rw (onward_is e, ← is, q)

    pub moved_between : b ≡ false → (s : Option ℕ) → s ≡ then_some (leb (n + gap) v.high) (n + gap) → v.high < 256
        → (moved_of s ≡ moved (interval_for v) n here other) × Near s
    unfolding moved
    moved_between e s q fits = rw (between_is e, ← is, q) (go (leb (n + gap) v.high) refl)
      where
        go : (t : Bool) → leb (n + gap) v.high ≡ t
            → (moved_of (then_some t (n + gap)) ≡ cond t (to (n + gap)) gone) × Near (then_some t (n + gap))
        go true h = (refl, omega (arith, leb-true (n + gap) v.high h))
        go false h = (refl, tt)

  -- how many shifts there are
  pub shifts_onward : b ≡ true → v.low + 1 ≡ shifts (interval_for v)
  unfolding shifts
  shifts_onward e = rw (onward_is e, add-one)

  pub shifts_between : b ≡ false → v.high + 1 ≡ shifts (interval_for v)
  unfolding shifts
  shifts_between e = rw (between_is e, add-one)

  -- what waits for its end waits for ever, or high more
  pub later_onward : (x : Horizon) → b ≡ true → later (interval_for v) x ≡ never
  unfolding later
  later_onward x e = rw (onward_is e)

  pub later_between : (h : ℕ) → b ≡ false → later (interval_for v) (within h) ≡ within (v.high + h)
  unfolding later
  later_between h e = rw (between_is e)

-- what comes before low is not inside
pub inside_early : (v : Interval) (here other gap : ℕ) → gap ≡ distance here other → gap < v.low
    → false ≡ inside (interval_for v) here other
unfolding inside interval_for interval_of
inside_early v here other gap is h = go (endless v.kind v.high)
  where
    go : (b : Bool) → false ≡ inside (cond b (onward v.low) (between v.low v.high)) here other
    go true = rw (← is, lt-leb v.low gap h)
    go false = rw (← is, lt-leb v.low gap h)

-- a record's own time is inside as soon as the shift has reached low
pub inside_same : (v : Interval) (n t : ℕ) → leb v.low n ≡ inside (shifted (interval_for v) n) t t
unfolding inside shifted interval_for interval_of
inside_same v n t = go (endless v.kind v.high) (leb v.low n) refl
  where
    reached : (b : Bool) → leb v.low n ≡ b → leb (v.low - n) 0 ≡ b
    reached true e = let h : v.low ≤ n = leb-true v.low n e in le-leb (v.low - n) 0 (omega arith)
    reached false e = let h : n < v.low = leb-false v.low n e in lt-leb (v.low - n) 0 (omega arith)

    go : (b c : Bool) → leb v.low n ≡ c
        → leb v.low n ≡ inside (shifted (cond b (onward v.low) (between v.low v.high)) n) t t
    go true c e = rw (distance_same t, reached c e, e)
    go false true e = rw (distance_same t, reached true e, e, le-leb 0 (v.high - n) (omega arith))
    go false false e = rw (distance_same t, reached false e, e)
