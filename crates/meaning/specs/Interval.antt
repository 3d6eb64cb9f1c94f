-- Intervals of minutes: whether two records stand in one, and what a gap makes of it
-- (document 01, "How the rule is rewritten").
use Rattle.std.specs.Prelude.{◌≡◌, Bool, true, ◌&&◌, cond, ℕ, suc, ◌+◌, ◌-◌, min, leb}

-- from low to high, or from low on with no upper end
pub data Interval : Type 0 where
  between : ℕ → ℕ → Interval
  onward : ℕ → Interval

-- the minutes between two times
unfoldable pub distance : ℕ → ℕ → ℕ
distance here other = (here - other) + (other - here)

-- the other record, seen from the one here, is in the interval
unfoldable pub inside : Interval → ℕ → ℕ → Bool
inside (between low high) here other = leb low (distance here other) && leb (distance here other) high
inside (onward low) here other = leb low (distance here other)

-- every gap inside the one interval is inside the other
abbrev pub Within : Interval → Interval → Type 0
Within v w = (here other : ℕ) → inside v here other ≡ true → inside w here other ≡ true

-- how many shifts there are: 0 to high, or to low with no upper end
unfoldable pub shifts : Interval → ℕ
shifts (between low high) = suc high
shifts (onward low) = suc low

-- shift n turns [low, high] into [max(0, low - n), high - n]
unfoldable pub shifted : Interval → ℕ → Interval
shifted (between low high) n = between (low - n) (high - n)
shifted (onward low) n = onward (low - n)

-- what a shift becomes: nothing, where the interval has emptied, or another shift
pub data Moved : Type 0 where
  gone : Moved
  to : ℕ → Moved

-- shift n moved by the gap between the record here and its neighbour:
-- past a finite high it is gone, with no upper end it stops at low
unfoldable pub moved : Interval → ℕ → ℕ → ℕ → Moved
moved (between low high) n here other = cond (leb (n + distance here other) high) (to (n + distance here other)) gone
moved (onward low) n here other = to (min (n + distance here other) low)
