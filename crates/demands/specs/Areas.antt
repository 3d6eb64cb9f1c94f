-- What a call may not look at, and what it may not leave: the scratch, and the rows that are not used.
use Rattle.std.specs.Prelude.{◌≡◌, List, ℕ, ◌+◌, ◌≤◌, ◌<◌, length, replicate}
use Rattle.forms.specs.Area.{row_at}
use Rattle.watcher.specs.Limits.{most_parameters, area_words}

-- two areas of one length that differ in the scratch only
pub record Alike (a b : List ℕ) : Type 0 where
  pub long : length a ≡ length b
  pub rows : (j : ℕ) → j < most_parameters + 1 → row_at a j ≡ row_at b j

-- an area with zeros in the scratch, and in the places of past rows from m on
pub record Clean (m : ℕ) (ws : List ℕ) : Type 0 where
  pub long : length ws ≡ area_words
  pub unused : (j : ℕ) → m ≤ j → j < most_parameters → row_at ws j ≡ replicate 64 0
  pub scratch : (j : ℕ) → most_parameters < j → row_at ws j ≡ replicate 64 0
