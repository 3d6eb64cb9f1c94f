-- What is known, in the work area (document 01, "Work area and state"): past rows from place 0 on, then the
-- remainder, then as much scratch again.
use Rattle.std.specs.Prelude.{◌≡◌, true, cond, List, ℕ, ◌+◌, ◌*◌, ◌/◌, ◌%◌, ◌^◌, ◌≤◌, ◌<◌}
use Rattle.std.specs.Prelude.{eqb, ltb, length, get_or, replicate}
use Rattle.ground.specs.Fold.{tab}
use Rattle.forms.specs.Form.{Form}
use Rattle.forms.specs.Words.{pack, unpack, fits}
use Rattle.forms.specs.Area.{row_at, form_in}
use Rattle.meaning.specs.Rule.{Entry}
use Rattle.meaning.specs.Words.{Known}

-- words of an area with so many places for past rows
unfoldable pub words_for : ℕ → ℕ
words_for places = 64 * (2 * (places + 1))

-- the form at a place
unfoldable pub form_at : (m : ℕ) → List ℕ → ℕ → Form m
form_at m ws place = unpack m (row_at ws place)

-- the past rows, and all that is known after a record
unfoldable pub past_in : (m : ℕ) → List ℕ → List (Form m)
past_in m ws = tab m (form_at m ws)

unfoldable pub known_in : (places m : ℕ) → List ℕ → Entry → Known m
known_in places m ws last = record { past = past_in m ws; remainder = form_at m ws places; last = last }

-- the row at a place: a past row, zero where it is unused; the remainder; zero in the scratch
unfoldable pub row_for : (places m : ℕ) → List (Form m) → Form m → ℕ → List ℕ
row_for places m past remainder j =
    cond (ltb j places) (pack m (form_in m past j)) (cond (eqb j places) (pack m remainder) (replicate 64 0))

-- the whole area
unfoldable pub area_of : (places m : ℕ) → List (Form m) → Form m → List ℕ
area_of places m past remainder =
    tab (words_for places) (λ k. get_or (row_for places m past remainder (k / 64)) (k % 64) 0)

-- the area has its words of 64 bits, no past row and no remainder has a bit at or above 2^m, and unused rows are zero
pub record Tidy (places m : ℕ) (ws : List ℕ) : Type 0 where
  pub long : length ws ≡ words_for places
  pub small : (i : ℕ) → get_or ws i 0 < 2 ^ 64
  pub past : (j : ℕ) → j < m → fits m (row_at ws j) ≡ true
  pub unused : (j : ℕ) → m ≤ j → j < places → row_at ws j ≡ replicate 64 0
  pub remainder : fits m (row_at ws places) ≡ true
