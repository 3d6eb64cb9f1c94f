-- Rows of 64 words in an area: the row at place j is words 64 j to 64 j + 63.
use Rattle.std.specs.Prelude.{◌≡◌, false, ◌&&◌, cond, List, ℕ, ◌+◌, ◌-◌, ◌*◌, ◌/◌, ◌%◌, ◌<◌, leb, ltb, length, get_or}
use Rattle.ground.specs.Fold.{tab}
use Rattle.forms.specs.Form.{Form, constant}
use Rattle.forms.specs.Words.{pack}

-- the row at a place; zeros past the area's end
unfoldable pub row_at : List ℕ → ℕ → List ℕ
row_at ws place = tab 64 (λ i. get_or ws (64 * place + i) 0)

-- the area with the rows g 0, .. g (count - 1) put from place base on; nothing is put past its end
unfoldable pub put_rows : List ℕ → ℕ → ℕ → (ℕ → List ℕ) → List ℕ
put_rows ws base count g =
    tab (length ws)
    (λ k. cond (leb base (k / 64) && ltb (k / 64) (base + count)) (get_or (g (k / 64 - base)) (k % 64) 0)
    (get_or ws k 0))

-- form j of a list; false past its end
abbrev pub form_in : (m : ℕ) → List (Form m) → ℕ → Form m
form_in m rows j = get_or rows j (constant m false)

-- the count rows of the area from base on are those of the forms
pub record Holds (m : ℕ) (ws : List ℕ) (base count : ℕ) (rows : List (Form m)) : Type 0 where
  pub long : length rows ≡ count
  pub row : (j : ℕ) → j < count → row_at ws (base + j) ≡ pack m (form_in m rows j)
