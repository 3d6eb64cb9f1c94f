-- The line of a row of the work area, as `watch` prints it where the word `rows` asks for it.
use Rattle.std.specs.Prelude.{Bool, true, false, cond, List, [], ◌∷◌, ◌++◌, ℕ, ◌^◌, eqb, ltb}
use Rattle.ground.specs.Fold.{some}
use Rattle.ground.specs.Bits.{bit_at}
use Rattle.forms.specs.Area.{row_at}
use Rattle.watcher.specs.declared.state.Watcher.{Watcher}
use Rattle.watcher.specs.Limits.{most_records, most_parameters}
use Rattle.watcher.specs.State.{parameters_of}
use Rattle.lines.specs.Text.{decimal, numbers_text, space, newline}
use Rattle.lines.specs.Lines.{placed}

-- a dash where a row has no term
unfoldable pub none_text : Bool → List ℕ
none_text true = []
none_text false = 45 ∷ []

-- bits of a row, one for each term
abbrev pub row_bits : ℕ
row_bits = 2 ^ most_parameters

-- the numbers of a row's terms
unfoldable pub row_text : List ℕ → List ℕ
row_text row = numbers_text (bit_at row) row_bits ++ none_text (some row_bits (bit_at row))

-- behind the name of a row: a space, its terms, and the end of the line
unfoldable pub rest_of_line : (ws : List ℕ) → ℕ → List ℕ
rest_of_line ws place = (space ∷ []) ++ (row_text (row_at ws place) ++ (newline ∷ []))

-- "p" and its number for a past row, "r" for the remainder
unfoldable pub past_line : (ws : List ℕ) → ℕ → List ℕ
past_line ws j = (112 ∷ []) ++ (decimal j ++ rest_of_line ws j)

unfoldable pub remainder_line : (ws : List ℕ) → List ℕ
remainder_line ws = (114 ∷ []) ++ rest_of_line ws most_parameters

-- the past rows of a state, as many as its rule has parameters; none where it has more records than any rule
unfoldable pub rows_of : Watcher → ℕ
rows_of w = cond (ltb most_records w.records) 0 (parameters_of w)

-- line j of the rows: the past rows, then the remainder, then none
unfoldable pub row_of : (rows : ℕ) (ws : List ℕ) → ℕ → List ℕ
row_of rows ws j = cond (ltb j rows) (past_line ws j) (cond (eqb j rows) (remainder_line ws) [])

unfoldable pub row_line : Watcher → (ws : List ℕ) → ℕ → (out : List ℕ) → ℕ × List ℕ
row_line w ws j out = placed out (row_of (rows_of w) ws j)
