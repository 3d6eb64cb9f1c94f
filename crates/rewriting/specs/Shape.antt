-- When the rows of a work area are wrong (document 01, refusal 12). Past rows stand from place 0 on, then the
-- remainder.
use Rattle.std.specs.Prelude.{Bool, true, false, not, ◌&&◌, ◌||◌, List, ℕ, zero, suc, ◌+◌}
use Rattle.std.specs.Prelude.{eqb, leb, ltb, length, get_or}
use Rattle.ground.specs.Fold.{every, some}
use Rattle.forms.specs.Form.{Form, constant, parameter, names, same}
use Rattle.forms.specs.Words.{fits}
use Rattle.forms.specs.Area.{row_at, form_in}
use Rattle.meaning.specs.Rule.{Node, fixed, signal, both, either, next, until, previous, since}
use Rattle.meaning.specs.Rule.{node_at, count, first_of, Entry, holds}

-- a past row or the remainder has a bit at or above 2^m
unfoldable pub bits_above : (places m : ℕ) → List ℕ → Bool
bits_above places m ws = some places (λ j. not (fits m (row_at ws j))) || not (fits m (row_at ws places))

-- the row is zero
unfoldable pub zero_row : List ℕ → Bool
zero_row row = every 64 (λ i. eqb (get_or row i 0) 0)

-- a past row from some place on is not zero: from m on, an unused row; from 0 on, any
unfoldable pub not_zero_from : (places from : ℕ) → List ℕ → Bool
not_zero_from places from ws = some places (λ j. leb from j && not (zero_row (row_at ws j)))

-- next and until look forward
unfoldable pub looks_forward : Node → Bool
looks_forward (fixed b) = false
looks_forward (signal s) = false
looks_forward (both l r) = false
looks_forward (either l r) = false
looks_forward (next l v) = true
looks_forward (until l r v) = true
looks_forward (previous l v) = false
looks_forward (since l r v) = false

-- p is a next or until parameter of the first k records
unfoldable pub forward : List Node → ℕ → ℕ → Bool
forward rule zero p = false
forward rule (suc k) p =
    forward rule k p || (looks_forward (node_at rule k) && (leb (first_of rule k) p && ltb p (first_of rule (suc k))))

-- the form names a parameter other than next and until parameters of the first k records
unfoldable pub names_other : List Node → (m : ℕ) → Form m → ℕ → Bool
names_other rule m f k = some m (λ p. names m f p && not (forward rule k p))

-- the past row of record k's shift n is wrong: a signal's is not its constant, a next's or until's is not itself,
-- or a previous's or since's names anything but next and until parameters of earlier records
unfoldable pub wrong_row : List Node → (m : ℕ) → Entry → (k n : ℕ) → Node → Form m → Bool
wrong_row rule m e k n (fixed b) f = false
wrong_row rule m e k n (signal s) f = not (same m f (constant m (holds e s)))
wrong_row rule m e k n (both l r) f = false
wrong_row rule m e k n (either l r) f = false
wrong_row rule m e k n (next l v) f = not (same m f (parameter m (first_of rule k + n)))
wrong_row rule m e k n (until l r v) f = not (same m f (parameter m (first_of rule k + n)))
wrong_row rule m e k n (previous l v) f = names_other rule m f k
wrong_row rule m e k n (since l r v) f = names_other rule m f k

-- one of the past rows of record k is wrong
abbrev pub wrong_at : List Node → (m : ℕ) → Entry → List (Form m) → ℕ → Bool
wrong_at rule m e past k =
    some (count (node_at rule k))
    (λ n. wrong_row rule m e k n (node_at rule k) (form_in m past (first_of rule k + n)))

-- a past row is wrong, by the last record of the log
unfoldable pub wrong_rows : List Node → (m : ℕ) → Entry → List (Form m) → Bool
wrong_rows rule m e past = some (length rule) (wrong_at rule m e past)
