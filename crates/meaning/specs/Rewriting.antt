-- How a rule is rewritten (document 01, "How the rule is rewritten"; document 000, section 3.1).
use Rattle.std.specs.Prelude.{Bool, false, cond, List, [], ◌∷◌, ◌++◌, ℕ, zero, suc, ◌+◌}
use Rattle.ground.specs.Fold.{tab}
use Rattle.forms.specs.Form.{Form, constant, parameter, xor, and, or, put_in}
use Rattle.forms.specs.Area.{form_in}
use Rattle.meaning.specs.Interval.{Interval, inside, shifted, Moved, gone, to, moved}
use Rattle.meaning.specs.Rule.{Node, fixed, signal, both, either, next, until, previous, since}
use Rattle.meaning.specs.Rule.{node_at, count, first_of, Entry, holds}

-- the neighbouring record: there is none, before the first and after the last, or it has a time
pub data Neighbour : Type 0 where
  none : Neighbour
  at : ℕ → Neighbour

module _ (m : ℕ) where
  -- a form with rows put in
  unfoldable pub put : Form m → List (Form m) → Form m
  put f rows = put_in m m f (form_in m rows)

  -- a form if the test passes, else false
  unfoldable pub only_if : Bool → Form m → Form m
  only_if b f = cond b f (constant m false)

  -- a record's form: constants, and, exclusive or are read as such, any other is its parameter of shift 0
  unfoldable pub form_of : (forms : List (Form m)) → ℕ → Node → Form m
  form_of forms first (fixed b) = constant m b
  form_of forms first (signal s) = parameter m first
  form_of forms first (both l r) = and m (form_in m forms l) (form_in m forms r)
  form_of forms first (either l r) = xor m (form_in m forms l) (form_in m forms r)
  form_of forms first (next l v) = parameter m first
  form_of forms first (until l r v) = parameter m first
  form_of forms first (previous l v) = parameter m first
  form_of forms first (since l r v) = parameter m first

  -- the forms of the first k records
  unfoldable pub forms_of : List Node → ℕ → List (Form m)
  forms_of rule zero = []
  forms_of rule (suc k) = let forms = forms_of rule k in
      forms ++ (form_of forms (first_of rule k) (node_at rule k) ∷ [])

  -- the parameter, or the row, of a moved shift; false where it is gone
  unfoldable pub parameter_to : ℕ → Moved → Form m
  parameter_to first gone = constant m false
  parameter_to first (to n) = parameter m (first + n)

  unfoldable pub row_to : List (Form m) → ℕ → Moved → Form m
  row_to rows first gone = constant m false
  row_to rows first (to n) = form_in m rows (first + n)

  -- next derived: left's form if the gap is inside, else false; false at the end
  unfoldable pub next_row : (forms : List (Form m)) → ℕ → Interval → ℕ → Neighbour → Form m
  next_row forms l v here none = constant m false
  next_row forms l v here (at other) = only_if (inside v here other) (form_in m forms l)

  -- until's second part derived: left's form derived, and the parameter of the moved shift; false at the end
  unfoldable pub until_later : (forms derived : List (Form m)) → ℕ → ℕ → Interval → ℕ → ℕ → Neighbour → Form m
  until_later forms derived first l v n here none = constant m false
  until_later forms derived first l v n here (at other) =
      and m (put (form_in m forms l) derived) (parameter_to first (moved v n here other))

  -- the derived row of a record's shift n at record e of the log, whose neighbour is the next record
  unfoldable pub derived_row : (past forms derived : List (Form m)) → Entry → Neighbour → ℕ → Node → ℕ → Form m
  derived_row past forms derived e later first (fixed b) n = constant m false
  derived_row past forms derived e later first (signal s) n = constant m (holds e s)
  derived_row past forms derived e later first (both l r) n = constant m false
  derived_row past forms derived e later first (either l r) n = constant m false
  derived_row past forms derived e later first (next l v) n = next_row forms l v e.time later
  derived_row past forms derived e later first (until l r v) n =
      or m (only_if (inside (shifted v n) e.time e.time) (put (form_in m forms r) derived))
      (until_later forms derived first l v n e.time later)
  derived_row past forms derived e later first (previous l v) n = put (form_in m past (first + n)) derived
  derived_row past forms derived e later first (since l r v) n = put (form_in m past (first + n)) derived

  -- the derived rows of the first k records
  unfoldable pub derived_rows : List Node → (past : List (Form m)) → Entry → Neighbour → ℕ → List (Form m)
  derived_rows rule past e later zero = []
  derived_rows rule past e later (suc k) =
      let derived = derived_rows rule past e later k in
      derived
      ++ tab (count (node_at rule k))
      (derived_row past (forms_of rule k) derived e later (first_of rule k) (node_at rule k))

  -- previous resolved: left's form with the derived rows of the record before put in, then the past rows;
  -- false at the first record
  unfoldable pub previous_row : (forms derived past : List (Form m)) → ℕ → Interval → ℕ → Neighbour → Form m
  previous_row forms derived past l v here none = constant m false
  previous_row forms derived past l v here (at other) =
      only_if (inside v here other) (put (put (form_in m forms l) derived) past)

  -- since's second part resolved: left's form with past rows, and the derived row of the moved shift with past rows
  unfoldable pub since_earlier : (forms derived past : List (Form m)) → ℕ → ℕ → Interval → ℕ → ℕ → Neighbour → Form m
  since_earlier forms derived past first l v n here none = constant m false
  since_earlier forms derived past first l v n here (at other) =
      and m (put (form_in m forms l) past) (put (row_to derived first (moved v n here other)) past)

  -- the past row of a record's shift n at record e of the log, with the derived rows of the record before
  unfoldable pub past_row : (forms derived past : List (Form m)) → Entry → Neighbour → ℕ → Node → ℕ → Form m
  past_row forms derived past e before first (fixed b) n = constant m false
  past_row forms derived past e before first (signal s) n = constant m (holds e s)
  past_row forms derived past e before first (both l r) n = constant m false
  past_row forms derived past e before first (either l r) n = constant m false
  past_row forms derived past e before first (next l v) n = parameter m (first + n)
  past_row forms derived past e before first (until l r v) n = parameter m (first + n)
  past_row forms derived past e before first (previous l v) n = previous_row forms derived past l v e.time before
  past_row forms derived past e before first (since l r v) n =
      or m (only_if (inside (shifted v n) e.time e.time) (put (form_in m forms r) past))
      (since_earlier forms derived past first l v n e.time before)

  -- the past rows of the first k records
  unfoldable pub past_rows : List Node → (derived : List (Form m)) → Entry → Neighbour → ℕ → List (Form m)
  past_rows rule derived e before zero = []
  past_rows rule derived e before (suc k) =
      let past = past_rows rule derived e before k in
      past
      ++ tab (count (node_at rule k))
      (past_row (forms_of rule k) derived past e before (first_of rule k) (node_at rule k))
