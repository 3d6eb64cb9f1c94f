-- What a record makes of what is known, as document 01 words it: each row is made of the forms of all records and
-- of all rows ("How the rule is rewritten").
use Rattle.std.specs.Prelude.{◌≡◌, List, [], ℕ, ◌+◌, ◌<◌, length}
use Rattle.forms.specs.Form.{Form}
use Rattle.forms.specs.Area.{form_in}
use Rattle.meaning.specs.Rule.{Node, node_at, count, first_of, parameters, Entry}
use Rattle.meaning.specs.Rewriting.{Neighbour, none, at, put, forms_of, derived_row, past_row}
use Rattle.meaning.specs.Words.{Known, start, first, feed, close, after}

module _ (m : ℕ) (rule : List Node) where
  -- one row for each parameter of the rule: for shift n of a record, the row that its equation gives
  pub record Table (rows : List (Form m)) (equation : (first : ℕ) → Node → (n : ℕ) → Form m) : Type 0 where
    pub long : length rows ≡ parameters rule
    pub row : (k n : ℕ) → k < length rule → n < count (node_at rule k)
        → form_in m rows (first_of rule k + n) ≡ equation (first_of rule k) (node_at rule k) n

  -- past rows at record e, with the derived rows of the record before and all past rows put in
  abbrev pub PastEquations : (derived past : List (Form m)) → Entry → (before : Neighbour) → Type 0
  PastEquations derived past e before = Table past (past_row m (forms_of m rule (length rule)) derived past e before)

  -- derived rows at record e, with its past rows and all derived rows put in
  abbrev pub DerivedEquations : (past derived : List (Form m)) → Entry → (later : Neighbour) → Type 0
  DerivedEquations past derived e later =
      Table derived (derived_row m past (forms_of m rule (length rule)) derived e later)

  -- record 1 leaves the remainder, and makes its past rows; there are no derived rows before it
  pub record FirstRecord (f : Form m) (e : Entry) (now : Known m) : Type 0 where
    pub last : now.last ≡ e
    pub remainder : now.remainder ≡ f
    pub past : PastEquations [] now.past e none

  -- a later record puts the derived rows of the one before into the remainder, then makes its past rows
  pub record LaterRecord (before : Known m) (e : Entry) (now : Known m) : Type 0 where
    pub derived : List (Form m)
    pub derives : DerivedEquations before.past derived before.last (at e.time)
    pub last : now.last ≡ e
    pub remainder : now.remainder ≡ put m before.remainder derived
    pub past : PastEquations derived now.past e (at before.last.time)

  -- closing derives the last record at the end
  pub record End (before : Known m) (f : Form m) : Type 0 where
    pub derived : List (Form m)
    pub derives : DerivedEquations before.past derived before.last none
    pub remainder : f ≡ put m before.remainder derived

  -- so it is at every record of every log, and at its end
  pub record EveryRecord : Type 0 where
    pub begins : (e : Entry) → FirstRecord (start m rule) e (first m rule e)
    pub goes_on : (e : Entry) (es : List Entry) (x : Entry)
        → LaterRecord (after m rule e es) x (feed m rule (after m rule e es) x)
    pub ends : (e : Entry) (es : List Entry) → End (after m rule e es) (close m rule (after m rule e es))
