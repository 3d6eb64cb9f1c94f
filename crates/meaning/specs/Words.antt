-- Feeding, closing and the word (document 01, "How the rule is rewritten").
use Rattle.std.specs.Prelude.{Bool, true, false, List, [], ◌∷◌, ℕ, ◌-◌, length}
use Rattle.forms.specs.Form.{Form, constant, same}
use Rattle.forms.specs.Area.{form_in}
use Rattle.forms.specs.Rows.{which_constant}
use Rattle.forms.specs.declared.rows.Truth.{Truth}
use Rattle.forms.specs.declared.rows.Truth.TheVariants.{True, False, Open}
use Rattle.meaning.specs.Rule.{Node, Entry}
use Rattle.meaning.specs.Rewriting.{none, at, put, forms_of, derived_rows, past_rows}

-- what is known after a record of the log: its past rows, the remainder, and the record itself
pub record Known (m : ℕ) : Type 0 where
  pub past : List (Form m)
  pub remainder : Form m
  pub last : Entry

module _ (m : ℕ) (rule : List Node) where
  -- the remainder at start is the rule's form
  unfoldable pub start : Form m
  start = form_in m (forms_of m rule (length rule)) (length rule - 1)

  -- record 1 leaves the remainder, and makes its past rows
  abbrev pub leave : Form m → Entry → Known m
  leave f e = record { past = past_rows m rule [] e none (length rule); remainder = f; last = e }

  unfoldable pub first : Entry → Known m
  first e = leave start e

  -- a later record puts the derived rows of the one before into the remainder, then makes its past rows
  unfoldable pub feed : Known m → Entry → Known m
  feed s e =
      let derived = derived_rows m rule s.past s.last (at e.time) (length rule) in
      record {
        past = past_rows m rule derived e (at s.last.time) (length rule);
        remainder = put m s.remainder derived;
        last = e;
      }

  -- closing derives the last record at the end
  unfoldable pub close : Known m → Form m
  close s = put m s.remainder (derived_rows m rule s.past s.last none (length rule))

  -- the value were this the last record: closing leaves true, or false
  unfoldable pub value_if_last : Known m → Bool
  value_if_last s = same m (close s) (constant m true)

  -- fed record after record
  unfoldable pub fed : Known m → List Entry → Known m
  fed s [] = s
  fed s (e ∷ es) = fed (feed s e) es

  -- what is known after the records e, es
  unfoldable pub after : Entry → List Entry → Known m
  after e es = fed (first e) es

pub data Word : Type 0 where
  kept broken pending : Word

unfoldable pub word_for : Truth → Word
word_for True = kept
word_for False = broken
word_for Open = pending

-- kept if the remainder is true, broken if false, else pending
unfoldable pub word : (m : ℕ) → Form m → Word
word m f = word_for (which_constant m f)

-- the word of a value
unfoldable pub word_of : Bool → Word
word_of true = kept
word_of false = broken
