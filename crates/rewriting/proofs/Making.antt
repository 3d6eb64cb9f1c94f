-- Rows that are made, whichever they are: where they stand, a record's by its shifts, and a rule's by its records.
-- Assumes nothing.
use mathlib.Core.Path.{◌≡◌, sym, ap, subst}
use mathlib.Core.Logic.{◌⊎◌, inl, inr}
use mathlib.Core.List.{List}
use Prim.Native.Nat.{ℕ, ◌+◌, ◌*◌, ◌≤◌, ◌<◌}
use native.Mathlib.Nat.{le_refl}
use native.Mathlib.Omega.{arith}
use lib.ListN.{length}
use Rattle.forms.specs.Form.{Form}
use Rattle.forms.specs.Words.{pack}
use Rattle.forms.specs.Area.{put_rows, form_in, Holds}
use Rattle.forms.specs.declared.area.Rows.{Rows}
use Rattle.meaning.specs.Rule.{Node, Entry, node_at, count, first_of}
use Rattle.meaning.specs.Rewriting.{Neighbour, forms_of}
use Rattle.meaning.proofs.Blocks.{length_derived_rows, length_past_rows}
use Rattle.meaning.proofs.Whole.{derived_more, derived_made, past_more, past_made}
use Rattle.rewriting.specs.declared.row.Row.{Row}
use Rattle.rewriting.specs.declared.row.Row.TheVariants.{Derived, Past}
use Rattle.rewriting.specs.declared.step.Step.{Step}
use Rattle.rewriting.specs.Decode.{node_for}
use Rattle.rewriting.specs.Known.{words_for}
use Rattle.rewriting.specs.inside.Steps.{entry_in, own_at, other_at, Are, row_by, made_of}
use Rattle.rewriting.specs.inside.Walks.{Apart, made_row, Puts, table_of}
use Rattle.rewriting.specs.inside.Steps.{at_shift}
use Rattle.rewriting.proofs.Written.{wrote_none, wrote_more, held_kept}

-- their place is no later than the scratch, the area has room for them, and they lie apart from the others
pub own_room : (row : Row) (places first : ℕ) (ws : List ℕ) → length ws ≡ words_for places → first ≤ places
    → 64 * (own_at row (places + 1) + first) ≤ length ws
unfolding words_for
own_room Derived places first ws e h = omega arith
own_room Past places first ws e h = omega arith

pub rows_apart : (row : Row) (scratch held at n : ℕ) → held ≤ scratch → own_at row scratch ≤ at
    → at + n ≤ own_at row scratch + scratch → (other_at row scratch + held ≤ at) ⊎ (at + n ≤ other_at row scratch)
rows_apart Derived scratch held at n h l u = inl (omega arith)
rows_apart Past scratch held at n h l u = inr (omega arith)

-- the answer is the step's row, from rows of its own that the area has from base on, and others from far on
abbrev pub FromArea : Row → Step → Rows → List ℕ → (base count far held : ℕ) → List ℕ → Type 0
FromArea row step before area base count far held r =
    (own other forms : List (Form step.m)) → Holds step.m area base count own → Holds step.m area far held other
    → Are step.m before forms
    → r ≡ pack step.m (made_of row step own other forms (node_for step.record) step.shift)

-- a record's rows: none, one more, and all of them
module _ (row : Row) (step : Step) (before : Rows) (ws : List ℕ) (scratch held : ℕ) where
  pub puts_none : Puts row step 0 before ws scratch held ws
  puts_none own other forms h hf = wrote_none ws (own_at row scratch + step.first) (made_row row step own other forms)

  pub puts_more : (count n base far : ℕ) (area next made : List ℕ) → Apart step count scratch held → n < count
      → base ≡ own_at row scratch → far ≡ other_at row scratch → Puts row step n before ws scratch held area
      → (turn : Step) (byte : n < 256) → turn ≡ at_shift step n byte
      → FromArea row turn before area base step.first far held made
      → next ≡ put_rows area (base + step.first + n) 1 (λ _. made)
      → Puts row step (n + 1) before ws scratch held next
  unfolding made_row made_of entry_in
  puts_more count n base far area next made apart less e f old turn byte is new q own other forms h hf =
      wrote_more ws at rows n (base + step.first + n) area next made put
      (ap (λ x. x + step.first + n) e) q
      (subst (λ s. FromArea row s before area base step.first far held made) is new own other forms
      (subst (λ x. Holds step.m area x step.first own) (sym e) mine)
      (subst (λ x. Holds step.m area x held other) (sym f) theirs) hf)
    where
      at : ℕ
      at = own_at row scratch + step.first

      rows : ℕ → List ℕ
      rows = made_row row step own other forms

      put : area ≡ put_rows ws (own_at row scratch + step.first) n (made_row row step own other forms)
      put = old own other forms h hf

      mine : Holds step.m area (own_at row scratch) step.first own
      mine =
          held_kept step.m ws (own_at row scratch) step.first own rows at n area put (inl (le_refl at)) h.mine

      theirs : Holds step.m area (other_at row scratch) held other
      theirs =
          held_kept step.m ws (other_at row scratch) held other rows at n area put
          (rows_apart row scratch held at n apart.before (omega arith) (omega (arith, apart.behind)))
          h.theirs

-- a rule's rows: those of more records begin with those of fewer, and each is made from them
pub length_table : (row : Row) (m : ℕ) (rule : List Node) (other : List (Form m)) (e : Entry) (near : Neighbour)
    (k : ℕ)
    → length (table_of row m rule other e near k) ≡ first_of rule k
unfolding table_of
length_table Derived = length_derived_rows
length_table Past = length_past_rows

pub table_more : (row : Row) (m : ℕ) (rule : List Node) (other : List (Form m)) (e : Entry) (near : Neighbour)
    (k K q : ℕ) → k ≤ K → q < first_of rule k
    → form_in m (table_of row m rule other e near K) q ≡ form_in m (table_of row m rule other e near k) q
unfolding table_of
table_more Derived = derived_more
table_more Past = past_more

pub table_made : (row : Row) (m : ℕ) (rule : List Node) (other : List (Form m)) (e : Entry) (near : Neighbour)
    (k K n : ℕ) → k < K → n < count (node_at rule k)
    → form_in m (table_of row m rule other e near K) (first_of rule k + n)
    ≡ row_by row m (table_of row m rule other e near k) other (forms_of m rule k) e near (first_of rule k)
    (node_at rule k) n
unfolding table_of row_by
table_made Derived = derived_made
table_made Past = past_made
