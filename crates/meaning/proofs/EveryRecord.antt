-- What is known at every record of every log is document 01's, with all forms and all rows put in.
-- Assumes nothing.
use mathlib.Core.Path.{refl}
use mathlib.Core.List.{List, []}
use Prim.Native.Nat.{ℕ, ◌≤◌}
use native.Mathlib.Omega.{arith}
use lib.ListN.{length}
use Rattle.forms.specs.Form.{Form}
use Rattle.meaning.specs.Rule.{Node, Ordered, first_of, parameters, Entry}
use Rattle.meaning.specs.Rewriting.{Neighbour, none, at, derived_rows, past_rows}
use Rattle.meaning.specs.Words.{Known, leave, first, start, feed, close, after}
use Rattle.meaning.specs.Shape.{KnownShape}
use Rattle.meaning.specs.Whole.{PastEquations, DerivedEquations, FirstRecord, LaterRecord, End, EveryRecord}
use Rattle.meaning.proofs.Blocks.{first_of_fits, length_derived_rows, length_past_rows}
use Rattle.meaning.proofs.Shapes.{after_shape}
use Rattle.meaning.proofs.Reach.{LooksBack, none_back, derived_back}
use Rattle.meaning.proofs.Whole.{derived_whole, past_whole}

pub fits_each : (rule : List Node) (m : ℕ) → parameters rule ≤ m → (k : ℕ) → first_of rule k ≤ m
fits_each rule m h k = omega (arith, first_of_fits rule k)

module _ (rule : List Node) (ordered : Ordered rule) (m : ℕ) (fits : parameters rule ≤ m) where
  derived_equations : (s : Known m) (later : Neighbour) → KnownShape rule m s
      → DerivedEquations m rule s.past (derived_rows m rule s.past s.last later (length rule)) s.last later
  unfolding parameters
  derived_equations s later shape =
      record {
        long = length_derived_rows m rule s.past s.last later (length rule);
        row = derived_whole rule ordered m (fits_each rule m fits) (length rule) s.past s.last later shape;
      }

  past_equations : (derived : List (Form m)) (e : Entry) (before : Neighbour) → LooksBack rule m derived (length rule)
      → PastEquations m rule derived (past_rows m rule derived e before (length rule)) e before
  unfolding parameters
  past_equations derived e before back =
      record {
        long = length_past_rows m rule derived e before (length rule);
        row = past_whole rule ordered m (fits_each rule m fits) (length rule) derived e before back;
      }

  -- record 1, whatever the remainder was
  pub first_record : (f : Form m) (e : Entry) → FirstRecord m rule f e (leave m rule f e)
  first_record f e =
      let back : LooksBack rule m [] (length rule) = none_back rule m (length rule) in
      record { last = refl; remainder = refl; past = past_equations [] e none back }

  module _ (s : Known m) (shape : KnownShape rule m s) where
    -- a later record, and the end, for all past rows of the shape
    pub later_record : (e : Entry) → LaterRecord m rule s e (feed m rule s e)
    unfolding feed
    later_record e =
        let derived : List (Form m) = derived_rows m rule s.past s.last (at e.time) (length rule) in
        record {
          derived = derived;
          derives = derived_equations s (at e.time) shape;
          last = refl;
          remainder = refl;
          past =
              past_equations derived e (at s.last.time)
              (derived_back rule ordered m (fits_each rule m fits) s.past s.last (at e.time) (length rule));
        }

    pub end : End m rule s (close m rule s)
    unfolding close
    end =
        record {
          derived = derived_rows m rule s.past s.last none (length rule);
          derives = derived_equations s none shape;
          remainder = refl;
        }

  pub every_record : EveryRecord m rule
  unfolding first
  every_record =
      record {
        begins = λ e. first_record (start m rule) e;
        goes_on = λ e es x. later_record (after m rule e es) (after_shape rule m (fits_each rule m fits) e es) x;
        ends = λ e es. end (after m rule e es) (after_shape rule m (fits_each rule m fits) e es);
      }
