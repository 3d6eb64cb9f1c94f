-- States and areas that are handed in, whoever made them: what a record and the end make of those that check 12 lets
-- through.
use Rattle.std.specs.Prelude.{◌≡◌, false, List, ℕ}
use Rattle.meaning.specs.Rule.{Entry}
use Rattle.meaning.specs.Words.{close}
use Rattle.meaning.specs.Whole.{FirstRecord, LaterRecord, End}
use Rattle.rewriting.specs.Known.{form_at, known_in}
use Rattle.watcher.specs.declared.state.Watcher.{Watcher}
use Rattle.watcher.specs.Limits.{most_parameters}
use Rattle.watcher.specs.Numbers.{fresh, running, stage_of}
use Rattle.watcher.specs.State.{rule_of, parameters_of, broken_state}
use Rattle.watcher.specs.Calls.{known_next}
use Rattle.watcher.specs.Machine.{MachineState}

-- the rows are document 01's equations, with all forms and all rows put in, as after a record of a run
pub record Whole (w : Watcher) (ws : List ℕ) : Type 0 where
  pub first : stage_of w.phase ≡ fresh → (e : Entry)
      → FirstRecord (parameters_of w) (rule_of w) (form_at (parameters_of w) ws most_parameters) e
      (known_next (parameters_of w) (rule_of w) ws e fresh)
  pub later : (last : Entry) → stage_of w.phase ≡ running last → (e : Entry)
      → LaterRecord (parameters_of w) (rule_of w) (known_in most_parameters (parameters_of w) ws last) e
      (known_next (parameters_of w) (rule_of w) ws e (running last))
  pub end : (last : Entry) → stage_of w.phase ≡ running last
      → End (parameters_of w) (rule_of w) (known_in most_parameters (parameters_of w) ws last)
      (close (parameters_of w) (rule_of w) (known_in most_parameters (parameters_of w) ws last))

abbrev pub HandedIsWhole : Type 0
HandedIsWhole = (w : Watcher) (ws : List ℕ) → MachineState w → broken_state w ws ≡ false → Whole w ws
