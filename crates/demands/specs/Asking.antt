-- What is promised of asking (document 02, R-8): how the log would end now, and nothing is altered by it.
use Rattle.std.specs.Prelude.{◌≡◌, Bool, List, [], ◌∷◌, ◌++◌, ℕ, Ok}
use Rattle.meaning.specs.Rule.{Entry}
use Rattle.meaning.specs.Meaning.{value_of}
use Rattle.watcher.specs.declared.state.Watcher.{Watcher}
use Rattle.watcher.specs.Numbers.{found_at, verdict_for}
use Rattle.watcher.specs.Machine.{MachineWords, MachineState}
use Rattle.watcher.specs.Runs.{Held}
use Rattle.demands.specs.Watching.{Functions, Call, feeding, asking, closing, asked, handed_on, reached}
use Rattle.demands.specs.Watching.{MachineCalls, Begun}
use Rattle.demands.specs.Logs.{going, course_of}
use Rattle.demands.specs.Rewritten.{read_rule}
use Rattle.demands.specs.Tables.{close_table, AsTable}
use Rattle.demands.specs.Demands.{Decides}

-- calls without the asks among them
unfoldable pub without_asks : List Call → List Call
without_asks [] = []
without_asks (feeding bytes ∷ more) = feeding bytes ∷ without_asks more
without_asks (asking ∷ more) = without_asks more
without_asks (closing ∷ more) = closing ∷ without_asks more

module _ (f : Functions) (rule signals ws : List ℕ) where
  -- demand 2: after any calls asking gives the value that the rule has at the first of the records so far
  abbrev pub AskingReports : Type 0
  AskingReports =
      Begun f rule signals ws → (calls : List Call) → MachineCalls calls → (e : Entry) (es : List Entry)
      → course_of signals calls ≡ going (e ∷ es)
      → asked f (reached f rule signals ws calls) ≡ Ok (verdict_for (value_of (e ∷ es) (read_rule rule)))

  -- demand 3: after a record with the word kept (broken) asking agrees with it, until somebody closes the log
  abbrev pub AskingAgrees : Type 0
  AskingAgrees =
      (calls : List Call) (bytes : List ℕ) (b : Bool) → Decides f rule signals ws calls bytes b → (more : List Call)
      → MachineCalls more → (log : List Entry) → course_of signals (calls ++ (feeding bytes ∷ more)) ≡ going log
      → asked f (reached f rule signals ws (calls ++ (feeding bytes ∷ more))) ≡ Ok (verdict_for b)

-- of every state and area that a machine can hand in, and of every run
pub record Asking (f : Functions) : Type 0 where
  -- demand 1: a refusal is given as document 01's table says of closing
  pub tabled : (w : Watcher) (ws : List ℕ) → MachineState w → MachineWords ws
      → AsTable (close_table w ws) (found_at (f.ask w ws).0)
  -- refused or not, it leaves the area as it was, scratch too
  pub leaves : (w : Watcher) (ws : List ℕ) → MachineState w → MachineWords ws → (f.ask w ws).1 ≡ ws
  -- it answers what closing would
  pub closes : (w : Watcher) (ws : List ℕ) → MachineState w → MachineWords ws
      → (f.ask w ws).0 ≡ (f.close w ws).0.answer
  -- asks alter no later answer: calls bring state and area to the same without them
  pub alters_nothing : (h : Held) → MachineState h.state → MachineWords h.area → (calls : List Call)
      → MachineCalls calls → handed_on f h calls ≡ handed_on f h (without_asks calls)
  pub reports : (rule signals ws : List ℕ) → AskingReports f rule signals ws
  pub agrees : (rule signals ws : List ℕ) → AskingAgrees f rule signals ws
