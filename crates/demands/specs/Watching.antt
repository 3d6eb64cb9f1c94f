-- Functions with the types of start, feed, ask and close: what it is to meet their clauses, and runs of them.
use Rattle.std.specs.Prelude.{◌≡◌, List, [], ◌∷◌, ℕ, Ok}
use Rattle.watcher.specs.declared.state.Watcher.{Watcher}
use Rattle.watcher.specs.declared.state.Started.{Started}
use Rattle.watcher.specs.declared.state.Fed.{Fed}
use Rattle.watcher.specs.declared.state.Ended.{Ended}
use Rattle.watcher.specs.Answers.{Answer, End}
use Rattle.watcher.specs.Machine.{MachineBytes, MachineWords, MachineState}
use Rattle.watcher.specs.Calls.{start_of, feed_of, ask_of, close_of}
use Rattle.watcher.specs.Clauses.{StartClause, FeedClause, AskClause, CloseClause}
use Rattle.watcher.specs.Runs.{Held}

-- what each answers, the next state of those that have one, and the work area afterwards
pub record Functions : Type 0 where
  pub start : (rule signals ws : List ℕ) → Started × List ℕ
  pub feed : Watcher → (bytes ws : List ℕ) → Fed × List ℕ
  pub ask : Watcher → List ℕ → End × List ℕ
  pub close : Watcher → List ℕ → Ended × List ℕ

-- they meet the clauses of start, feed, ask and close on everything that a machine can hand in
pub record Meets (f : Functions) : Type 0 where
  pub starts : (rule signals ws : List ℕ) → MachineBytes rule → MachineBytes signals → MachineWords ws
      → StartClause rule signals ws (f.start rule signals ws)
  pub feeds : (w : Watcher) (bytes ws : List ℕ) → MachineState w → MachineBytes bytes → MachineWords ws
      → FeedClause w bytes ws (f.feed w bytes ws)
  pub asks : (w : Watcher) (ws : List ℕ) → MachineState w → MachineWords ws → AskClause w ws (f.ask w ws)
  pub closes : (w : Watcher) (ws : List ℕ) → MachineState w → MachineWords ws → CloseClause w ws (f.close w ws)

-- the definitions themselves
unfoldable pub defined : Functions
defined = record { start = start_of; feed = feed_of; ask = λ w ws. (ask_of w ws, ws); close = close_of }

-- a call after start
pub data Call : Type 0 where
  feeding : List ℕ → Call
  asking : Call
  closing : Call

module _ (f : Functions) where
  -- the answer to a record, to asking, and to closing
  abbrev pub told : Held → List ℕ → Answer
  told h bytes = (f.feed h.state bytes h.area).0.answer

  abbrev pub asked : Held → End
  asked h = (f.ask h.state h.area).0

  abbrev pub ending : Held → End
  ending h = (f.close h.state h.area).0.answer

  -- state and work area after one call, and after calls one after another, whatever each is answered
  unfoldable pub handed : Held → Call → Held
  handed h (feeding bytes) =
      record { state = (f.feed h.state bytes h.area).0.next; area = (f.feed h.state bytes h.area).1 }
  handed h asking = record { state = h.state; area = (f.ask h.state h.area).1 }
  handed h closing = record { state = (f.close h.state h.area).0.next; area = (f.close h.state h.area).1 }

  unfoldable pub handed_on : Held → List Call → Held
  handed_on h [] = h
  handed_on h (c ∷ more) = handed_on (handed h c) more

  -- after start and these calls, with state and work area handed on untouched
  unfoldable pub reached : (rule signals ws : List ℕ) → List Call → Held
  reached rule signals ws calls =
      handed_on (record { state = (f.start rule signals ws).0.next; area = (f.start rule signals ws).1 }) calls

-- what a machine can feed
unfoldable pub MachineCall : Call → Type 0
MachineCall (feeding bytes) = MachineBytes bytes
MachineCall asking = Unit {0}
MachineCall closing = Unit {0}

unfoldable pub MachineCalls : List Call → Type 0
MachineCalls [] = Unit {0}
MachineCalls (c ∷ more) = MachineCall c × MachineCalls more

-- a machine's rule, signals and work area that start accepts
pub record Begun (f : Functions) (rule signals ws : List ℕ) : Type 0 where
  pub rule_bytes : MachineBytes rule
  pub signal_bytes : MachineBytes signals
  pub words : MachineWords ws
  pub fine : (f.start rule signals ws).0.found ≡ Ok tt
