-- The owner's three demands (document 00), of functions with the types of start, feed, ask and close, on everything
-- that a machine can hand in. `crates/watcher` has the functions, and each demand is proved of any that meet its
-- clauses. Runs are of any calls, asks among them; what is promised of asking itself is in `Asking.antt`.
use Rattle.std.specs.Prelude.{◌≡◌, Bool, true, List, [], ◌∷◌, ◌++◌, ℕ, ◌+◌, ◌<◌, Ok}
use Rattle.meaning.specs.Rule.{Entry, time_at, Climbs}
use Rattle.meaning.specs.Meaning.{value_of}
use Rattle.meaning.specs.Horizon.{within, horizon, AllFinite}
use Rattle.watcher.specs.declared.state.Watcher.{Watcher}
use Rattle.watcher.specs.declared.state.Word.{Word}
use Rattle.watcher.specs.Records.{time_of}
use Rattle.watcher.specs.Numbers.{saying, decided, Says, found_in, found_at, verdict_for}
use Rattle.watcher.specs.Calls.{zero_state, start_with, feed_with, close_with}
use Rattle.watcher.specs.Machine.{MachineBytes, MachineWords, MachineState}
use Rattle.demands.specs.Watching.{Functions, Call, feeding, told, ending, reached, MachineCalls, Begun}
use Rattle.demands.specs.Logs.{last_time, accepts, log_with, going, course_of, log_of}
use Rattle.demands.specs.Rewritten.{read_rule, held_in, word_after}
use Rattle.demands.specs.Signals.{SignalsAreTested, WindIsExact}
use Rattle.demands.specs.Tables.{start_table, feed_table, close_table, NoneHolds, Carries, AsTable}

-- Demand 1: everything handed in gets an answer, and a refusal carries the number from the table, is given exactly
-- when the table says, and changes neither state nor work area; a refused start gives a fresh state of zeros.
pub record Demand1 (f : Functions) : Type 0 where
  pub start : (rule signals ws : List ℕ) → MachineBytes rule → MachineBytes signals → MachineWords ws
      → AsTable (start_table rule signals ws) (f.start rule signals ws).0.found
  pub feed : (w : Watcher) (bytes ws : List ℕ) → MachineState w → MachineBytes bytes → MachineWords ws
      → AsTable (feed_table w bytes ws) (found_in (f.feed w bytes ws).0.answer)
  pub close : (w : Watcher) (ws : List ℕ) → MachineState w → MachineWords ws
      → AsTable (close_table w ws) (found_at (f.close w ws).0.answer)
  pub start_zeros : (rule signals ws : List ℕ) → MachineBytes rule → MachineBytes signals → MachineWords ws → (n : ℕ)
      → Carries (f.start rule signals ws).0.found n
      → ((f.start rule signals ws).0.next ≡ zero_state) × ((f.start rule signals ws).1 ≡ ws)
  pub feed_stays : (w : Watcher) (bytes ws : List ℕ) → MachineState w → MachineBytes bytes → MachineWords ws → (n : ℕ)
      → Carries (found_in (f.feed w bytes ws).0.answer) n
      → ((f.feed w bytes ws).0.next ≡ w) × ((f.feed w bytes ws).1 ≡ ws)
  pub close_stays : (w : Watcher) (ws : List ℕ) → MachineState w → MachineWords ws → (n : ℕ)
      → Carries (found_at (f.close w ws).0.answer) n
      → ((f.close w ws).0.next ≡ w) × ((f.close w ws).1 ≡ ws)

-- Demand 2, of every call that no test refuses, whatever state and area are handed in: answer, next state and the whole
-- area are what the rewriting gives, as `crates/watcher/specs/Calls.antt` has it.
pub record Rewrites (f : Functions) : Type 0 where
  pub start : (rule signals ws : List ℕ) → MachineBytes rule → MachineBytes signals → MachineWords ws
      → NoneHolds (start_table rule signals ws) → f.start rule signals ws ≡ start_with (Ok tt) rule signals ws
  pub feed : (w : Watcher) (bytes ws : List ℕ) → MachineState w → MachineBytes bytes → MachineWords ws
      → NoneHolds (feed_table w bytes ws) → f.feed w bytes ws ≡ feed_with (Ok tt) w bytes ws
  pub close : (w : Watcher) (ws : List ℕ) → MachineState w → MachineWords ws
      → NoneHolds (close_table w ws) → f.close w ws ≡ close_with (Ok tt) w ws

-- Of a run: start accepted rule and signals, then come any calls, with state and work area handed on untouched.
module _ (f : Functions) (rule signals ws : List ℕ) where
  -- closing the log reports the value that the rule has at its first record
  abbrev pub ClosingReports : Type 0
  ClosingReports =
      Begun f rule signals ws → (calls : List Call) → MachineCalls calls → (e : Entry) (es : List Entry)
      → course_of signals calls ≡ going (e ∷ es)
      → ending f (reached f rule signals ws calls) ≡ Ok (verdict_for (value_of (e ∷ es) (read_rule rule)))

  -- after any calls state and work area are exactly what the rewriting gives for the accepted records
  abbrev pub StateIsRewritten : Type 0
  StateIsRewritten =
      Begun f rule signals ws → (calls : List Call) → MachineCalls calls
      → reached f rule signals ws calls ≡ held_in rule signals (course_of signals calls)

  -- and so is the word after each accepted record
  abbrev pub WordIsRewritten : Type 0
  WordIsRewritten =
      Begun f rule signals ws → (calls : List Call) → MachineCalls calls → (log : List Entry)
      → course_of signals calls ≡ going log → (bytes : List ℕ) → MachineBytes bytes → accepts log bytes ≡ true
      → Says (told f (reached f rule signals ws calls) bytes) (saying (word_after rule (log_with signals log bytes)))

pub record Demand2 (f : Functions) : Type 0 where
  pub calls : Rewrites f
  pub reports : (rule signals ws : List ℕ) → ClosingReports f rule signals ws
  pub state : (rule signals ws : List ℕ) → StateIsRewritten f rule signals ws
  pub word : (rule signals ws : List ℕ) → WordIsRewritten f rule signals ws
  pub signals : SignalsAreTested
  pub wind : WindIsExact

-- Demand 3, of a run in which a record gets the word kept (broken).
pub record Decides (f : Functions) (rule signals ws : List ℕ) (calls : List Call) (bytes : List ℕ) (b : Bool) : Type 0
  where
    pub begun : Begun f rule signals ws
    pub called : MachineCalls calls
    pub fed : MachineBytes bytes
    pub says : Says (told f (reached f rule signals ws calls) bytes) (decided b)

module _ (f : Functions) (rule signals ws : List ℕ) where
  -- every continuation with times that never fall, and stopping there, makes the rule true (false) of the whole log
  abbrev pub WordHolds : Type 0
  WordHolds =
      (calls : List Call) (bytes : List ℕ) (b : Bool) → Decides f rule signals ws calls bytes b → (more : List Entry)
      → Climbs (last_time (log_of signals (calls ++ (feeding bytes ∷ [])))) more
      → value_of (log_of signals (calls ++ (feeding bytes ∷ [])) ++ more) (read_rule rule) ≡ b

  -- no later record alters that word, whatever is called in between
  abbrev pub WordStays : Type 0
  WordStays =
      (calls : List Call) (bytes : List ℕ) (b : Bool) → Decides f rule signals ws calls bytes b → (more : List Call)
      → MachineCalls more → (later : List ℕ) → MachineBytes later → (w : Word)
      → Says (told f (reached f rule signals ws (calls ++ (feeding bytes ∷ more))) later) w → w ≡ decided b

  -- and closing agrees with it, as long as nobody has closed the log before
  abbrev pub ClosingAgrees : Type 0
  ClosingAgrees =
      (calls : List Call) (bytes : List ℕ) (b : Bool) → Decides f rule signals ws calls bytes b → (more : List Call)
      → MachineCalls more → (log : List Entry) → course_of signals (calls ++ (feeding bytes ∷ more)) ≡ going log
      → ending f (reached f rule signals ws (calls ++ (feeding bytes ∷ more))) ≡ Ok (verdict_for b)

  -- a record whose time is past the first accepted record's by more than h minutes is decided
  abbrev pub DecidedBy : ℕ → Type 0
  DecidedBy h =
      (calls : List Call) → MachineCalls calls → (bytes : List ℕ) → MachineBytes bytes → (w : Word)
      → Says (told f (reached f rule signals ws calls) bytes) w
      → time_at (log_of signals (calls ++ (feeding bytes ∷ []))) 0 + h < time_of bytes → (b : Bool) × (w ≡ decided b)

  -- a rule whose forward limits are all finite has a horizon, and is decided by it
  abbrev pub FiniteIsDecided : Type 0
  FiniteIsDecided =
      Begun f rule signals ws → AllFinite (read_rule rule)
      → (h : ℕ) × (horizon (read_rule rule) ≡ within h) × DecidedBy h

  -- and so is any rule with a horizon: limits that the last record does not reach do not count
  abbrev pub HorizonDecides : Type 0
  HorizonDecides = Begun f rule signals ws → (h : ℕ) → horizon (read_rule rule) ≡ within h → DecidedBy h

pub record Demand3 (f : Functions) : Type 0 where
  pub holds : (rule signals ws : List ℕ) → WordHolds f rule signals ws
  pub stays : (rule signals ws : List ℕ) → WordStays f rule signals ws
  pub agrees : (rule signals ws : List ℕ) → ClosingAgrees f rule signals ws
  pub finite : (rule signals ws : List ℕ) → FiniteIsDecided f rule signals ws
  pub horizon : (rule signals ws : List ℕ) → HorizonDecides f rule signals ws

-- all three
pub record Demands (f : Functions) : Type 0 where
  pub first : Demand1 f
  pub second : Demand2 f
  pub third : Demand3 f
