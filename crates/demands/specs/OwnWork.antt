-- What a run refuses and by which number, and what every state of it tells: the watcher never refuses its own work.
use Rattle.std.specs.Prelude.{◌≡◌, true, false, List, [], ℕ, ◌<◌}
use Rattle.forms.specs.Area.{row_at}
use Rattle.meaning.specs.Rule.{Entry}
use Rattle.meaning.specs.Horizon.{horizon}
use Rattle.watcher.specs.Limits.{most_parameters}
use Rattle.watcher.specs.Records.{wrong_record, time_of}
use Rattle.watcher.specs.State.{broken_state}
use Rattle.watcher.specs.Calls.{wrong_area, wait_of}
use Rattle.watcher.specs.Machine.{MachineBytes}
use Rattle.watcher.specs.Numbers.{found_in, found_at}
use Rattle.demands.specs.Watching.{Functions, Call, closing, told, asked, ending, handed, reached}
use Rattle.demands.specs.Watching.{MachineCalls, Begun}
use Rattle.demands.specs.Logs.{last_time, going, over, course_of}
use Rattle.demands.specs.Rewritten.{read_rule}
use Rattle.demands.specs.Tables.{Carries}

-- after start and any calls
pub record OwnWork (f : Functions) (rule signals ws : List ℕ) (calls : List Call) : Type 0 where
  -- refusals 7 and 12 are not given
  pub whole : wrong_area (reached f rule signals ws calls).area ≡ false
  pub sound : broken_state (reached f rule signals ws calls).state (reached f rule signals ws calls).area ≡ false
  -- a wrong record is refused with 8, and one that is too early with 9
  pub wrong : (log : List Entry) → course_of signals calls ≡ going log → (bytes : List ℕ) → MachineBytes bytes
      → wrong_record bytes ≡ true → Carries (found_in (told f (reached f rule signals ws calls) bytes)) 8
  pub early : (log : List Entry) → course_of signals calls ≡ going log → (bytes : List ℕ) → MachineBytes bytes
      → wrong_record bytes ≡ false → time_of bytes < last_time log
      → Carries (found_in (told f (reached f rule signals ws calls) bytes)) 9
  -- after closing, records and closing are refused with 10; without a record, closing with 11
  pub closed : (e : Entry) (es : List Entry) → course_of signals calls ≡ over e es → (bytes : List ℕ)
      → MachineBytes bytes → Carries (found_in (told f (reached f rule signals ws calls) bytes)) 10
  pub again : (e : Entry) (es : List Entry) → course_of signals calls ≡ over e es
      → Carries (found_at (ending f (reached f rule signals ws calls))) 10
  pub nothing : course_of signals calls ≡ going [] → Carries (found_at (ending f (reached f rule signals ws calls))) 11
  -- asking is answered as closing would be
  pub asks : asked f (reached f rule signals ws calls) ≡ ending f (reached f rule signals ws calls)
  -- closing leaves the past rows as they were
  pub past : (j : ℕ) → j < most_parameters
      → row_at (handed f (reached f rule signals ws calls) closing).area j
      ≡ row_at (reached f rule signals ws calls).area j
  -- the wait that the state tells is the rule's horizon
  pub waits : wait_of (reached f rule signals ws calls).state ≡ horizon (read_rule rule)

-- of every run
abbrev pub OwnWorkIsFine : Functions → Type 0
OwnWorkIsFine f =
    (rule signals ws : List ℕ) → Begun f rule signals ws → (calls : List Call) → MachineCalls calls
    → OwnWork f rule signals ws calls
