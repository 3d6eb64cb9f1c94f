-- Document 01's number or value for each case of an answer, and what an answer says.
use Rattle.std.specs.Prelude.{◌≡◌, ℕ, Bool, true, false, List, map, Option, Some, None, Ok, Err}
use Rattle.meaning.specs.Rule.{Entry}
use Rattle.meaning.specs.Horizon.{Horizon, within, never}
use Rattle.meaning.specs.Words as words
use Rattle.watcher.specs.declared.state.Word.{Word}
use Rattle.watcher.specs.declared.state.Word.TheVariants as word
use Rattle.watcher.specs.declared.state.Phase.{Phase}
use Rattle.watcher.specs.declared.state.Phase.TheVariants as phase
use Rattle.watcher.specs.declared.state.Verdict.{Verdict}
use Rattle.watcher.specs.declared.state.Verdict.TheVariants as verdict
use Rattle.watcher.specs.declared.state.Refusal.{Refusal}
use Rattle.watcher.specs.declared.state.Refusal.TheVariants.{RuleLength, RuleRecord, RuleTwins, RuleParameters}
use Rattle.watcher.specs.declared.state.Refusal.TheVariants.{SignalList, SignalMissing}
use Rattle.watcher.specs.declared.state.Refusal.TheVariants.{AreaLength, LogRecord, LogTime}
use Rattle.watcher.specs.declared.state.Refusal.TheVariants.{AlreadyClosed, NothingFed, BrokenState}
use Rattle.watcher.specs.Answers.{Found, Answer, End}
use Rattle.watcher.specs.Lists.{Test}

-- the word of the meaning
unfoldable pub word_of : Word → words.Word
word_of word.Kept = words.kept
word_of word.Broken = words.broken
word_of word.Pending = words.pending

-- the word that says so
unfoldable pub saying : words.Word → Word
saying words.kept = word.Kept
saying words.broken = word.Broken
saying words.pending = word.Pending

-- the word of a decided rule: kept if its value is true, broken if false
unfoldable pub decided : Bool → Word
decided true = word.Kept
decided false = word.Broken

-- the record was accepted with this word
unfoldable pub Says : Answer → Word → Type 0
Says (Ok report) w = report.word ≡ w
Says (Err r) w = ⊥

-- what an answer to a record, and to closing, says of the tests
unfoldable pub found_in : Answer → Found
found_in (Ok report) = Ok tt
found_in (Err r) = Err r

unfoldable pub found_at : End → Found
found_at (Ok v) = Ok tt
found_at (Err r) = Err r

-- the value that a verdict says the log has
unfoldable pub verdict_value : Verdict → Bool
verdict_value verdict.Kept = true
verdict_value verdict.Broken = false

-- the verdict that says so
unfoldable pub verdict_for : Bool → Verdict
verdict_for true = verdict.Kept
verdict_for false = verdict.Broken

-- the horizon that an answer gives
unfoldable pub horizon_for : Option ℕ → Horizon
horizon_for None = never
horizon_for (Some h) = within h

-- what a phase says of the log: nothing fed, its last record, or its value at the end
pub data Stage : Type 0 where
  fresh : Stage
  running : Entry → Stage
  closed : Bool → Stage

unfoldable pub stage_of : Phase → Stage
stage_of phase.Fresh = fresh
stage_of (phase.Running time signals) = running (record { time = time; signals = signals })
stage_of (phase.Closed v) = closed (verdict_value v)

-- the last record; zeros where there is none
unfoldable pub last_in : Stage → Entry
last_in fresh = record { time = 0; signals = 0 }
last_in (running e) = e
last_in (closed b) = record { time = 0; signals = 0 }

-- the refusal numbers
unfoldable pub refusal_number : Refusal → ℕ
refusal_number RuleLength = 1
refusal_number RuleRecord = 2
refusal_number RuleTwins = 3
refusal_number RuleParameters = 4
refusal_number SignalList = 5
refusal_number SignalMissing = 6
refusal_number AreaLength = 7
refusal_number LogRecord = 8
refusal_number LogTime = 9
refusal_number AlreadyClosed = 10
refusal_number NothingFed = 11
refusal_number BrokenState = 12

-- the numbers of a list of tests, in its order
abbrev pub numbers_of : List Test → List ℕ
numbers_of tests = map (λ t. refusal_number t.gives) tests
