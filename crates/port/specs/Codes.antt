-- The codes that exports answer: a word's or a verdict's, a test's, a refusal's number, and 0 where nothing is refused.
use Rattle.std.specs.Prelude.{ℕ, ◌-◌, ◌^◌, Result, Ok, Err}
use Rattle.meaning.specs.Horizon.{Horizon, within, never}
use Rattle.watcher.specs.declared.readings.Tested.{Tested}
use Rattle.watcher.specs.declared.readings.Tested.TheVariants.{Holds, DoesNotHold, NoReading}
use Rattle.watcher.specs.declared.state.Word.{Word}
use Rattle.watcher.specs.declared.state.Word.TheVariants as word
use Rattle.watcher.specs.declared.state.Verdict.{Verdict}
use Rattle.watcher.specs.declared.state.Refusal.{Refusal}
use Rattle.watcher.specs.Answers.{Found, Answer, End}
use Rattle.watcher.specs.Numbers.{verdict_value, refusal_number, decided}

-- refusals of the exports' own: codes that are not one for each piece of the log, and a state that is not 280 bytes
abbrev pub codes_length : ℕ
codes_length = 90

abbrev pub state_length : ℕ
state_length = 91

abbrev pub word_code : Word → ℕ
word_code word.Kept = 101
word_code word.Broken = 102
word_code word.Pending = 103

-- the code of a test of a signal
abbrev pub test_code : Tested → ℕ
test_code Holds = 111
test_code DoesNotHold = 112
test_code NoReading = 113

-- a verdict has the code of the word that says the same
unfoldable pub verdict_code : Verdict → ℕ
verdict_code v = word_code (decided (verdict_value v))

unfoldable pub found_code : Found → ℕ
found_code (Ok tt) = 0
found_code (Err r) = refusal_number r

-- what an answer tells: a word, or a refusal
abbrev pub Told : Type 0
Told = Result Word Refusal

-- what the answer to a record tells, and the answer to asking or closing: a verdict is the word that says the same
unfoldable pub told_of : Answer → Told
told_of (Ok report) = Ok report.word
told_of (Err r) = Err r

unfoldable pub told_at : End → Told
told_at (Ok v) = Ok (decided (verdict_value v))
told_at (Err r) = Err r

-- the code of what is told
unfoldable pub told_code : Told → ℕ
told_code (Ok w) = word_code w
told_code (Err r) = refusal_number r

unfoldable pub answer_code : Answer → ℕ
answer_code a = told_code (told_of a)

unfoldable pub end_code : End → ℕ
end_code e = told_code (told_at e)

-- a horizon in minutes; the largest number where there is none
unfoldable pub horizon_code : Horizon → ℕ
horizon_code (within h) = h
horizon_code never = 2 ^ 64 - 1
