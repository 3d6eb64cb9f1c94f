-- The clause of each public function: of what is handed in, and the answer with the whole area at exit.
use Rattle.std.specs.Prelude.{◌≡◌, Bool, List, ℕ, Option, is_err}
use Rattle.rewriting.specs.declared.step.Moment.{Moment}
use Rattle.rewriting.specs.Plans.{entry_for}
use Rattle.watcher.specs.declared.readings.Tested.{Tested}
use Rattle.watcher.specs.declared.state.Watcher.{Watcher}
use Rattle.watcher.specs.declared.state.Started.{Started}
use Rattle.watcher.specs.declared.state.Fed.{Fed}
use Rattle.watcher.specs.Answers.{Found, End}
use Rattle.watcher.specs.declared.state.Ended.{Ended}
use Rattle.watcher.specs.declared.state.Refusal.{Refusal}
use Rattle.watcher.specs.declared.state.Word.{Word}
use Rattle.watcher.specs.declared.state.Verdict.{Verdict}
use Rattle.watcher.specs.declared.state.Phase.{Phase}
use Rattle.watcher.specs.declared.state.Limits.{Limits}
use Rattle.watcher.specs.Limits.{limits_of}
use Rattle.watcher.specs.Lists.{rule_refusal, lists_refusal}
use Rattle.watcher.specs.Signals.{wrong_signals}
use Rattle.watcher.specs.Records.{wrong_record, time_of, test_of, signal_word}
use Rattle.watcher.specs.Numbers.{refusal_number, verdict_for, decided, verdict_value, stage_of, last_in, horizon_for}
use Rattle.watcher.specs.Calls.{zero_state, start_refusal, start_of, feed_refusal, feed_of, ask_of, close_of, wait_of}

-- the limits, as numbers
abbrev pub LimitsClause : Limits → Type 0
LimitsClause o = o ≡ limits_of

-- whether something is refused
abbrev pub IsRefusedClause : Found → Bool → Type 0
IsRefusedClause found o = o ≡ is_err found

-- the verdict that says a value
abbrev pub VerdictClause : (value : Bool) → Verdict → Type 0
VerdictClause value o = o ≡ verdict_for value

-- the word that says what a verdict says
abbrev pub WordClause : Verdict → Word → Type 0
WordClause verdict o = o ≡ decided (verdict_value verdict)

-- a phase's last record
abbrev pub LastClause : Phase → Moment → Type 0
LastClause phase o = entry_for o ≡ last_in (stage_of phase)

-- a fresh state of zeros
abbrev pub ZeroStateClause : Watcher → Type 0
ZeroStateClause o = o ≡ zero_state

-- what is refused of a rule by itself
abbrev pub CheckRuleClause : (rule : List ℕ) → Found → Type 0
CheckRuleClause rule o = o ≡ rule_refusal rule

-- what is refused of the lists that start is given
abbrev pub CheckListsClause : (rule signals : List ℕ) → Found → Type 0
CheckListsClause rule signals o = o ≡ lists_refusal rule signals

-- the number of a refusal
abbrev pub NumberClause : Refusal → ℕ → Type 0
NumberClause refusal o = o ≡ refusal_number refusal

-- whether bytes are no log record
abbrev pub WrongRecordClause : List ℕ → Bool → Type 0
WrongRecordClause bytes o = o ≡ wrong_record bytes

-- a log record's time
abbrev pub TimeOfClause : List ℕ → ℕ → Type 0
TimeOfClause bytes o = o ≡ time_of bytes

-- whether bytes are no signal list
abbrev pub WrongSignalsClause : List ℕ → Bool → Type 0
WrongSignalsClause list o = o ≡ wrong_signals list

-- a test of a signal in a log record
abbrev pub TestSignalClause : (list : List ℕ) (signals : ℕ) (bytes : List ℕ) (n : ℕ) → Tested → Type 0
TestSignalClause list signals bytes n o = o ≡ test_of list signals bytes n

-- the signals that hold in a log record
abbrev pub SignalWordClause : (list : List ℕ) (signals : ℕ) (bytes : List ℕ) → ℕ → Type 0
SignalWordClause list signals bytes o = o ≡ signal_word list signals bytes

-- whether a start would be refused
abbrev pub StartWouldRefuseClause : (rule signals ws : List ℕ) → Found → Type 0
StartWouldRefuseClause rule signals ws o = o ≡ start_refusal rule signals ws

-- starting a watcher
abbrev pub StartClause : (rule signals ws : List ℕ) → Started × List ℕ → Type 0
StartClause rule signals ws o = o ≡ start_of rule signals ws

-- whether a record would be refused
abbrev pub WouldRefuseClause : Watcher → (bytes ws : List ℕ) → Found → Type 0
WouldRefuseClause w bytes ws o = o ≡ feed_refusal w bytes ws

-- feeding a record
abbrev pub FeedClause : Watcher → (bytes ws : List ℕ) → Fed × List ℕ → Type 0
FeedClause w bytes ws o = o ≡ feed_of w bytes ws

-- asking how the log would end now; the area is left as it was
abbrev pub AskClause : Watcher → (ws : List ℕ) → End × List ℕ → Type 0
AskClause w ws o = o ≡ (ask_of w ws, ws)

-- closing the log
abbrev pub CloseClause : Watcher → (ws : List ℕ) → Ended × List ℕ → Type 0
CloseClause w ws o = o ≡ close_of w ws

-- how long the rule can stay open
abbrev pub HorizonClause : Watcher → Option ℕ → Type 0
HorizonClause w o = horizon_for o ≡ wait_of w
