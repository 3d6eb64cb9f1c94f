-- The clause of each public function, `specs/Clauses.antt`, leaves room for one outcome only.
-- Assumes nothing.
use Rattle.std.proofs.Common.{Option}
use mathlib.Core.Path.{◌≡◌, sym, ap, ◌∙◌}
use mathlib.Core.Bool.{Bool}
use mathlib.Core.List.{List}
use Prim.Native.Nat.{ℕ}
use Rattle.ground.proofs.OnlyOne.{only_one}
use Rattle.meaning.specs.Rule.{Entry}
use Rattle.rewriting.specs.declared.step.Moment.{Moment}
use Rattle.watcher.specs.declared.readings.Tested.{Tested}
use Rattle.watcher.specs.declared.state.Watcher.{Watcher}
use Rattle.watcher.specs.declared.state.Started.{Started}
use Rattle.watcher.specs.declared.state.Fed.{Fed}
use Rattle.watcher.specs.Answers.{Found, End}
use Rattle.watcher.specs.declared.state.Ended.{Ended}
use Rattle.watcher.specs.declared.state.Refusal.{Refusal}
use Rattle.watcher.specs.declared.state.Word.{Word}
use Rattle.watcher.specs.declared.state.Verdict.{Verdict}
use Rattle.watcher.specs.declared.state.Phase.{Phase}
use Rattle.watcher.specs.declared.state.Limits.{Limits}
use Rattle.watcher.specs.Clauses.{LimitsClause, IsRefusedClause, VerdictClause, WordClause, LastClause}
use Rattle.watcher.specs.Clauses.{ZeroStateClause}
use Rattle.watcher.specs.Clauses.{CheckRuleClause, CheckListsClause, NumberClause}
use Rattle.watcher.specs.Clauses.{WrongRecordClause, TimeOfClause, WrongSignalsClause, TestSignalClause}
use Rattle.watcher.specs.Clauses.{SignalWordClause}
use Rattle.watcher.specs.Clauses.{StartWouldRefuseClause, StartClause, WouldRefuseClause, FeedClause}
use Rattle.watcher.specs.Clauses.{AskClause, CloseClause, HorizonClause}
use Rattle.watcher.proofs.Numbers.{horizon_one}

pub only_limits : (o o' : Limits) → LimitsClause o → LimitsClause o' → o ≡ o'
only_limits = only_one _

pub only_is_refused : (found : Found) (o o' : Bool) → IsRefusedClause found o → IsRefusedClause found o' → o ≡ o'
only_is_refused found = only_one _

pub only_verdict : (value : Bool) (o o' : Verdict) → VerdictClause value o → VerdictClause value o' → o ≡ o'
only_verdict value = only_one _

pub only_word : (verdict : Verdict) (o o' : Word) → WordClause verdict o → WordClause verdict o' → o ≡ o'
only_word verdict = only_one _

pub only_last : (phase : Phase) (o o' : Moment) → LastClause phase o → LastClause phase o' → o ≡ o'
only_last phase o o' a b = ap (λ (e : Entry). record { time = e.time; signals = e.signals }) (a ∙ sym b)

pub only_zero_state : (o o' : Watcher) → ZeroStateClause o → ZeroStateClause o' → o ≡ o'
only_zero_state = only_one _

pub only_check_rule : (rule : List ℕ) (o o' : Found) → CheckRuleClause rule o → CheckRuleClause rule o' → o ≡ o'
only_check_rule rule = only_one _

pub only_check_lists : (rule signals : List ℕ) (o o' : Found) → CheckListsClause rule signals o
    → CheckListsClause rule signals o' → o ≡ o'
only_check_lists rule signals = only_one _

pub only_number : (refusal : Refusal) (o o' : ℕ) → NumberClause refusal o → NumberClause refusal o' → o ≡ o'
only_number refusal = only_one _

pub only_wrong_record : (bytes : List ℕ) (o o' : Bool) → WrongRecordClause bytes o → WrongRecordClause bytes o'
    → o ≡ o'
only_wrong_record bytes = only_one _

pub only_time_of : (bytes : List ℕ) (o o' : ℕ) → TimeOfClause bytes o → TimeOfClause bytes o' → o ≡ o'
only_time_of bytes = only_one _

pub only_wrong_signals : (list : List ℕ) (o o' : Bool) → WrongSignalsClause list o → WrongSignalsClause list o'
    → o ≡ o'
only_wrong_signals list = only_one _

pub only_test_signal : (list : List ℕ) (signals : ℕ) (bytes : List ℕ) (n : ℕ) (o o' : Tested)
    → TestSignalClause list signals bytes n o → TestSignalClause list signals bytes n o' → o ≡ o'
only_test_signal list signals bytes n = only_one _

pub only_signal_word : (list : List ℕ) (signals : ℕ) (bytes : List ℕ) (o o' : ℕ)
    → SignalWordClause list signals bytes o → SignalWordClause list signals bytes o' → o ≡ o'
only_signal_word list signals bytes = only_one _

pub only_start_would_refuse : (rule signals ws : List ℕ) (o o' : Found) → StartWouldRefuseClause rule signals ws o
    → StartWouldRefuseClause rule signals ws o' → o ≡ o'
only_start_would_refuse rule signals ws = only_one _

pub only_start : (rule signals ws : List ℕ) (o o' : Started × List ℕ) → StartClause rule signals ws o
    → StartClause rule signals ws o' → o ≡ o'
only_start rule signals ws = only_one _

pub only_would_refuse : (w : Watcher) (bytes ws : List ℕ) (o o' : Found) → WouldRefuseClause w bytes ws o
    → WouldRefuseClause w bytes ws o' → o ≡ o'
only_would_refuse w bytes ws = only_one _

pub only_feed : (w : Watcher) (bytes ws : List ℕ) (o o' : Fed × List ℕ) → FeedClause w bytes ws o
    → FeedClause w bytes ws o' → o ≡ o'
only_feed w bytes ws = only_one _

pub only_ask : (w : Watcher) (ws : List ℕ) (o o' : End × List ℕ) → AskClause w ws o → AskClause w ws o' → o ≡ o'
only_ask w ws = only_one _

pub only_close : (w : Watcher) (ws : List ℕ) (o o' : Ended × List ℕ) → CloseClause w ws o → CloseClause w ws o'
    → o ≡ o'
only_close w ws = only_one _

pub only_horizon : (w : Watcher) (o o' : Option ℕ) → HorizonClause w o → HorizonClause w o' → o ≡ o'
only_horizon w o o' a b = horizon_one o o' (a ∙ sym b)
