-- The numbers that each call tests, in order; answers with the same number, or the same value, are the same answer.
-- Assumes nothing.
use Rattle.std.proofs.Common.{Option, Some, None}
use mathlib.Core.Path.{◌≡◌, refl, sym, ap, ◌∙◌}
use mathlib.Core.Bool.{Bool, true, false}
use mathlib.Core.List.{List, [], ◌∷◌}
use Prim.Native.Nat.{ℕ, ◌≤◌}
use denote.Enum.Bare.{sameb}
use lib.Dec.{lit≤}
use lib.ListN.{get_or}
use Rattle.watcher.specs.declared.state.Watcher.{Watcher}
use Rattle.watcher.specs.contracts.state.Verdict.{the_type}
use Rattle.watcher.specs.declared.state.Verdict.{Verdict}
use Rattle.watcher.specs.declared.state.Verdict.TheVariants.{Kept, Broken}
use Rattle.watcher.specs.declared.state.Refusal.{Refusal}
use Rattle.watcher.specs.declared.state.Refusal.TheVariants.{RuleLength, RuleRecord, RuleTwins, RuleParameters}
use Rattle.watcher.specs.declared.state.Refusal.TheVariants.{SignalList, SignalMissing, AreaLength, LogRecord}
use Rattle.watcher.specs.declared.state.Refusal.TheVariants.{LogTime, AlreadyClosed, NothingFed, BrokenState}
use Rattle.meaning.specs.Horizon.{Horizon, within, never}
use Rattle.watcher.specs.declared.state.Word.{Word}
use Rattle.watcher.specs.declared.state.Word.TheVariants as word
use Rattle.watcher.specs.declared.state.Phase.{Phase}
use Rattle.watcher.specs.declared.state.Phase.TheVariants as phase
use Rattle.watcher.specs.Numbers.{word_of, saying, verdict_value, verdict_for, horizon_for}
use Rattle.watcher.specs.Numbers.{Stage, fresh, running, closed, stage_of, refusal_number}
use Rattle.watcher.specs.Numbers.{numbers_of}
use Rattle.watcher.specs.Lists.{list_tests}
use Rattle.watcher.specs.Calls.{start_tests, state_tests, feed_tests, close_tests}

-- whether a verdict is kept is the value that it says
pub kept_value : (v : Verdict) → sameb the_type v Kept ≡ verdict_value v
unfolding verdict_value
kept_value Kept = refl
kept_value Broken = refl

-- the numbers of start's tests, of feed's and of close's
pub start_numbers : (rule signals ws : List ℕ)
    → numbers_of (start_tests rule signals ws) ≡ 1 ∷ 2 ∷ 3 ∷ 4 ∷ 5 ∷ 6 ∷ 7 ∷ []
unfolding refusal_number list_tests
start_numbers rule signals ws = refl

pub feed_numbers : (w : Watcher) (bytes ws : List ℕ) → numbers_of (feed_tests w bytes ws) ≡ 7 ∷ 12 ∷ 10 ∷ 8 ∷ 9 ∷ []
unfolding refusal_number state_tests
feed_numbers w bytes ws = refl

pub close_numbers : (w : Watcher) (ws : List ℕ) → numbers_of (close_tests w ws) ≡ 7 ∷ 12 ∷ 10 ∷ 11 ∷ []
unfolding refusal_number state_tests
close_numbers w ws = refl

-- the refusals from number 1 on
abbrev refusals : List Refusal
refusals =
    RuleLength ∷ RuleRecord ∷ RuleTwins ∷ RuleParameters ∷ SignalList ∷ SignalMissing ∷ AreaLength ∷ LogRecord
    ∷ LogTime ∷ AlreadyClosed ∷ NothingFed ∷ BrokenState ∷ []

abbrev refusal_of : ℕ → Refusal
refusal_of n = get_or (BrokenState ∷ refusals) n BrokenState

back : (r : Refusal) → refusal_of (refusal_number r) ≡ r
unfolding refusal_number
back RuleLength = refl
back RuleRecord = refl
back RuleTwins = refl
back RuleParameters = refl
back SignalList = refl
back SignalMissing = refl
back AreaLength = refl
back LogRecord = refl
back LogTime = refl
back AlreadyClosed = refl
back NothingFed = refl
back BrokenState = refl

pub refusal_number_one : (a b : Refusal) → refusal_number a ≡ refusal_number b → a ≡ b
refusal_number_one a b e = sym (back a) ∙ ap refusal_of e ∙ back b

-- no number is above 12
pub number_most : (r : Refusal) → refusal_number r ≤ 12
unfolding refusal_number
number_most RuleLength = lit≤ tt
number_most RuleRecord = lit≤ tt
number_most RuleTwins = lit≤ tt
number_most RuleParameters = lit≤ tt
number_most SignalList = lit≤ tt
number_most SignalMissing = lit≤ tt
number_most AreaLength = lit≤ tt
number_most LogRecord = lit≤ tt
number_most LogTime = lit≤ tt
number_most AlreadyClosed = lit≤ tt
number_most NothingFed = lit≤ tt
number_most BrokenState = lit≤ tt

pub valued : (v : Verdict) → verdict_for (verdict_value v) ≡ v
unfolding verdict_value verdict_for
valued Kept = refl
valued Broken = refl

pub verdict_says : (b : Bool) → verdict_value (verdict_for b) ≡ b
unfolding verdict_value verdict_for
verdict_says true = refl
verdict_says false = refl

pub verdict_value_one : (a b : Verdict) → verdict_value a ≡ verdict_value b → a ≡ b
verdict_value_one a b e = sym (valued a) ∙ ap verdict_for e ∙ valued b

pub spoken : (w : Word) → saying (word_of w) ≡ w
unfolding word_of saying
spoken word.Kept = refl
spoken word.Broken = refl
spoken word.Pending = refl

pub word_one : (a b : Word) → word_of a ≡ word_of b → a ≡ b
word_one a b e = sym (spoken a) ∙ ap saying e ∙ spoken b

-- the phase that a stage of the log is
abbrev staged : Stage → Phase
staged fresh = phase.Fresh
staged (running e) = phase.Running e.time e.signals
staged (closed t) = phase.Closed (verdict_for t)

seen : (p : Phase) → staged (stage_of p) ≡ p
unfolding stage_of
seen phase.Fresh = refl
seen (phase.Running time signals) = refl
seen (phase.Closed v) = ap phase.Closed (valued v)

pub stage_one : (a b : Phase) → stage_of a ≡ stage_of b → a ≡ b
stage_one a b e = sym (seen a) ∙ ap staged e ∙ seen b

-- the answer that a horizon is
abbrev waited : Horizon → Option ℕ
waited never = None
waited (within h) = Some h

told : (a : Option ℕ) → waited (horizon_for a) ≡ a
unfolding horizon_for
told None = refl
told (Some h) = refl

pub horizon_one : (a b : Option ℕ) → horizon_for a ≡ horizon_for b → a ≡ b
horizon_one a b e = sym (told a) ∙ ap waited e ∙ told b
