-- Document 01's table of refusals: what each call tests, in which order, and by which number it refuses.
use Rattle.std.specs.Prelude.{◌≡◌, Bool, true, false, ◌⊎◌, ◌↔◌, List, [], ◌∷◌, ◌++◌, ℕ, Ok, Err}
use Rattle.watcher.specs.declared.state.Watcher.{Watcher}
use Rattle.watcher.specs.Answers.{Found}
use Rattle.watcher.specs.Rules.{records_of, wrong_length, rule_breaks, has_twins, many_parameters}
use Rattle.watcher.specs.Signals.{wrong_signals, names_missing}
use Rattle.watcher.specs.Records.{wrong_record, time_of}
use Rattle.watcher.specs.Numbers.{refusal_number, stage_of}
use Rattle.watcher.specs.State.{broken_state}
use Rattle.watcher.specs.Calls.{wrong_area, is_closed, is_fresh, too_early}

-- a line of the table: a number, and whether its test holds
pub record Line : Type 0 where
  pub number : ℕ
  pub holds : Bool

abbrev pub line : ℕ → Bool → Line
line number holds = record { number = number; holds = holds }

-- start tests 1 to 7 in that order
abbrev pub start_table : (rule signals ws : List ℕ) → List Line
start_table rule signals ws =
    line 1 (wrong_length rule)
    ∷ line 2 (rule_breaks rule)
    ∷ line 3 (has_twins rule)
    ∷ line 4 (many_parameters rule)
    ∷ line 5 (wrong_signals signals)
    ∷ line 6 (names_missing rule (records_of signals))
    ∷ line 7 (wrong_area ws)
    ∷ []

-- feed, ask and close first: 7, 12, 10
abbrev pub state_table : Watcher → List ℕ → List Line
state_table w ws =
    line 7 (wrong_area ws)
    ∷ line 12 (broken_state w ws)
    ∷ line 10 (is_closed (stage_of w.phase))
    ∷ []

-- feed then: 8, 9
abbrev pub feed_table : Watcher → (bytes ws : List ℕ) → List Line
feed_table w bytes ws =
    state_table w ws
    ++ (line 8 (wrong_record bytes)
    ∷ line 9 (too_early (stage_of w.phase) (time_of bytes))
    ∷ [])

-- ask and close then: 11
abbrev pub close_table : Watcher → List ℕ → List Line
close_table w ws = state_table w ws ++ (line 11 (is_fresh (stage_of w.phase)) ∷ [])

-- the test with this number holds, and none before it does
unfoldable pub Given : List Line → ℕ → Type 0
Given [] n = ⊥
Given (l ∷ more) n = ((l.holds ≡ true) × (l.number ≡ n)) ⊎ ((l.holds ≡ false) × Given more n)

-- no test holds
unfoldable pub NoneHolds : List Line → Type 0
NoneHolds [] = Unit {0}
NoneHolds (l ∷ more) = (l.holds ≡ false) × NoneHolds more

-- what was found is a refusal that carries this number
unfoldable pub Carries : Found → ℕ → Type 0
Carries (Ok tt) n = ⊥
Carries (Err r) n = refusal_number r ≡ n

-- an answer is as the table says: it is given in every case, a refusal with a number exactly when this test is the
-- first that holds, and none exactly when no test holds
pub record AsTable (table : List Line) (found : Found) : Type 0 where
  pub answered : (found ≡ Ok tt) ⊎ ((n : ℕ) × Carries found n)
  pub refused : (n : ℕ) → Carries found n ↔ Given table n
  pub fine : (found ≡ Ok tt) ↔ NoneHolds table
