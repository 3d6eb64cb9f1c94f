-- What testing a signal in a record answers, by the owner's demands.
use Rattle.std.specs.Prelude.{◌≡◌, true, ◌↔◌, List, [], ◌∷◌, ℕ, ◌^◌, ◌<◌, leb}
use Rattle.meaning.specs.Rule.{holds}
use Rattle.watcher.specs.Rules.{records_of}
use Rattle.watcher.specs.Signals.{wrong_signals}
use Rattle.watcher.specs.Records.{wrong_record, entry_of}
use Rattle.watcher.specs.Machine.{MachineBytes}
use Rattle.demands.specs.Signals.{Blind, ExactlyOne}
use Rattle.demands.specs.Tables.{Line, line, Given, NoneHolds}
use Rattle.carried.specs.Exporting.{Exports}

-- a test of a signal is refused by 5, then 8, then 6
abbrev pub test_table : (signals : List ℕ) (number : ℕ) (piece : List ℕ) → List Line
test_table signals number piece =
    line 5 (wrong_signals signals) ∷ line 8 (wrong_record piece) ∷ line 6 (leb (records_of signals) number) ∷ []

-- else it answers 111 exactly where a rule sees the signal in the record, 113 exactly where the signal has no reading
-- there, and 112 elsewhere
pub record Tests (f : Exports) (signals : List ℕ) (number : ℕ) (piece : List ℕ) : Type 0 where
  pub refused : (n : ℕ) → Given (test_table signals number piece) n → f.test signals number piece ≡ n
  pub one : NoneHolds (test_table signals number piece)
      → ExactlyOne (f.test signals number piece ≡ 111) (f.test signals number piece ≡ 112)
      (f.test signals number piece ≡ 113)
  pub seen : NoneHolds (test_table signals number piece)
      → (f.test signals number piece ≡ 111) ↔ (holds (entry_of signals (records_of signals) piece) number ≡ true)
  pub blind : NoneHolds (test_table signals number piece)
      → (f.test signals number piece ≡ 113) ↔ Blind signals number piece

abbrev pub TestsAreCarried : Exports → Type 0
TestsAreCarried f =
    (signals : List ℕ) (number : ℕ) (piece : List ℕ) → MachineBytes signals → number < 2 ^ 64 → MachineBytes piece
    → Tests f signals number piece
