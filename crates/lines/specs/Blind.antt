-- The signals that have no reading in a record (document 02, R-3), as text behind its word.
use Rattle.std.specs.Prelude.{Bool, true, false, cond, List, [], ◌∷◌, ◌++◌, ℕ}
use Rattle.ground.specs.Fold.{some}
use Rattle.watcher.specs.declared.readings.Tested.{Tested}
use Rattle.watcher.specs.declared.readings.Tested.TheVariants.{Holds, DoesNotHold, NoReading}
use Rattle.watcher.specs.Limits.{most_signals}
use Rattle.watcher.specs.Records.{test_of}
use Rattle.lines.specs.Text.{space, numbers_text}

-- the test had no reading
abbrev pub no_reading : Tested → Bool
no_reading Holds = false
no_reading DoesNotHold = false
no_reading NoReading = true

-- signal n of a list of so many has no reading in the record
unfoldable pub is_blind : (list : List ℕ) (signals : ℕ) (piece : List ℕ) → ℕ → Bool
is_blind list signals piece n = no_reading (test_of list signals piece n)

-- where some signal is blind: a space, "blind", a space and the numbers of those that are
unfoldable pub blind_text : (blind : ℕ → Bool) → List ℕ
blind_text blind =
    cond (some most_signals blind)
    ((space ∷ 98 ∷ 108 ∷ 105 ∷ 110 ∷ 100 ∷ space ∷ []) ++ numbers_text blind most_signals) []
