-- Laws of signals that have no reading.
-- Assumes nothing.
use mathlib.Core.Path.{◌≡◌, refl, ap, ap₂, ◌∙◌}
use mathlib.Core.Bool.{Bool, ◌||◌, or-false}
use mathlib.Core.List.{[], ◌∷◌, ◌++◌}
use Prim.Native.Nat.{ℕ, zero, suc, ◌+◌}
use native.Mathlib.Nat.{zero-add}
use native.Mathlib.Omega.{arith}
use denote.Enum.Bare.{sameb}
use Rattle.std.specs.List.{list_any, range_with_len}
use Rattle.std.proofs.lemmas.List.Folds.{list_any-append}
use Rattle.ground.specs.Fold.{fold, some}
use Rattle.watcher.specs.declared.readings.Tested.{Tested}
use Rattle.watcher.specs.declared.readings.Tested.TheVariants.{Holds, DoesNotHold, NoReading}
use Rattle.watcher.specs.contracts.readings.Tested.{the_type}
use Rattle.lines.specs.Blind.{no_reading}

pub blind_eq : (t : Tested) → sameb the_type t NoReading ≡ no_reading t
blind_eq Holds = refl
blind_eq DoesNotHold = refl
blind_eq NoReading = refl

range_more : (a n : ℕ) → range_with_len a (suc n) ≡ range_with_len a n ++ ((a + n) ∷ [])
range_more a zero = ap (λ m. m ∷ []) (omega arith)
range_more a (suc n) =
    ap (λ l. a ∷ l) (range_more (a + 1) n ∙ ap (λ m. range_with_len (a + 1) n ++ (m ∷ [])) (omega arith))

-- a test passes at some number of a range, said in two ways
pub any_some : (test : ℕ → Bool) (n : ℕ) → list_any test (range_with_len 0 n) ≡ some n test
unfolding fold
any_some test zero = refl
any_some test (suc n) =
    ap (list_any test) (range_more 0 n) ∙ list_any-append test (range_with_len 0 n) ((0 + n) ∷ [])
    ∙ ap₂ ◌||◌ (any_some test n) (or-false (test (0 + n)) ∙ ap test (zero-add n))
