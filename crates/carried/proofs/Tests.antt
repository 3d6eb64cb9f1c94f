-- What testing a signal answers: refused by the table, else the code of what a rule sees.
-- Assumes nothing.
use mathlib.Core.Path.{◌≡◌, refl, sym, ap, ◌∙◌, subst}
use mathlib.Core.Bool.{true, true≢false}
use mathlib.Core.Logic.{◌⊎◌, inl, inr, ◌↔◌}
use mathlib.Core.List.{List}
use Prim.Native.Nat.{ℕ}
use native.Mathlib.Omega.{arith}
use borrow.Author.Tests.{leb-false}
use Rattle.meaning.specs.Rule.{holds}
use Rattle.watcher.specs.declared.readings.Tested.{Tested}
use Rattle.watcher.specs.declared.readings.Tested.TheVariants.{Holds, DoesNotHold, NoReading}
use Rattle.watcher.specs.Rules.{records_of}
use Rattle.watcher.specs.Records.{test_of, is_holding, entry_of}
use Rattle.watcher.specs.Numbers.{refusal_number}
use Rattle.watcher.proofs.Decoded.{signals_whole}
use Rattle.demands.specs.Signals.{Listed, ExactlyOne}
use Rattle.demands.specs.Tables.{Given, NoneHolds}
use Rattle.demands.proofs.Signals.{signals_are_tested}
use Rattle.port.specs.Codes.{test_code}
use Rattle.port.specs.Signals.{test_bytes}
use Rattle.carried.specs.Exporting.{Exports, MeetsExports}
use Rattle.carried.specs.Tests.{test_table, TestsAreCarried}

-- the code of a test is one of three, and tells the test
one_code : (t : Tested) → ExactlyOne (test_code t ≡ 111) (test_code t ≡ 112) (test_code t ≡ 113)
one_code t = (which t, λ a b. omega arith, λ a b. omega arith, λ a b. omega arith)
  where
    which : (t : Tested) → (test_code t ≡ 111) ⊎ (test_code t ≡ 112) ⊎ (test_code t ≡ 113)
    which Holds = inl refl
    which DoesNotHold = inr (inl refl)
    which NoReading = inr (inr refl)

code_holds : (t : Tested) → (test_code t ≡ 111) ↔ (is_holding t ≡ true)
code_holds Holds = (λ e. refl, λ e. refl)
code_holds DoesNotHold = (λ e. let z : ⊥ = omega arith in absurd z, λ e. absurd (true≢false (sym e)))
code_holds NoReading = (λ e. let z : ⊥ = omega arith in absurd z, λ e. absurd (true≢false (sym e)))

code_none : (t : Tested) → (test_code t ≡ 113) ↔ (t ≡ NoReading)
code_none t = (told t, ap test_code)
  where
    told : (t : Tested) → test_code t ≡ 113 → t ≡ NoReading
    told Holds e = let z : ⊥ = omega arith in absurd z
    told DoesNotHold e = let z : ⊥ = omega arith in absurd z
    told NoReading e = refl

-- what is refused has its number, and else the code is the test's
module _ (signals : List ℕ) (number : ℕ) (piece : List ℕ) where
  abbrev tested : Tested
  tested = test_of signals (records_of signals) piece number

  refused_code : (n : ℕ) → Given (test_table signals number piece) n → test_bytes signals number piece ≡ n
  unfolding test_bytes Given refusal_number
  refused_code n (inl (a, e)) = rw a e
  refused_code n (inr (a, inl (b, e))) = rw (a, b) e
  refused_code n (inr (a, inr (b, inl (c, e)))) = rw (a, b, c) e
  refused_code n (inr (a, inr (b, inr (c, e)))) = absurd e

  module _ (none : NoneHolds (test_table signals number piece)) where
    told_code : test_bytes signals number piece ≡ test_code tested
    unfolding test_bytes NoneHolds
    told_code = rw (none.0, none.1.0, none.1.1.0)

    is_listed : Listed signals (records_of signals) number
    unfolding NoneHolds
    is_listed =
        let below = leb-false (records_of signals) number none.1.1.0 in
        let whole = signals_whole signals none.0 in
        record { counted = below; written = below; fits = omega (arith, below, whole.most) }

module _ (f : Exports) (right : MeetsExports f) where
  pub tests_are_carried : TestsAreCarried f
  tests_are_carried signals number piece s l b =
      record {
        refused = λ n given. is ∙ refused_code signals number piece n given;
        one = λ none. one_at (code none);
        seen =
            λ none. (
              λ e. seen ∙ (code_holds t).0 (sym (code none) ∙ e),
              λ e. code none ∙ (code_holds t).1 (sym seen ∙ e),
            );
        blind =
            λ none.
            let here = is_listed signals number piece none in
            let blind = signals_are_tested.blind signals (records_of signals) piece number here in
            (λ e. blind.0 ((code_none t).0 (sym (code none) ∙ e)), λ e. code none ∙ (code_none t).1 (blind.1 e));
      }
    where
      t : Tested
      t = test_of signals (records_of signals) piece number

      is : f.test signals number piece ≡ test_bytes signals number piece
      is = right.tests signals number piece s l b

      code : NoneHolds (test_table signals number piece) → f.test signals number piece ≡ test_code t
      code none = is ∙ told_code signals number piece none

      seen : holds (entry_of signals (records_of signals) piece) number ≡ is_holding t
      seen = signals_are_tested.seen signals (records_of signals) piece number

      one_at : {x : ℕ} → x ≡ test_code t → ExactlyOne (x ≡ 111) (x ≡ 112) (x ≡ 113)
      one_at e = subst (λ x. ExactlyOne (x ≡ 111) (x ≡ 112) (x ≡ 113)) (sym e) (one_code t)
