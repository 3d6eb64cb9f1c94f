-- `any` over the numbers below n asks whether a test passes at some of them.
-- Assumes nothing.
use Rattle.std.proofs.Common.{◌≡◌, ℕ, zero, suc, ◌+◌, Bool, true, false, ◌||◌, Option, List, refl, sym, ap, ◌∙◌}
use Rattle.std.proofs.Common.{arith, add-zero}
use Rattle.std.proofs.iter.Yields.{nat_range_steps}
use Rattle.std.proofs.lemmas.Iterator.{YieldsList-from_range}
use Rattle.std.proofs.lemmas.Iterator.Search.{any_from_yields_List}
use Rattle.std.specs.Fn.{Called}
use Rattle.std.specs.Iterator.{YieldsThen}
use Rattle.std.specs.List.{FoldsTo, list_any, range_with_len}
use Rattle.std.specs.Option.{MatchOption}
use Rattle.std.specs.declared.ops.Range.{Range}
use denote.Param.Members.{Mut}
use Rattle.ground.specs.Fold.{fold, some}
use Rattle.ground.proofs.Folds.{fold_cong}
use mathlib.Core.Bool.{or-false, or_assoc}

-- the first number of those below n + 1
some_first : (n : ℕ) (g : ℕ → Bool) → some (suc n) g ≡ (g 0 || some n (λ i. g (suc i)))
unfolding fold
some_first zero g = sym (or-false (g 0))
some_first (suc n) g = ap (λ b. b || g (suc n)) (some_first n g) ∙ or_assoc (g 0) (some n (λ i. g (suc i))) (g (suc n))

any_from : (test : ℕ → Bool) (n a : ℕ) → list_any test (range_with_len a n) ≡ some n (λ i. test (a + i))
unfolding fold
any_from test zero a = refl
any_from test (suc n) a =
    ap (λ b. test a || b)
    (any_from test n (a + 1)
    ∙ fold_cong ◌||◌ false n (λ i. test (a + 1 + i)) (λ i. test (a + suc i))
    (λ i h. let e : a + 1 + i ≡ a + suc i = omega arith in ap test e))
    ∙ ap (λ x. test x || some n (λ i. test (a + suc i))) (sym (add-zero a))
    ∙ sym (some_first n (λ i. test (a + i)))

pub any_range : {F : Type 0} {g : Mut F (ℕ × Unit {0}) Bool} (test : ℕ → Bool) (n : ℕ) (s u : Range ℕ) (f : F)
    (r : Bool)
    → s ≡ record { start = 0; end = n }
    → (xs : List ℕ) × (o : Option ℕ) × (j : F) × YieldsThen nat_range_steps s xs o u
    × FoldsTo (λ p x q. Called g p (x, tt) false q) f xs j
    × MatchOption o (r ≡ false) (λ x. (r ≡ true) × ((h : F) × Called g j (x, tt) true h))
    → ((x : ℕ) (b : Bool) (q : F) → Called g f (x, tt) b q → (q ≡ f) × (b ≡ test x)) → r ≡ some n test
any_range test n s u f r is ran calls =
    any_from_yields_List test _ _ _ ran (YieldsList-from_range 0 n n is (omega arith)) calls
    ∙ any_from test n 0
    ∙ fold_cong ◌||◌ false n (λ i. test (0 + i)) test (λ i h. let e : 0 + i ≡ i = omega arith in ap test e)
