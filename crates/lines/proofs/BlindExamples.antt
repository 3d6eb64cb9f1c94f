-- Computed examples of the text of signals that have no reading.
-- Assumes nothing.
use mathlib.Core.Path.{◌≡◌, refl}
use mathlib.Core.Bool.{true, false, ◌||◌}
use mathlib.Core.List.{[], ◌∷◌, ◌++◌}
use lib.Dec.{eqb}
use Rattle.ground.specs.Fold.{fold}
use Rattle.lines.specs.Text.{digits, decimal, listed_text, numbers_text}
use Rattle.lines.specs.Blind.{blind_text}

-- every signal reads
pub none_blind : blind_text (λ n. false) ≡ []
unfolding fold blind_text
none_blind = refl

-- " blind 0,2"
pub two_blind : blind_text (λ n. eqb n 0 || eqb n 2) ≡ 32 ∷ 98 ∷ 108 ∷ 105 ∷ 110 ∷ 100 ∷ 32 ∷ 48 ∷ 44 ∷ 50 ∷ []
unfolding fold blind_text digits decimal listed_text numbers_text
two_blind = refl

-- " blind 15": signal 16 is none
pub last_blind : blind_text (λ n. eqb n 15 || eqb n 16) ≡ 32 ∷ 98 ∷ 108 ∷ 105 ∷ 110 ∷ 100 ∷ 32 ∷ 49 ∷ 53 ∷ []
unfolding fold blind_text digits decimal listed_text numbers_text
last_blind = refl

-- " blind 0,1,2,3,4,5,6,7,8,9,10,11,12,13,14,15"
pub all_blind : blind_text (λ n. true)
    ≡ (32 ∷ 98 ∷ 108 ∷ 105 ∷ 110 ∷ 100 ∷ 32 ∷ 48 ∷ [])
    ++ (44 ∷ 49 ∷ 44 ∷ 50 ∷ 44 ∷ 51 ∷ 44 ∷ 52 ∷ 44 ∷ 53 ∷ 44 ∷ 54 ∷ 44 ∷ 55 ∷ 44 ∷ 56 ∷ 44 ∷ 57 ∷ [])
    ++ (44 ∷ 49 ∷ 48 ∷ 44 ∷ 49 ∷ 49 ∷ 44 ∷ 49 ∷ 50 ∷ 44 ∷ 49 ∷ 51 ∷ 44 ∷ 49 ∷ 52 ∷ 44 ∷ 49 ∷ 53 ∷ [])
unfolding fold blind_text digits decimal listed_text numbers_text
all_blind = refl
