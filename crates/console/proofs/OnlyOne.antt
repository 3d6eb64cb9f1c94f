-- The clause of `same`, `specs/Clauses.antt`, leaves room for one outcome only.
-- Assumes nothing.
use mathlib.Core.Path.{◌≡◌, refl, sym}
use mathlib.Core.Bool.{Bool, true, false}
use mathlib.Core.List.{List}
use Prim.Native.Nat.{ℕ}
use Rattle.console.specs.Clauses.{SameClause}

pub only_same : (text word : List ℕ) (o o' : Bool) → SameClause text word o → SameClause text word o' → o ≡ o'
only_same text word true o' (equal, met) (equal', met') = sym (met' (equal refl))
only_same text word false true (equal, met) (equal', met') = met (equal' refl)
only_same text word false false c c' = refl
