-- The clause of each public function, `specs/Clauses.antt`, leaves room for one outcome only.
-- Assumes nothing.
use mathlib.Core.Path.{◌≡◌, sym, ◌∙◌}
use mathlib.Core.Bool.{Bool}
use mathlib.Core.List.{List}
use Prim.Native.Nat.{ℕ}
use Rattle.ground.specs.Clauses.{ByteClause, LittleClause, ZerosFromClause}

-- so does any equation, outcome ≡ definition
pub only_one : {A : Type 0} (definition r r' : A) → r ≡ definition → r' ≡ definition → r ≡ r'
only_one definition r r' a b = a ∙ sym b

module _ (bytes : List ℕ) (at : ℕ) where
  pub only_byte : (o o' : ℕ) → ByteClause bytes at o → ByteClause bytes at o' → o ≡ o'
  only_byte = only_one _

  pub only_little : (n o o' : ℕ) → LittleClause n bytes at o → LittleClause n bytes at o' → o ≡ o'
  only_little n = only_one _

  pub only_zeros_from : (o o' : Bool) → ZerosFromClause bytes at o → ZerosFromClause bytes at o' → o ≡ o'
  only_zeros_from = only_one _
