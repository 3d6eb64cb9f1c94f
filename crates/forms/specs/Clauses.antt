-- The clause of each public function: of what is handed in, and the answer or the area at exit.
use Rattle.std.specs.Prelude.{◌≡◌, Bool, List, ℕ, replicate}
use Rattle.ground.specs.Bits.{bit, of_bits}
use Rattle.forms.specs.declared.rows.Truth.{Truth}
use Rattle.forms.specs.Form.{constant, parameter, xor, and, or, names, value}
use Rattle.forms.specs.Words.{pack, fits}
use Rattle.forms.specs.Area.{row_at, put_rows}
use Rattle.forms.specs.Rows.{OfForm, OfForms, OfRow, WithRows, which_constant}

-- the row of true, or of false
abbrev pub ConstantClause : Bool → List ℕ → Type 0
ConstantClause b o = (m : ℕ) → o ≡ pack m (constant m b)

-- the row of parameter p of m
abbrev pub ParameterClause : (p m : ℕ) → List ℕ → Type 0
ParameterClause p m o = o ≡ pack m (parameter m p)

-- the row of the exclusive or
abbrev pub XorClause : (a b : List ℕ) → List ℕ → Type 0
XorClause a b o = OfForms xor a b o

-- the row of the conjunction
abbrev pub AndClause : (a b : List ℕ) → List ℕ → Type 0
AndClause a b o = OfForms and a b o

-- the row of the disjunction
abbrev pub OrClause : (a b : List ℕ) → List ℕ → Type 0
OrClause a b o = OfForms or a b o

-- which constant the row's form is, if any
abbrev pub WhichConstantClause : (row : List ℕ) → Truth → Type 0
WhichConstantClause row o = OfForm which_constant row o

-- whether the row has no bit at or above 2^m
abbrev pub FitsClause : (row : List ℕ) (m : ℕ) → Bool → Type 0
FitsClause row m o = o ≡ fits m row

-- the parameters that the row's form names, as bits
abbrev pub NamesClause : (row : List ℕ) → ℕ → Type 0
NamesClause row o = OfForm (λ m f. of_bits 12 (names m f)) row o

-- the row with an area's rows put in
abbrev pub PutInClause : (row ws : List ℕ) (base count : ℕ) → List ℕ → Type 0
PutInClause row ws base count o = WithRows row ws base count o

-- the value of the row's form under a setting
abbrev pub ValueClause : (row : List ℕ) (setting : ℕ) → Bool → Type 0
ValueClause row setting o = OfForm (λ m f. value m f (bit setting)) row o

-- the row at a place
abbrev pub LoadClause : (ws : List ℕ) (place : ℕ) → List ℕ → Type 0
LoadClause ws place o = o ≡ row_at ws place

-- row j of the count rows from base on
abbrev pub RowClause : (ws : List ℕ) (base count j : ℕ) → List ℕ → Type 0
RowClause ws base count j o = OfRow ws base count j o

-- the area with a row put at a place
abbrev pub StoreClause : (ws : List ℕ) (place : ℕ) (row : List ℕ) → List ℕ → Type 0
StoreClause ws place row o = o ≡ put_rows ws place 1 (λ _. row)

-- the area with zeros in count rows
abbrev pub ClearClause : (ws : List ℕ) (base count : ℕ) → List ℕ → Type 0
ClearClause ws base count o = o ≡ put_rows ws base count (λ _. replicate 64 0)
