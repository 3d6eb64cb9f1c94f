-- The clause of each public function, `specs/Clauses.antt`, leaves room for one outcome only: any 64 words are a form.
-- Assumes nothing.
use mathlib.Core.Path.{◌≡◌, sym, ap, ◌∙◌, subst}
use mathlib.Core.Bool.{Bool, false, ◌&&◌}
use mathlib.Core.List.{List}
use Prim.Native.Nat.{ℕ, ◌+◌, ◌^◌, ◌≤◌, ◌<◌}
use native.Mathlib.Omega.{arith}
use borrow.Author.Tests.{lt-ltb}
use lib.ListN.{get_or}
use Rattle.ground.specs.Fold.{tab}
use Rattle.ground.specs.Bits.{bit_at, Words}
use Rattle.ground.proofs.Tabs.{length_tab, get_d_tab}
use Rattle.ground.proofs.OnlyOne.{only_one}
use Rattle.forms.specs.declared.rows.Truth.{Truth}
use Rattle.forms.specs.Form.{Form, constant, xor, and, or}
use Rattle.forms.specs.Words.{most, pack, unpack}
use Rattle.forms.specs.Rows.{OfForm, OfForms, which_constant}
use Rattle.forms.specs.Area.{row_at, Holds}
use Rattle.forms.specs.Clauses.{ConstantClause, ParameterClause, XorClause, AndClause, OrClause}
use Rattle.forms.specs.Clauses.{WhichConstantClause, FitsClause, NamesClause, ValueClause}
use Rattle.forms.specs.Clauses.{LoadClause, RowClause, StoreClause, ClearClause, PutInClause}
use Rattle.forms.proofs.Areas.{row_words}
use Rattle.forms.proofs.Packing.{bit_unpack, pack_is, most_is, most_few, most_wide}

-- 64 words are a form over any number of parameters with room for all their bits
pub whole_over : (m : ℕ) (ws : List ℕ) → 4096 ≤ 2 ^ m → Words 64 ws → ws ≡ pack m (unpack m ws)
whole_over m ws room w =
    pack_is m (unpack m ws) ws w
    (λ k h. sym (bit_unpack m ws k ∙ ap (λ b. b && bit_at ws k) (lt-ltb k (2 ^ m) (omega arith))))

-- over the most, by a name that does not compute
pub whole_most : (ws : List ℕ) → Words 64 ws → ws ≡ pack most (unpack most ws)
whole_most ws w = whole_over most ws most_wide w

-- any 64 words are a form over 12 parameters
pub whole : (ws : List ℕ) → Words 64 ws → ws ≡ pack 12 (unpack 12 ws)
whole ws w = subst (λ m. ws ≡ pack m (unpack m ws)) most_is (whole_most ws w)

-- one answer about a row's form
one_form : {A : Type 0} (answer : (m : ℕ) → Form m → A) (row : List ℕ) (r r' : A) → Words 64 row
    → OfForm answer row r → OfForm answer row r' → r ≡ r'
one_form answer row r r' w a b =
    let f : Form most = unpack most row in
    let e : row ≡ pack most f = whole_most row w in
    a most f most_few e ∙ sym (b most f most_few e)

-- one row of what two rows' forms make
one_forms : (made : (m : ℕ) → Form m → Form m → Form m) (a b r r' : List ℕ) → Words 64 a → Words 64 b
    → OfForms made a b r → OfForms made a b r' → r ≡ r'
one_forms made a b r r' wa wb p q =
    let f : Form most = unpack most a in
    let g : Form most = unpack most b in
    let ea : a ≡ pack most f = whole_most a wa in
    let eb : b ≡ pack most g = whole_most b wb in
    p most f g most_few ea eb ∙ sym (q most f g most_few ea eb)

-- rows that are made
pub only_constant : (b : Bool) (o o' : List ℕ) → ConstantClause b o → ConstantClause b o' → o ≡ o'
only_constant b o o' p q = p most ∙ sym (q most)

pub only_parameter : (p m : ℕ) (o o' : List ℕ) → ParameterClause p m o → ParameterClause p m o' → o ≡ o'
only_parameter p m = only_one _

-- rows that are joined
module _ (a b o o' : List ℕ) (wa : Words 64 a) (wb : Words 64 b) where
  pub only_xor : XorClause a b o → XorClause a b o' → o ≡ o'
  only_xor = one_forms xor a b o o' wa wb

  pub only_and : AndClause a b o → AndClause a b o' → o ≡ o'
  only_and = one_forms and a b o o' wa wb

  pub only_or : OrClause a b o → OrClause a b o' → o ≡ o'
  only_or = one_forms or a b o o' wa wb

-- what a row is asked
pub only_fits : (row : List ℕ) (m : ℕ) (o o' : Bool) → FitsClause row m o → FitsClause row m o' → o ≡ o'
only_fits row m = only_one _

module _ (row : List ℕ) (w : Words 64 row) where
  pub only_which_constant : (o o' : Truth) → WhichConstantClause row o → WhichConstantClause row o' → o ≡ o'
  only_which_constant o o' = one_form which_constant row o o' w

  pub only_names : (o o' : ℕ) → NamesClause row o → NamesClause row o' → o ≡ o'
  only_names o o' = one_form _ row o o' w

  pub only_value : (setting : ℕ) (o o' : Bool) → ValueClause row setting o → ValueClause row setting o' → o ≡ o'
  only_value setting o o' = one_form _ row o o' w

-- rows of an area
pub only_load : (ws : List ℕ) (place : ℕ) (o o' : List ℕ) → LoadClause ws place o → LoadClause ws place o' → o ≡ o'
only_load ws place = only_one _

pub only_store : (ws : List ℕ) (place : ℕ) (row o o' : List ℕ) → StoreClause ws place row o
    → StoreClause ws place row o' → o ≡ o'
only_store ws place row = only_one _

pub only_clear : (ws : List ℕ) (base count : ℕ) (o o' : List ℕ) → ClearClause ws base count o
    → ClearClause ws base count o' → o ≡ o'
only_clear ws base count = only_one _

-- the rows of an area are forms over 12 parameters
module _ (ws : List ℕ) (base count : ℕ) (small : (i : ℕ) → get_or ws i 0 < 2 ^ 64) where
  abbrev at : ℕ → Form most
  at j = unpack most (row_at ws (base + j))

  held : Holds most ws base count (tab count at)
  held = record {
    long = length_tab count at;
    row = λ j h.
        whole_most (row_at ws (base + j)) (row_words ws (base + j) small)
        ∙ ap (pack most) (sym (get_d_tab count at j (constant most false) h));
  }

  pub only_row : (j : ℕ) (o o' : List ℕ) → RowClause ws base count j o → RowClause ws base count j o' → o ≡ o'
  only_row j o o' p q = p most (tab count at) held ∙ sym (q most (tab count at) held)

  -- a row with them put in
  pub only_put_in : (row o o' : List ℕ) → Words 64 row → PutInClause row ws base count o
      → PutInClause row ws base count o' → o ≡ o'
  only_put_in row o o' w p q =
      let f : Form most = unpack most row in
      let e : row ≡ pack most f = whole_most row w in
      p most f (tab count at) most_few e held ∙ sym (q most f (tab count at) most_few e held)
