-- What the functions inside the crate say. Nobody outside has to believe it.
use Rattle.std.specs.Prelude.{◌≡◌, Bool, true, false, ◌&&◌, cond, List, [], ◌∷◌, ℕ, ◌+◌, ◌-◌, ◌*◌, ◌^◌, ◌≤◌, ◌<◌, eqb}
use Rattle.std.specs.Prelude.{Option, MatchOption}
use Rattle.std.specs.Int.Bits.{bit_or}
use Rattle.ground.specs.Fold.{◌⊕◌, parity}
use Rattle.ground.specs.Bits.{bit, bit_at, Words}
use Rattle.forms.specs.Form.{Form, constant, xor, put_in, truth, each}
use Rattle.forms.specs.Words.{most, pack, of_terms}
use Rattle.forms.specs.Area.{row_at, form_in, Holds}

-- the row has no term from `from` on and before `to`
abbrev pub Free : List ℕ → ℕ → ℕ → Type 0
Free row from to = (k : ℕ) → from ≤ k → k < to → bit_at row k ≡ false

-- k is the row's first term from `from` on, and before `to`
pub record First (row : List ℕ) (from to k : ℕ) : Type 0 where
  pub low : from ≤ k
  pub high : k < to
  pub here : bit_at row k ≡ true
  pub none : Free row from k

-- r is the first term of the row from `from` on and before `to`, if there is one
abbrev pub Next : List ℕ → ℕ → ℕ → Option ℕ → Type 0
Next row from to r = MatchOption r (Free row from to) (First row from to)

-- of the row's terms from `from` on, r is the first, if there is one, and those from `on` on are left, of the same row
abbrev pub Gives : List ℕ → ℕ → Option ℕ → List ℕ → ℕ → Type 0
Gives row from r left on =
    (left ≡ row) × MatchOption r (Free row from 4096) (λ k. First row from 4096 k × (on ≡ k + 1))

-- term k is the row's only one, but perhaps for the empty one
abbrev pub Only : List ℕ → ℕ → Type 0
Only row k = (l : ℕ) → 1 ≤ l → l < 4096 → bit_at row l ≡ eqb k l

-- the row's form is parameter p, or parameter p xor true, where r is p, and neither of any parameter where r is none
abbrev pub Lone : List ℕ → Option ℕ → Type 0
Lone row r =
    MatchOption r ((p : ℕ) → p < 12 → Only row (2 ^ p) → ⊥) (λ p. (p < 12) × Only row (2 ^ p))

-- r is the row old with term i joined with each term of b
pub record Joined (old b : List ℕ) (i : ℕ) (r : List ℕ) : Type 0 where
  pub words : Words 64 r
  pub bits : (l : ℕ) → l < 4096 → bit_at r l ≡ bit_at old l ⊕ parity 4096 (λ j. bit_at b j && eqb (bit_or i j) l)

-- r is the row of term k alone
pub record Alone (k : ℕ) (r : List ℕ) : Type 0 where
  pub words : Words 64 r
  pub bits : (l : ℕ) → l < 4096 → bit_at r l ≡ eqb k l

-- masks of the bits of a word whose number lacks parameter p, for the six parameters inside a word
abbrev pub masks : List ℕ
masks =
    0x5555_5555_5555_5555 ∷ 0x3333_3333_3333_3333 ∷ 0x0F0F_0F0F_0F0F_0F0F
    ∷ 0x00FF_00FF_00FF_00FF ∷ 0x0000_FFFF_0000_FFFF ∷ 0x0000_0000_FFFF_FFFF ∷ []

-- bit k after the pass of parameter p: with the parameter it takes on the bit without it
unfoldable pub passed_bit : List ℕ → ℕ → ℕ → Bool
passed_bit row p k = bit_at row k ⊕ (bit k p && bit_at row (k - 2 ^ p))

-- r is word i of the row after the pass
abbrev pub PassedWord : List ℕ → ℕ → ℕ → ℕ → Type 0
PassedWord row p i r = (t : ℕ) → t < 64 → bit r t ≡ passed_bit row p (64 * i + t)

-- r is the row after the pass
pub record Passed (row : List ℕ) (p : ℕ) (r : List ℕ) : Type 0 where
  pub words : Words 64 r
  pub bits : (k : ℕ) → k < 4096 → bit_at r k ≡ passed_bit row p k

-- the first count rows of ts are the truth values of σ's forms
abbrev pub Tables : List ℕ → ℕ → (ℕ → Form most) → Type 0
Tables ts count σ = (j : ℕ) → j < count → row_at ts j ≡ pack most (truth most (σ j))

-- r is the row of a's form xor (p's form and b's form, bit by bit)
abbrev pub Mixed : List ℕ → List ℕ → List ℕ → List ℕ → Type 0
Mixed a p b r =
    (m : ℕ) (f g h : Form m) → a ≡ pack m f → p ≡ pack m g → b ≡ pack m h → r ≡ pack m (xor m f (each m g h))

-- r holds the truth values of the form of the row's 2^p bits from k on, with the forms of the tables put in
abbrev pub PutTerms : List ℕ → List ℕ → ℕ → ℕ → List ℕ → Type 0
PutTerms row ts p k r =
    (σ : ℕ → Form most) → Tables ts p σ → r ≡ pack most (truth most (put_in p most (of_terms p (bit_at row) k) σ))

-- the forms whose numbers are bits of the mask, and false for the others
unfoldable pub only_named : ℕ → (ℕ → Form most) → ℕ → Form most
only_named named σ j = cond (bit named j) (σ j) (constant most false)

-- r holds the truth values of form j of those rows, or of false where it is not named
abbrev pub TableOf : List ℕ → ℕ → ℕ → ℕ → ℕ → List ℕ → Type 0
TableOf ws base count named j r =
    (rows : List (Form most)) → Holds most ws base count rows
    → r ≡ pack most (truth most (only_named named (form_in most rows) j))

-- ts holds the truth values of the first twelve forms of those rows, and of false for those that are not named
abbrev pub TablesOf : List ℕ → ℕ → ℕ → ℕ → List ℕ → Type 0
TablesOf ws base count named ts =
    (rows : List (Form most)) → Holds most ws base count rows → Tables ts 12 (only_named named (form_in most rows))
