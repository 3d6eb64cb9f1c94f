-- What the functions on rows answer: a row of 64 words is read as a form over any number of parameters, up to 12.
use Rattle.std.specs.Prelude.{◌≡◌, true, false, cond, List, ℕ, ◌≤◌}
use Rattle.forms.specs.Form.{Form, constant, put_in, same}
use Rattle.forms.specs.Words.{pack}
use Rattle.forms.specs.Area.{form_in, Holds}
use Rattle.forms.specs.declared.rows.Truth.{Truth}
use Rattle.forms.specs.declared.rows.Truth.TheVariants.{True, False, Open}

-- the answer is the row's form's
abbrev pub OfForm : {A : Type 0} → ((m : ℕ) → Form m → A) → List ℕ → A → Type 0
OfForm answer row r = (m : ℕ) (f : Form m) → m ≤ 12 → row ≡ pack m f → r ≡ answer m f

-- the answer is the row of what two rows' forms make
abbrev pub OfForms : ((m : ℕ) → Form m → Form m → Form m) → List ℕ → List ℕ → List ℕ → Type 0
OfForms made a b r = (m : ℕ) (f g : Form m) → m ≤ 12 → a ≡ pack m f → b ≡ pack m g → r ≡ pack m (made m f g)

-- the answer is the row of form j of an area's rows; false from count on
abbrev pub OfRow : List ℕ → ℕ → ℕ → ℕ → List ℕ → Type 0
OfRow ws base count j r = (m : ℕ) (rows : List (Form m)) → Holds m ws base count rows → r ≡ pack m (form_in m rows j)

-- the answer is the row's form with the forms of an area's rows put in, and false for parameters from count on
abbrev pub WithRows : List ℕ → List ℕ → ℕ → ℕ → List ℕ → Type 0
WithRows row ws base count r =
    (m : ℕ) (f : Form m) (rows : List (Form m)) → m ≤ 12 → row ≡ pack m f → Holds m ws base count rows
    → r ≡ pack m (put_in m m f (form_in m rows))

-- which constant a form is, if any
unfoldable pub which_constant : (m : ℕ) → Form m → Truth
which_constant m f = cond (same m f (constant m true)) True (cond (same m f (constant m false)) False Open)
