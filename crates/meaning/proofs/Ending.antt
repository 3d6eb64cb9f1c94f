-- At the end every derived row is a constant, so closing leaves a constant, whatever is known.
-- Assumes nothing.
use mathlib.Core.Path.{◌≡◌, refl, sym, ap, ◌∙◌, subst}
use mathlib.Core.Bool.{Bool, true, false, ◌&&◌, ◌||◌, or-false}
use mathlib.Core.List.{List, ◌++◌}
use Prim.Native.Nat.{ℕ, zero, suc, ◌+◌, ◌-◌, ◌≤◌, ◌<◌}
use native.Mathlib.Decide.{dec_lt}
use native.Mathlib.Omega.{arith}
use lib.ListN.{length, get_or-append, get_or-eq_default}
use lib.Seq.{get_or-append-add}
use Rattle.ground.specs.Fold.{tab}
use Rattle.ground.proofs.Tabs.{length_tab, get_d_tab}
use Rattle.forms.specs.Form.{Form, constant, or, value, same}
use Rattle.forms.specs.Area.{form_in}
use Rattle.forms.proofs.Values.{value_agree, value_constant, value_or, value_put_in}
use Rattle.forms.proofs.Depends.{constant_is}
use Rattle.forms.proofs.Reading.{same_refl, same_not, constants_differ}
use Rattle.meaning.specs.Interval.{inside, shifted}
use Rattle.meaning.specs.Rule.{Node, fixed, signal, both, either, next, until, previous, since}
use Rattle.meaning.specs.Rule.{node_at, count, first_of, Entry, holds}
use Rattle.meaning.specs.Rewriting.{none, put, only_if, forms_of, next_row, until_later, derived_row, derived_rows}
use Rattle.meaning.specs.Words.{Known, close, value_if_last}

module _ (m : ℕ) where
  -- a form or nothing
  or_nothing : (b : Bool) (f : Form m) (v : Bool) → f ≡ constant m v
      → or m (only_if m b f) (constant m false) ≡ constant m (b && v)
  unfolding only_if
  or_nothing b f v e =
      constant_is m (or m (only_if m b f) (constant m false)) (b && v)
      (λ ρ.
      value_or m (only_if m b f) (constant m false) ρ
      ∙ ap (λ x. value m (only_if m b f) ρ || x) (value_constant m false ρ)
      ∙ or-false (value m (only_if m b f) ρ) ∙ go b ρ)
    where
      go : (b : Bool) (ρ : ℕ → Bool) → value m (only_if m b f) ρ ≡ (b && v)
      go true ρ = ap (λ g. value m g ρ) e ∙ value_constant m v ρ
      go false ρ = value_constant m false ρ

  -- the value of a record's shift n at the end, where ρ has the values of the earlier parameters
  unfoldable pub end_value : (past forms : List (Form m)) → (ℕ → Bool) → Entry → ℕ → Node → ℕ → Bool
  end_value past forms ρ e first (fixed b) n = false
  end_value past forms ρ e first (signal s) n = holds e s
  end_value past forms ρ e first (both l r) n = false
  end_value past forms ρ e first (either l r) n = false
  end_value past forms ρ e first (next l v) n = false
  end_value past forms ρ e first (until l r v) n =
      inside (shifted v n) e.time e.time && value m (form_in m forms r) ρ
  end_value past forms ρ e first (previous l v) n = value m (form_in m past (first + n)) ρ
  end_value past forms ρ e first (since l r v) n = value m (form_in m past (first + n)) ρ

  -- rows that are the constants of a setting
  module _ (rows : List (Form m)) (ρ : ℕ → Bool) (settled : (j : ℕ) → form_in m rows j ≡ constant m (ρ j)) where
    -- put into a form they give its value
    pub put_settled : (f : Form m) → put m f rows ≡ constant m (value m f ρ)
    unfolding put
    put_settled f =
        constant_is m (put m f rows) (value m f ρ)
        (λ ρ'.
        value_put_in m m f (form_in m rows) ρ'
        ∙ value_agree m f _ ρ (λ j h. ap (λ g. value m g ρ') (settled j) ∙ value_constant m (ρ j) ρ'))

    -- the rows derived from them at the end are constants too
    pub derived_end : (past forms : List (Form m)) (e : Entry) (first : ℕ) (d : Node) (n : ℕ)
        → derived_row m past forms rows e none first d n ≡ constant m (end_value past forms ρ e first d n)
    unfolding derived_row next_row until_later end_value
    derived_end past forms e first (fixed b) n = refl
    derived_end past forms e first (signal s) n = refl
    derived_end past forms e first (both l r) n = refl
    derived_end past forms e first (either l r) n = refl
    derived_end past forms e first (next l v) n = refl
    derived_end past forms e first (until l r v) n =
        or_nothing (inside (shifted v n) e.time e.time) (put m (form_in m forms r) rows)
        (value m (form_in m forms r) ρ) (put_settled (form_in m forms r))
    derived_end past forms e first (previous l v) n = put_settled (form_in m past (first + n))
    derived_end past forms e first (since l r v) n = put_settled (form_in m past (first + n))

  -- the value of a constant, read off at any setting
  abbrev read : Form m → Bool
  read f = value m f (λ j. false)

  abbrev Steady : Form m → Type 0
  Steady f = f ≡ constant m (read f)

  steady : (f : Form m) (b : Bool) → f ≡ constant m b → Steady f
  steady f b e = e ∙ ap (constant m) (sym (ap read e ∙ value_constant m b (λ j. false)))

  -- each row of a table that grows by a block stays a constant
  steady_more : (rows : List (Form m)) (c : ℕ) (g : ℕ → Form m) → ((j : ℕ) → Steady (form_in m rows j))
      → ((n : ℕ) → Steady (g n)) → (j : ℕ) → Steady (form_in m (rows ++ tab c g) j)
  steady_more rows c g old new j = go (dec_lt j (length rows)) (dec_lt (j - length rows) c)
    where
      past : length rows ≤ j → form_in m (rows ++ tab c g) j ≡ form_in m (tab c g) (j - length rows)
      past h =
          ap (form_in m (rows ++ tab c g)) (let q : j ≡ length rows + (j - length rows) = omega arith in q)
          ∙ get_or-append-add rows (tab c g) (j - length rows) (constant m false)

      go : Dec (j < length rows) → Dec (j - length rows < c) → Steady (form_in m (rows ++ tab c g) j)
      go (yes h) y = subst Steady (sym (get_or-append rows (tab c g) (constant m false) j h)) (old j)
      go (no h) (yes l) =
          subst Steady (sym (past (omega arith) ∙ get_d_tab c g (j - length rows) (constant m false) l))
          (new (j - length rows))
      go (no h) (no l) =
          let out : length (tab c g) ≤ j - length rows = omega (arith, length_tab c g) in
          steady (form_in m (rows ++ tab c g) j) false
          (past (omega arith) ∙ get_or-eq_default (tab c g) (constant m false) out)

  -- at the end every row is a constant
  rows_steady : (rule : List Node) (past : List (Form m)) (e : Entry) (k j : ℕ)
      → Steady (form_in m (derived_rows m rule past e none k) j)
  unfolding derived_rows
  rows_steady rule past e zero j = sym (ap (constant m) (value_constant m false (λ j. false)))
  rows_steady rule past e (suc k) j =
      let rows = derived_rows m rule past e none k in
      let old : (j : ℕ) → Steady (form_in m rows j) = rows_steady rule past e k in
      steady_more rows (count (node_at rule k))
      (derived_row m past (forms_of m rule k) rows e none (first_of rule k) (node_at rule k)) old
      (λ n. steady _ _ (derived_end rows (λ i. read (form_in m rows i)) old past (forms_of m rule k) e
      (first_of rule k) (node_at rule k) n)) j

  same_constant : (b : Bool) → same m (constant m b) (constant m true) ≡ b
  same_constant true = same_refl m (constant m true)
  same_constant false = same_not m (constant m false) (constant m true) (constants_differ m)

  module _ (rule : List Node) (s : Known m) where
    -- the value of a constant that closing leaves
    pub value_last : (b : Bool) → close m rule s ≡ constant m b → b ≡ value_if_last m rule s
    unfolding value_if_last
    value_last b e = sym (ap (λ f. same m f (constant m true)) e ∙ same_constant b)

    -- closing leaves a constant
    pub close_constant : close m rule s ≡ constant m (value_if_last m rule s)
    unfolding close
    close_constant =
        let rows = derived_rows m rule s.past s.last none (length rule) in
        let e = put_settled rows (λ j. read (form_in m rows j)) (rows_steady rule s.past s.last (length rule))
        s.remainder in
        e ∙ ap (constant m) (value_last _ e)

    -- the remainder's value, where a setting has the constants of the rows derived at the end
    pub last_value : (ρ : ℕ → Bool)
        → ((j : ℕ) → form_in m (derived_rows m rule s.past s.last none (length rule)) j ≡ constant m (ρ j))
        → value m s.remainder ρ ≡ value_if_last m rule s
    unfolding close
    last_value ρ settled = value_last _ (put_settled _ ρ settled s.remainder)
