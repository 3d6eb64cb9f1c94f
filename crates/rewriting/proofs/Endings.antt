-- The values of a record's shifts at the end of a log, kind by kind, and the setting that they make.
-- Assumes nothing.
use mathlib.Core.Path.{◌≡◌, refl, sym, ap, ap₂, ◌∙◌, subst}
use mathlib.Core.Bool.{Bool, true, false, ◌&&◌, ◌||◌, and-true, and-false, or-false}
use mathlib.Core.List.{List, [], ◌∷◌, ◌++◌, append-nil, append_assoc}
use Prim.Native.Nat.{ℕ, ◌+◌, ◌*◌, ◌%◌, ◌^◌, ◌≤◌, ◌<◌}
use native.Mathlib.Decide.{dec_lt}
use native.Mathlib.Numerals.{add-one}
use native.Mathlib.Omega.{arith}
use lib.Bits.{bit_or}
use lib.Dec.{eqb}
use lib.ListN.{length, get_or-eq_default}
use borrow.Author.Tests.{ne_eqb, eqb-true, eqb-false}
use Rattle.ground.specs.Fold.{tab}
use Rattle.ground.specs.Bits.{bit}
use Rattle.ground.proofs.Bits.{bit_or_lem, bit_pow, one_shl}
use Rattle.forms.specs.Form.{Form, constant, value}
use Rattle.forms.specs.Area.{form_in}
use Rattle.forms.specs.declared.area.Rows.{Rows}
use Rattle.forms.proofs.Values.{value_constant}
use Rattle.meaning.specs.Rule.{Node}
use Rattle.meaning.specs.Rewriting.{derived_row}
use Rattle.meaning.proofs.Blocks.{block_low, one_new, length_one, length_block}
use Rattle.meaning.proofs.Ending.{end_value, derived_end}
use Rattle.rewriting.specs.declared.row.Row.TheVariants.{Derived}
use Rattle.rewriting.specs.declared.step.Step.{Step}
use Rattle.std.specs.Prelude.{None}
use Rattle.rewriting.specs.Decode.{node_for}
use Rattle.rewriting.specs.inside.Steps.{neighbour_of, entry_in, row_by, made_of, at_shift}
use Rattle.rewriting.specs.inside.Endings.{Settled, OfEnd, OfEnds}

module _ (step : Step) (past forms derived : List (Form step.m)) (alone : step.neighbour ≡ None) (setting : ℕ)
    (settled : Settled step.m derived setting) (b : Bool) where
  abbrev pub end_of : Node → Bool
  end_of d = end_value step.m past forms (bit setting) (entry_in step) step.first d step.shift

  abbrev pub Ends : Type 0
  Ends = made_of Derived step derived past forms (node_for step.record) step.shift ≡ constant step.m b

  pub end_is : b ≡ end_of (node_for step.record) → Ends
  unfolding made_of row_by
  end_is e =
      ap (λ x. derived_row step.m past forms derived (entry_in step) (neighbour_of x) step.first
      (node_for step.record) step.shift) alone
      ∙ derived_end step.m derived (bit setting) settled past forms (entry_in step) step.first
      (node_for step.record) step.shift
      ∙ ap (constant step.m) (sym e)

-- a setting with the value of one parameter more
pub with_true : (setting p : ℕ) (b : Bool) → p < 64 → b ≡ true → (t : ℕ)
    → bit (bit_or setting ((1 * 2 ^ p) % 2 ^ 64)) t ≡ (bit setting t || (b && eqb p t))
with_true setting p b h e t =
    bit_or_lem setting ((1 * 2 ^ p) % 2 ^ 64) t
    ∙ ap₂ (λ x y. bit setting t || (x && y)) (sym e) (ap (λ x. bit x t) (one_shl p h) ∙ bit_pow p t)

module _ (m : ℕ) where
  -- past the rows the setting is false
  settled_past : (rows : List (Form m)) (setting j : ℕ) → Settled m rows setting → length rows ≤ j
      → bit setting j ≡ false
  settled_past rows setting j s h =
      let e = sym (s j) ∙ get_or-eq_default rows (constant m false) h in
      sym (value_constant m (bit setting j) (λ i. false)) ∙ ap (λ f. value m f (λ i. false)) e
      ∙ value_constant m false (λ i. false)

  -- one row more
  settled_one : (rows : List (Form m)) (p setting r : ℕ) (f : Form m) (b : Bool) → length rows ≡ p
      → Settled m rows setting → f ≡ constant m b → ((t : ℕ) → bit r t ≡ (bit setting t || (b && eqb p t)))
      → Settled m (rows ++ (f ∷ [])) r
  settled_one rows p setting r f b l s e w j = go (dec_lt j p) (eqb p j) refl
    where
      more : List (Form m)
      more = rows ++ (f ∷ [])

      off : eqb p j ≡ false → bit r j ≡ bit setting j
      off q =
          w j ∙ ap (λ x. bit setting j || (b && x)) q ∙ ap (λ x. bit setting j || x) (and-false b)
          ∙ or-false (bit setting j)

      go : Dec (j < p) → (t : Bool) → eqb p j ≡ t → form_in m more j ≡ constant m (bit r j)
      go (yes h) t q =
          block_low rows (f ∷ []) p j (constant m false) l h ∙ s j
          ∙ ap (constant m) (sym (off (ne_eqb p j (λ z. let y : ⊥ = omega arith in y))))
      go (no h) true q =
          subst (λ x. form_in m more x ≡ f) (eqb-true p j q) (one_new rows f p (constant m false) l) ∙ e
          ∙ ap (constant m)
          (sym (w j ∙ ap₂ (λ x y. x || (b && y)) (settled_past rows setting j s (omega arith)) q ∙ and-true b))
      go (no h) false q =
          let n = eqb-false p j q in
          let out : length more ≤ j = omega (arith, length_one rows f p l, n) in
          get_or-eq_default more (constant m false) out
          ∙ ap (constant m) (sym (off q ∙ settled_past rows setting j s (omega arith)))

  -- no row of a block, and one more
  settled_none : (rows : List (Form m)) (g : ℕ → Form m) (setting : ℕ) → Settled m rows setting
      → Settled m (rows ++ tab 0 g) setting
  unfolding tab
  settled_none rows g setting s = subst (λ x. Settled m x setting) (sym (append-nil rows)) s

  settled_more : (rows : List (Form m)) (g : ℕ → Form m) (o n setting r : ℕ) (b : Bool) → length rows ≡ o
      → Settled m (rows ++ tab n g) setting → g n ≡ constant m b
      → ((t : ℕ) → bit r t ≡ (bit setting t || (b && eqb (o + n) t))) → Settled m (rows ++ tab (n + 1) g) r
  unfolding tab
  settled_more rows g o n setting r b l s e w =
      subst (λ x. Settled m x r)
      (append_assoc rows (tab n g) (g n ∷ []) ∙ ap (λ k. rows ++ tab k g) (sym (add-one n)))
      (settled_one (rows ++ tab n g) (o + n) setting r (g n) b (length_block rows g n o l) s e w)

-- a record's shifts: none, one more, and all of them
module _ (step : Step) (before held : Rows) (setting : ℕ) where
  pub ends_none : OfEnds step 0 before held setting setting
  ends_none past forms derived alone hp hf hl hs =
      settled_none step.m derived (made_of Derived step derived past forms (node_for step.record)) setting hs

  pub ends_more : (grown n r : ℕ) (b : Bool) → OfEnds step n before held setting grown
      → (turn : Step) (byte : n < 256) → turn ≡ at_shift step n byte → OfEnd turn before held setting b
      → ((t : ℕ) → bit r t ≡ (bit grown t || (b && eqb (step.first + n) t))) → OfEnds step (n + 1) before held setting r
  unfolding made_of entry_in
  ends_more grown n r b old turn byte is new w past forms derived alone hp hf hl hs =
      settled_more step.m derived (made_of Derived step derived past forms (node_for step.record)) step.first
      n grown r b hl (old past forms derived alone hp hf hl hs)
      (subst (λ s. OfEnd s before held setting b) is new past forms derived alone hp hf hs) w
