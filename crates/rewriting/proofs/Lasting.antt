-- The setting of a rule's parameters, were this the last record, and the value that it gives.
-- Assumes nothing.
use mathlib.Core.Path.{◌≡◌, refl, sym, ap, ap₂, ◌∙◌, subst}
use mathlib.Core.Bool.{Bool}
use mathlib.Core.List.{List, ◌++◌}
use Prim.Native.Nat.{ℕ, ◌+◌, ◌<◌, ◌≤◌}
use native.Mathlib.Numerals.{add-one}
use lib.ListN.{length}
use Rattle.ground.specs.Fold.{tab}
use Rattle.ground.specs.Bits.{bit}
use Rattle.ground.proofs.Bits.{bit_zero}
use Rattle.forms.specs.Form.{constant, value}
use Rattle.forms.specs.Area.{form_in}
use Rattle.forms.specs.declared.area.Rows.{Rows}
use Rattle.meaning.specs.Rule.{count, first_of}
use Rattle.meaning.specs.Rewriting.{none, forms_of, derived_row, derived_rows}
use Rattle.meaning.specs.Words.{value_if_last}
use Rattle.meaning.proofs.Blocks.{length_derived_rows}
use Rattle.meaning.proofs.Ending.{last_value}
use Rattle.rewriting.specs.declared.step.Record.{Record}
use Rattle.rewriting.specs.declared.step.Step.{Step}
use Rattle.rewriting.specs.declared.step.Plan.{Plan}
use Rattle.rewriting.specs.declared.step.Moment.{Moment}
use Rattle.std.specs.Prelude.{None}
use Rattle.rewriting.specs.Decode.{node_in, node_for}
use Rattle.rewriting.specs.Known.{past_in, known_in, form_at}
use Rattle.rewriting.specs.Plans.{rule_for, entry_for, read_in}
use Rattle.rewriting.specs.inside.Steps.{Are, entry_in, row_by, made_of}
use Rattle.rewriting.specs.inside.Listed.{Given}
use Rattle.rewriting.specs.inside.Walks.{step_in}
use Rattle.rewriting.specs.inside.Endings.{Settled, OfEnds, last_rows}
use Rattle.rewriting.proofs.Rules.{length_rule_in, node_in_lem, record_node, record_count}

-- the derived rows of one record more
last_rows_more : (list : List ℕ) (plan : Plan) (last : Moment) (ws : List ℕ) (k : ℕ) → k < plan.records
    → last_rows list plan last ws (k + 1)
    ≡ last_rows list plan last ws k
    ++ tab (count (node_in list k))
    (derived_row plan.m (past_in plan.m ws) (forms_of plan.m (rule_for list plan) k)
    (last_rows list plan last ws k)
    (entry_for last) none (first_of (rule_for list plan) k) (node_in list k))
unfolding last_rows derived_rows
last_rows_more list plan last ws k h = rw (add-one, node_in_lem list plan.records k h)

length_last_rows : (list : List ℕ) (plan : Plan) (last : Moment) (ws : List ℕ) (k : ℕ)
    → length (last_rows list plan last ws k) ≡ first_of (rule_for list plan) k
unfolding last_rows
length_last_rows list plan last ws k =
    length_derived_rows plan.m (rule_for list plan) (past_in plan.m ws) (entry_for last) none k

module _ (list : List ℕ) (plan : Plan) (last : Moment) (ws : List ℕ) where
  -- no record, one more, and all of them
  pub last_none : Settled plan.m (last_rows list plan last ws 0) 0
  unfolding last_rows derived_rows
  last_none j = ap (constant plan.m) (sym (bit_zero j))

  pub last_more : (k : ℕ) (before held : Rows) → Are plan.m before (forms_of plan.m (rule_for list plan) k)
      → Are plan.m held (past_in plan.m ws) → (first c setting r : ℕ) (step : Step)
      (d : Record) → Given list plan.records k d first → c ≡ count (node_for d)
      → (few : plan.m ≤ 12) (within : first ≤ 12)
      → step ≡ step_in d first plan.m last None few within
      → Settled plan.m (last_rows list plan last ws k) setting
      → OfEnds step c before held setting r → Settled plan.m (last_rows list plan last ws (k + 1)) r
  unfolding made_of row_by entry_in
  last_more k before held hf hp first c setting r step d given counted few within is s ends =
      let m = plan.m in
      let rule = rule_for list plan in
      let rows = last_rows list plan last ws k in
      let past = past_in m ws in
      let forms = forms_of m rule k in
      let q = record_count list k d given.read c counted in
      subst (λ x. Settled m x r)
      (ap (λ i. rows ++ tab i (derived_row m past forms rows (entry_for last) none first (node_for d))) q
      ∙ ap₂ (λ i x. rows ++ tab (count (node_in list k)) (derived_row m past forms rows (entry_for last) none i x))
      given.begins
      (record_node list k d given.read)
      ∙ sym (last_rows_more list plan last ws k given.less))
      (subst (λ x. OfEnds x c before held setting r) is ends past forms rows refl hp hf
      (length_last_rows list plan last ws k ∙ sym given.begins) s)

-- the remainder's value under that setting
pub last_valued : (list : List ℕ) (plan : Plan) (last : Moment) (ws : List ℕ) (setting : ℕ) (b : Bool)
    → Settled plan.m (last_rows list plan last ws plan.records) setting
    → b ≡ value plan.m (form_at plan.m ws plan.places) (bit setting)
    → b ≡ value_if_last plan.m (rule_for list plan) (read_in plan ws last)
unfolding last_rows known_in
last_valued list plan last ws setting b s e =
    e
    ∙ last_value plan.m (rule_for list plan) (read_in plan ws last) (bit setting)
    (subst
    (λ x. (j : ℕ)
    → form_in plan.m (derived_rows plan.m (rule_for list plan) (past_in plan.m ws) (entry_for last) none x) j
    ≡ constant plan.m (bit setting j))
    (sym (length_rule_in list plan.records)) s)
