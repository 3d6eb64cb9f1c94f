-- One turn of the loops over a rule's records: the rows of one record more.
-- Assumes nothing.
use mathlib.Core.Path.{◌≡◌, refl, sym, ap, ap₂, ◌∙◌, subst}
use mathlib.Core.List.{List}
use Prim.Native.Nat.{ℕ, ◌+◌, ◌≤◌, ◌<◌}
use native.Mathlib.Nat.{le_refl}
use native.Mathlib.Omega.{arith}
use lib.ListN.{length}
use Rattle.forms.specs.Form.{Form}
use Rattle.forms.specs.Words.{pack}
use Rattle.forms.specs.Area.{put_rows, Holds}
use Rattle.forms.specs.declared.area.Rows.{Rows}
use Rattle.meaning.specs.Rule.{node_at, count, first_of}
use Rattle.meaning.specs.Rewriting.{forms_of}
use Rattle.meaning.proofs.Blocks.{first_of_fits}
use Rattle.rewriting.specs.declared.row.Row.{Row}
use Rattle.rewriting.specs.declared.step.Record.{Record}
use Rattle.rewriting.specs.declared.step.Step.{Step}
use Rattle.std.specs.Prelude.{Option}
use Rattle.rewriting.specs.declared.step.Plan.{Plan}
use Rattle.rewriting.specs.declared.step.Moment.{Moment}
use Rattle.rewriting.specs.Decode.{node_in, node_for}
use Rattle.rewriting.specs.Known.{words_for}
use Rattle.rewriting.specs.Plans.{rule_for, entry_for, Sound, form_row}
use Rattle.rewriting.specs.inside.Steps.{Are, neighbour_of, entry_in, own_at, other_at, row_by, made_of}
use Rattle.rewriting.specs.inside.Listed.{Given}
use Rattle.rewriting.specs.inside.Walks.{step_in, Apart, made_row, Puts, table_of, rows_for}
use Rattle.rewriting.proofs.Counting.{first_of_rule, parameters_done}
use Rattle.rewriting.proofs.Making.{own_room, rows_apart, length_table, table_more, table_made}
use Rattle.rewriting.proofs.Rules.{node_in_lem, record_node, record_count}
use Rattle.rewriting.proofs.Written.{wrote_block, held_put, held_kept}

-- a plan's parameters, and the first of a record, are among those of a row
pub first_fits : (list : List ℕ) (plan : Plan) → Sound list plan → (k first : ℕ)
    → first ≡ first_of (rule_for list plan) k → (plan.m ≤ 12) × (first ≤ 12)
first_fits list plan sound k first e = (
  omega (arith, sound.few, sound.room),
  omega (arith, sound.own, first_of_fits (rule_for list plan) k, e, sound.few, sound.room),
)

-- the c parameters of record k of the rule begin at first
module _ (list : List ℕ) (plan : Plan) (sound : Sound list plan) (k first c : ℕ) (d : Record)
    (given : Given list plan.records k d first) (counted : c ≡ count (node_for d)) where
  less : k < plan.records
  less = given.less

  begins : first ≡ first_of (rule_for list plan) k
  begins = given.begins

  counts : c ≡ count (node_in list k)
  counts = record_count list k d given.read c counted

  -- they are among the rule's
  pub block_fits : first + c ≤ plan.m
  block_fits =
      omega (
        arith,
        sound.own,
        first_of_fits (rule_for list plan) (k + 1),
        first_of_rule list plan.records k less,
        begins,
        counts,
      )

  -- behind them those of the next record begin
  pub block_next : first + c ≡ first_of (rule_for list plan) (k + 1)
  block_next = omega (arith, begins, counts, first_of_rule list plan.records k less)

  count_is : c ≡ count (node_at (rule_for list plan) k)
  count_is = counts ∙ ap count (sym (node_in_lem list plan.records k less))

  module _ (here : Moment) (near : Option ℕ) (narrow : plan.m ≤ 12) (within : first ≤ 12) (step : Step)
      (is : step ≡ step_in d first plan.m here near narrow within) where
    node_is : node_for d ≡ node_at (rule_for list plan) k
    node_is = record_node list k d given.read ∙ sym (node_in_lem list plan.records k less)

    -- what the loops over its shifts ask for: the scratch comes after the past rows
    pub step_ready : (held : ℕ) → held ≤ plan.m → Apart step c (plan.places + 1) held
    step_ready held h =
        subst (λ (s : Step). Apart s c (plan.places + 1) held) (sym is)
        (record {
          before = omega (arith, sound.few);
          behind = omega (arith, block_fits, sound.few);
          low = omega (arith, sound.room);
        })

    -- the rows of record k
    pub rows_block : (row : Row) (held : ℕ) (other : List (Form plan.m)) (before : Rows) (ws area next : List ℕ)
        → Are plan.m before (forms_of plan.m (rule_for list plan) k) → length ws ≡ words_for plan.places → held ≤ plan.m
        → Holds plan.m ws (other_at row (plan.places + 1)) held other
        → area
        ≡ put_rows ws (own_at row (plan.places + 1)) first (form_row plan.m (rows_for row list plan here near other))
        → Puts row step c before area (plan.places + 1) held next
        → next
        ≡ put_rows ws (own_at row (plan.places + 1)) (first + c)
        (form_row plan.m (rows_for row list plan here near other))
    unfolding form_row made_row made_of entry_in words_for
    rows_block row held other before ws area next hf long few ho w puts =
        let m : ℕ = plan.m in
        let rule = rule_for list plan in
        let scratch : ℕ = plan.places + 1 in
        let base : ℕ = own_at row scratch in
        let e = entry_for here in
        let nb = neighbour_of near in
        let forms : List (Form m) = forms_of m rule k in
        let own : List (Form m) = table_of row m rule other e nb k in
        let rows : ℕ → List ℕ = form_row m (rows_for row list plan here near other) in
        let made = made_row row (step_in d first m here near narrow within) own other forms in
        wrote_block ws base rows first c (base + first) made area next w refl
        (subst (λ s. Puts row s c before area scratch held next) is puts own other forms
        (record {
          mine =
              held_put m ws base first own rows area w (length_table row m rule other e nb k ∙ sym begins)
              (own_room row plan.places first ws long (omega (arith, block_fits, sound.few)))
              (λ j l.
              ap (pack m)
              (table_more row m rule other e nb k plan.records j (omega arith) (omega (arith, begins))));
          theirs =
              held_kept m ws (other_at row scratch) held other rows base first area w
              (rows_apart row scratch held base first (omega (arith, sound.few)) (le_refl base)
              (omega (arith, block_fits, sound.few)))
              ho;
        })
        hf)
        (λ i l.
        ap₂ (λ x y. pack m (row_by row m own other forms e nb x y i)) begins node_is
        ∙ ap (pack m) (sym (table_made row m rule other e nb k plan.records i less (omega (arith, count_is))))
        ∙ ap (λ x. rows (x + i)) (sym begins))

-- the parameters of all records are the rule's
pub walked_all : (list : List ℕ) (plan : Plan) (k first : ℕ) (ws area : List ℕ) (base : ℕ) (g : ℕ → List ℕ)
    → Sound list plan → first ≡ first_of (rule_for list plan) k → k ≤ plan.records → plan.records ≤ k
    → area ≡ put_rows ws base first g → area ≡ put_rows ws base plan.m g
walked_all list plan k first ws area base g sound begins h l e =
    e ∙ ap (λ x. put_rows ws base x g) (parameters_done list plan.records k first begins h l ∙ sym sound.own)
