-- The area after a record is that of the rewriting.
-- Assumes nothing.
use mathlib.Core.Path.{◌≡◌, sym, ap, ◌∙◌, subst}
use mathlib.Core.List.{List, []}
use Prim.Native.Nat.{ℕ, ◌+◌, ◌≤◌}
use native.Mathlib.Omega.{arith}
use lib.ListN.{length, replicate}
use Rattle.forms.specs.Form.{Form, put_in}
use Rattle.forms.specs.Words.{pack}
use Rattle.forms.specs.Rows.{WithRows}
use Rattle.forms.specs.Area.{row_at, put_rows, form_in, Holds}
use Rattle.meaning.specs.Rule.{Node, first_of, parameters}
use Rattle.meaning.specs.Rewriting.{none, at, put, derived_rows, past_rows}
use Rattle.meaning.specs.Words.{leave, feed}
use Rattle.meaning.proofs.Blocks.{length_derived_rows, length_past_rows}
use Rattle.rewriting.specs.declared.row.Row.TheVariants.{Derived, Past}
use Rattle.std.specs.Prelude.{None, Some}
use Rattle.rewriting.specs.declared.step.Plan.{Plan}
use Rattle.rewriting.specs.declared.step.Moment.{Moment}
use Rattle.rewriting.specs.Known.{form_at, past_in, known_in, Tidy}
use Rattle.rewriting.specs.Plans.{rule_for, entry_for, read_in, area_with, Sound, form_row}
use Rattle.rewriting.specs.inside.Walks.{table_of, Walked}
use Rattle.rewriting.proofs.Rules.{length_rule_in}
use Rattle.rewriting.proofs.Placed.{tidy_held}
use Rattle.rewriting.proofs.Feeding.{held_none, first_laid, derived_held, derived_stay, feed_laid, rest_stays}

module _ (list : List ℕ) (plan : Plan) (sound : Sound list plan) where
  -- the rule's own numbers
  pub plan_whole : plan.records ≡ length (rule_for list plan)
  plan_whole = sym (length_rule_in list plan.records)

  pub plan_few : plan.m ≤ 12
  plan_few = omega (arith, sound.few, sound.room)

  plan_firsts : first_of (rule_for list plan) (length (rule_for list plan)) ≡ plan.m
  unfolding parameters
  plan_firsts = sym sound.own

  module _ (ws : List ℕ) (tidy : Tidy plan.places plan.m ws) (new : Moment) where
    -- from the steps of the first record
    pub first_done : (b c : List ℕ) → Walked Past list plan new None 0 ws b
        → c ≡ put_rows b (plan.places + 1) (plan.places + 1) (λ _. replicate 64 0)
        → c ≡ area_with plan (leave plan.m (rule_for list plan) (form_at plan.m ws plan.places) (entry_for new))
    unfolding table_of
    first_done b c p q =
        first_laid plan.places plan.m ws tidy sound.few
        (past_rows plan.m (rule_for list plan) [] (entry_for new) none (length (rule_for list plan))) b c
        (length_past_rows plan.m (rule_for list plan) [] (entry_for new) none (length (rule_for list plan))
        ∙ plan_firsts)
        (subst
        (λ n. b ≡ put_rows ws 0 plan.m (form_row plan.m (past_rows plan.m (rule_for list plan) [] (entry_for new)
        none n)))
        plan_whole (p [] (held_none plan.m ws (plan.places + 1))))
        q

    -- from the steps of a later record
    pub feed_done : (last : Moment) (a l rest b c d : List ℕ)
        → Walked Derived list plan last (Some new.time) plan.m ws a
        → l ≡ row_at a plan.places → WithRows l a (plan.places + 1) plan.m rest
        → b ≡ put_rows a plan.places 1 (λ _. rest)
        → Walked Past list plan new (Some last.time) plan.m b c
        → d ≡ put_rows c (plan.places + 1) (plan.places + 1) (λ _. replicate 64 0)
        → d ≡ area_with plan (feed plan.m (rule_for list plan) (read_in plan ws last) (entry_for new))
    unfolding feed known_in put table_of
    feed_done last a l rest b c d p load h q r clear =
        feed_laid places m ws tidy sound.few derived a long_derived made remainder b stored past c d
        (length_past_rows m rule derived (entry_for new) (at last.time) (length rule) ∙ plan_firsts)
        (subst
        (λ n. c ≡ put_rows b 0 m (form_row m (past_rows m rule derived (entry_for new) (at last.time) n)))
        plan_whole
        (r derived (derived_stay places m ws tidy sound.few derived a long_derived made remainder b stored)))
        clear
      where
        m : ℕ
        m = plan.m

        places : ℕ
        places = plan.places

        rule : List Node
        rule = rule_for list plan

        derived : List (Form plan.m)
        derived = derived_rows m rule (past_in m ws) (entry_for last) (at new.time) (length rule)

        past : List (Form plan.m)
        past = past_rows m rule derived (entry_for new) (at last.time) (length rule)

        remainder : Form plan.m
        remainder = put_in m m (form_at m ws places) (form_in m derived)

        long_derived : length derived ≡ plan.m
        long_derived =
            length_derived_rows m rule (past_in m ws) (entry_for last) (at new.time) (length rule) ∙ plan_firsts

        made : a ≡ put_rows ws (places + 1) m (form_row m derived)
        made =
            subst
            (λ n. a ≡ put_rows ws (places + 1) m (form_row m (derived_rows m rule (past_in m ws) (entry_for last)
            (at new.time) n)))
            plan_whole (p (past_in m ws) (tidy_held places m ws tidy sound.few))

        held : Holds plan.m a (plan.places + 1) plan.m derived
        held = derived_held places m ws tidy sound.few derived a long_derived made

        rewritten : rest ≡ pack plan.m remainder
        rewritten =
            h m (form_at m ws places) derived plan_few
            (load ∙ rest_stays places m ws tidy sound.few a (form_row m derived) made) held

        stored : b ≡ put_rows a places 1 (λ _. pack m remainder)
        stored = q ∙ ap (λ (x : List ℕ). put_rows a places 1 (λ _. x)) rewritten
