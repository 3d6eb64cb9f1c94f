-- Writing the remainder and clearing the scratch lays the area out: at the end of a log, and at its start.
-- Assumes nothing.
use mathlib.Core.Path.{◌≡◌, refl, sym, ap, ◌∙◌}
use mathlib.Core.Bool.{Bool}
use mathlib.Core.Logic.{inl}
use mathlib.Core.List.{List, []}
use Prim.Native.Nat.{ℕ, ◌+◌, ◌-◌, ◌<◌}
use native.Mathlib.Omega.{arith}
use lib.ListN.{length, replicate}
use Rattle.forms.specs.Form.{Form, constant}
use Rattle.forms.specs.Words.{pack}
use Rattle.forms.specs.Area.{row_at, put_rows, form_in}
use Rattle.forms.proofs.Packing.{pack_words, pack_false}
use Rattle.forms.proofs.Areas.{length_put_rows, row_kept}
use Rattle.meaning.specs.Rewriting.{forms_of}
use Rattle.meaning.specs.Words.{start}
use Rattle.rewriting.specs.declared.step.Plan.{Plan}
use Rattle.rewriting.specs.Known.{words_for, area_of, Tidy}
use Rattle.rewriting.specs.Plans.{rule_for, closed_with}
use Rattle.rewriting.proofs.Rules.{length_rule_in}
use Rattle.rewriting.proofs.Placed.{words_for_rows, tidy_past, row_among, cleared_laid}

-- the remainder written, and zeros behind it
pub record Rested (ws : List ℕ) (places : ℕ) (row written out : List ℕ) : Type 0 where
  pub rest : written ≡ put_rows ws places 1 (λ _. row)
  pub zeros : out ≡ put_rows written (places + 1) (places + 1) (λ _. replicate 64 0)

rest_laid : (places m : ℕ) (past : List (Form m)) (f : Form m) (ws row written out : List ℕ)
    → length ws ≡ words_for places → ((j : ℕ) → j < places → row_at ws j ≡ pack m (form_in m past j)) → row ≡ pack m f
    → Rested ws places row written out → out ≡ area_of places m past f
rest_laid places m past f ws row written out l p e r =
    cleared_laid places m past f written out (ap length r.rest ∙ length_put_rows ws places 1 (λ _. row) ∙ l)
    (λ j h. ap (λ a. row_at a j) r.rest ∙ row_kept ws places 1 (λ _. row) j (inl h) ∙ p j h)
    (ap (λ a. row_at a places) r.rest
    ∙ row_among ws places 1 places row (omega arith) (omega arith) (omega (arith, words_for_rows places))
    (ap length e ∙ (pack_words m f).long)
    ∙ e) r.zeros

-- the end: the past rows stay
pub closed_laid : (plan : Plan) (ws row written out : List ℕ) (b : Bool) → Tidy plan.places plan.m ws
    → row ≡ pack plan.m (constant plan.m b) → Rested ws plan.places row written out
    → out ≡ closed_with plan b ws
closed_laid plan ws row written out b tidy e r =
    rest_laid plan.places plan.m _ (constant plan.m b) ws row written out tidy.long
    (tidy_past plan.places plan.m ws tidy) e r

-- the start: the past rows are cleared, and the remainder is the rule's form
pub begun_laid : (list : List ℕ) (plan : Plan) (ws cleared row written out : List ℕ)
    → length ws ≡ words_for plan.places → cleared ≡ put_rows ws 0 plan.places (λ _. replicate 64 0)
    → row
    ≡ pack plan.m (form_in plan.m (forms_of plan.m (rule_for list plan) plan.records) (plan.records - 1))
    → Rested cleared plan.places row written out
    → out ≡ area_of plan.places plan.m [] (start plan.m (rule_for list plan))
unfolding start
begun_laid list plan ws cleared row written out l z e r =
    rest_laid plan.places plan.m [] (start plan.m (rule_for list plan)) cleared row written out
    (ap length z ∙ length_put_rows ws 0 plan.places (λ _. replicate 64 0) ∙ l)
    (λ j h.
    ap (λ a. row_at a j) z
    ∙ row_among ws 0 plan.places j (replicate 64 0) (omega arith) (omega arith)
    (omega (arith, words_for_rows plan.places)) refl
    ∙ pack_false plan.m)
    (e
    ∙ ap (λ n. pack plan.m (form_in plan.m (forms_of plan.m (rule_for list plan) n) (n - 1)))
    (sym (length_rule_in list plan.records))) r
