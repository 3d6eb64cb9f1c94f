-- The plan that is made for the rule of a state or of a list, and what the rewriting makes of the area by it.
-- Assumes nothing.
use mathlib.Core.Path.{◌≡◌, sym, ap, ap₂, ◌∙◌, subst}
use mathlib.Core.Logic.{◌⊎◌, inl, inr}
use mathlib.Core.List.{List}
use Prim.Native.Nat.{ℕ, ◌≤◌}
use lib.ListN.{length}
use Rattle.rewriting.specs.declared.step.Plan.{Plan}
use Rattle.rewriting.specs.declared.step.Moment.{Moment}
use Rattle.rewriting.specs.Known.{words_for, Tidy}
use Rattle.rewriting.specs.Plans.{Sound, left_with, fed_with}
use Rattle.watcher.specs.declared.state.Phase.TheVariants as phase
use Rattle.watcher.specs.declared.state.Verdict.{Verdict}
use Rattle.watcher.specs.declared.state.Watcher.{Watcher}
use Rattle.watcher.specs.Limits.{most_records, most_parameters, area_words}
use Rattle.watcher.specs.Rules.{records_of}
use Rattle.watcher.specs.Numbers.{stage_of}
use Rattle.watcher.specs.State.{rule_of, parameters_of}
use Rattle.watcher.specs.Calls.{known_next}
use Rattle.watcher.specs.inside.Turns.{plan_on, plan_of, plan_in, rewritten_of}

-- the plan that is made is the state's, or the rule list's
pub sound_listed : (list : List ℕ) (n : ℕ) → n ≡ records_of list → Sound list (plan_in list)
    → Sound list (plan_on list n)
sound_listed list n e s = subst (λ k. Sound list (plan_on list k)) (sym e) s

pub plan_records : (rule : List ℕ) (plan : Plan) (n : ℕ) → plan ≡ plan_on rule n → n ≤ most_records
    → plan.records ≤ most_records
plan_records rule plan n e h = subst (λ k. k ≤ most_records) (sym (ap (λ p. p.records) e)) h

pub plan_room : (rule ws : List ℕ) (plan : Plan) (n : ℕ) → plan ≡ plan_on rule n → length ws ≡ area_words
    → length ws ≡ words_for plan.places
plan_room rule ws plan n e h = h ∙ ap words_for (sym (ap (λ p. p.places) e))

pub tidy_as : (w : Watcher) (ws : List ℕ) (plan : Plan) → plan ≡ plan_of w
    → Tidy most_parameters (parameters_of w) ws → Tidy plan.places plan.m ws
unfolding parameters_of rule_of
tidy_as w ws plan e t = subst (λ p. Tidy p.places p.m ws) (sym e) t

module _ (w : Watcher) (new : Moment) (ws area list : List ℕ) (plan : Plan) (same : list ≡ w.rule)
    (is : plan ≡ plan_of w) where
  -- the first record, and a later one
  left : area ≡ left_with list plan new ws → area ≡ left_with w.rule (plan_of w) new ws
  left h = h ∙ ap₂ (λ l p. left_with l p new ws) same is

  pub left_first : (w.phase ≡ phase.Fresh) ⊎ ((v : Verdict) × (w.phase ≡ phase.Closed v))
      → area ≡ left_with list plan new ws → area ≡ rewritten_of w new ws
  unfolding rewritten_of known_next stage_of parameters_of rule_of
  left_first (inl e) h = rw e (left h)
  left_first (inr e) h = rw e.1 (left h)

  pub fed_running : (last : Moment) → w.phase ≡ phase.Running last.time last.signals
      → area ≡ fed_with list plan last new ws → area ≡ rewritten_of w new ws
  unfolding rewritten_of known_next stage_of parameters_of rule_of
  fed_running last e h = rw e (h ∙ ap₂ (λ l p. fed_with l p last new ws) same is)
