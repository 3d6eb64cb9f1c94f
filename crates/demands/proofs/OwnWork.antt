-- The watcher never refuses its own work, and refuses the rest by document 01's numbers.
-- Assumes nothing.
use mathlib.Core.Path.{◌≡◌, refl, sym, ap, ap₂, ◌∙◌, subst}
use mathlib.Core.Bool.{cond}
use mathlib.Core.List.{List, [], ◌∷◌}
use Prim.Native.Nat.{ℕ, ◌<◌}
use Rattle.forms.specs.Form.{constant}
use Rattle.forms.specs.Area.{row_at}
use Rattle.meaning.specs.Meaning.{value_of}
use Rattle.meaning.specs.Horizon.{never, horizon}
use Rattle.meaning.specs.Words.{Known, after}
use Rattle.watcher.specs.declared.state.Phase.{Phase}
use Rattle.watcher.specs.declared.state.Phase.TheVariants as phase
use Rattle.watcher.specs.Limits.{most_parameters}
use Rattle.watcher.specs.Numbers.{refusal_number, found_in, found_at}
use Rattle.watcher.specs.Calls.{fresh_state, running_state, closed_state, wait_of}
use Rattle.watcher.specs.Machine.{MachineBytes}
use Rattle.watcher.specs.Runs.{Held}
use Rattle.watcher.proofs.Decoded.{Accepted}
use Rattle.demands.specs.Watching.{Functions, Meets, defined, closing, told, ending, handed, reached}
use Rattle.demands.specs.Watching.{MachineCall}
use Rattle.demands.specs.Logs.{last_time, Course, going, over, course_of, log_in}
use Rattle.demands.specs.Rewritten.{read_rule, parameters_in, held_known, held_after, held_closed, held_in}
use Rattle.demands.specs.Tables.{Carries}
use Rattle.demands.specs.OwnWork.{OwnWorkIsFine}
use Rattle.rewriting.proofs.TidyRows.{past_laid}
use Rattle.demands.proofs.OwnStates.{start_accepted, state_in, rule_in, lists_in}
use Rattle.demands.proofs.Logs.{Right}
use Rattle.demands.proofs.Courses.{Sound, ready_after, wrong_stays, early_stays, close_none, close_some}
use Rattle.demands.proofs.Courses.{closed_stays, sound_in}
use Rattle.demands.proofs.Deciding.{course_right}
use Rattle.demands.proofs.Following.{start_fine, reached_is, told_is, ending_is, handed_is}
use Rattle.demands.proofs.Asking.{asks_ending}

module _ (rule signals : List ℕ) (fine : Accepted rule signals) where
  -- closing leaves the past rows
  past_kept : (course : Course) → Right signals (log_in course) → (j : ℕ) → j < most_parameters
      → row_at (handed defined (held_in rule signals course) closing).area j
      ≡ row_at (held_in rule signals course).area j
  unfolding held_in log_in held_after held_known held_closed
  past_kept (going []) r j h = ap (λ (x : Held). row_at x.area j) (close_none rule signals fine).1
  past_kept (going (e ∷ es)) r j h =
      let m : ℕ = parameters_in rule in
      let s : Known m = after m (read_rule rule) e es in
      ap (λ (x : Held). row_at x.area j) (close_some rule signals fine e es r).1
      ∙ past_laid most_parameters m s.past (constant m (value_of (e ∷ es) (read_rule rule))) j h
      ∙ sym (past_laid most_parameters m s.past s.remainder j h)
  past_kept (over e es) r j h =
      ap (λ (x : Held). row_at x.area j) (closed_stays rule signals fine e es r []).1.1

  -- the wait that a state tells is the rule's horizon, in every phase
  wait_in : (p : Phase) → wait_of (state_in rule signals p) ≡ horizon (read_rule rule)
  unfolding wait_of
  wait_in p =
      ap₂ (λ b r. cond b never (horizon r)) (lists_in rule signals fine p) (rule_in rule signals fine p)

  pub wait_held : (course : Course) → wait_of (held_in rule signals course).state ≡ horizon (read_rule rule)
  unfolding held_in held_after held_known held_closed fresh_state running_state closed_state state_in
  wait_held (going []) = wait_in phase.Fresh
  wait_held (going (e ∷ es)) = wait_in (phase.Running _ _)
  wait_held (over e es) = wait_in (phase.Closed _)

module _ (f : Functions) (right : Meets f) where
  pub own_work : OwnWorkIsFine f
  unfolding held_in log_in found_in found_at Carries refusal_number MachineCall
  own_work rule signals ws begun calls machine =
      record {
        whole = (subst Sound (sym here) (sound_in rule signals fine course r)).0;
        sound = (subst Sound (sym here) (sound_in rule signals fine course r)).1;
        wrong =
            λ log c bytes p w.
            told_by bytes p (going log) c 8
            (λ l.
            subst (λ x. Carries (found_in x) 8)
            (sym
            (wrong_stays (held_after rule signals log) (last_time log) (ready_after rule signals fine log l) bytes w).0)
            refl);
        early =
            λ log c bytes p w t.
            told_by bytes p (going log) c 9
            (λ l.
            subst (λ x. Carries (found_in x) 9)
            (sym
            (early_stays (held_after rule signals log) (last_time log) (ready_after rule signals fine log l) bytes w t
            ).0)
            refl);
        closed =
            λ e es c bytes p.
            told_by bytes p (over e es) c 10
            (λ l.
            subst (λ x. Carries (found_in x) 10) (sym (closed_stays rule signals fine e es l bytes).0.0) refl);
        again =
            λ e es c.
            ended_by (over e es) c 10
            (λ l.
            subst (λ x. Carries (found_at x) 10) (sym (closed_stays rule signals fine e es l []).1.0) refl);
        nothing =
            λ c.
            ended_by (going []) c 11
            (λ l. subst (λ x. Carries (found_at x) 11) (sym (close_none rule signals fine).0) refl);
        asks = asks_ending f right rule signals ws begun calls machine;
        past =
            λ j h.
            ap (λ (x : Held). row_at x.area j) (handed_is f right rule signals ws begun calls machine closing tt)
            ∙ past_kept rule signals fine course r j h ∙ sym (ap (λ (x : Held). row_at x.area j) here);
        waits = ap (λ (x : Held). wait_of x.state) here ∙ wait_held rule signals fine course;
      }
    where
      fine : Accepted rule signals
      fine = (start_accepted rule signals ws (start_fine f right rule signals ws begun)).0

      course : Course
      course = course_of signals calls

      r : Right signals (log_in (course_of signals calls))
      r = course_right rule signals fine calls

      here : reached f rule signals ws calls ≡ held_in rule signals (course_of signals calls)
      here = reached_is f right rule signals ws begun calls machine

      told_by : (bytes : List ℕ) → MachineBytes bytes → (c : Course) → course_of signals calls ≡ c → (n : ℕ)
          → (Right signals (log_in c) → Carries (found_in (told defined (held_in rule signals c) bytes)) n)
          → Carries (found_in (told f (reached f rule signals ws calls) bytes)) n
      told_by bytes p c e n known =
          subst (λ x. Carries (found_in x) n)
          (sym (told_is f right rule signals ws begun calls machine bytes p
          ∙ ap (λ x. told defined (held_in rule signals x) bytes) e))
          (known (subst (λ x. Right signals (log_in x)) e r))

      ended_by : (c : Course) → course_of signals calls ≡ c → (n : ℕ)
          → (Right signals (log_in c) → Carries (found_at (ending defined (held_in rule signals c))) n)
          → Carries (found_at (ending f (reached f rule signals ws calls))) n
      ended_by c e n known =
          subst (λ x. Carries (found_at x) n)
          (sym (ending_is f right rule signals ws begun calls machine
          ∙ ap (λ x. ending defined (held_in rule signals x)) e))
          (known (subst (λ x. Right signals (log_in x)) e r))
