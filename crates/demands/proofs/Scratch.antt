-- The work area of an accepted call: what the scratch holds at entry does not count.
-- Assumes nothing.
use Rattle.std.proofs.Common.{Ok, Err}
use mathlib.Core.Path.{◌≡◌, refl, sym, ap, ◌∙◌}
use mathlib.Core.Bool.{false, not}
use mathlib.Core.List.{List, ◌++◌}
use Prim.Native.Nat.{ℕ, ◌≤◌}
use native.Mathlib.Nat.{le_refl}
use native.Mathlib.Omega.{arith}
use lib.ListN.{length}
use lib.Dec.{eqb}
use Rattle.forms.specs.Area.{row_at}
use Rattle.meaning.specs.Rule.{Node, Entry}
use Rattle.meaning.specs.Words.{Known, leave, feed, close, value_if_last}
use Rattle.rewriting.specs.Known.{form_at, known_in, area_of}
use Rattle.rewriting.proofs.TidyRows.{form_same, known_same}
use Rattle.watcher.specs.declared.state.Watcher.{Watcher}
use Rattle.watcher.specs.Answers.{Found}
use Rattle.watcher.specs.declared.state.Ended.{Ended}
use Rattle.watcher.specs.Limits.{most_parameters, list_bytes, area_words}
use Rattle.watcher.specs.Numbers.{verdict_for, Stage, fresh, running, closed, stage_of, last_in}
use Rattle.watcher.specs.State.{rule_of, parameters_of, start_refuses, broken_state}
use Rattle.watcher.specs.Records.{entry_of}
use Rattle.watcher.specs.Lists.{Test, first_refusal}
use Rattle.watcher.specs.Calls.{wrong_area, state_tests, start_refusal, feed_refusal, close_refusal}
use Rattle.watcher.specs.Calls.{start_with, start_of, feed_with, feed_of, close_with, close_of, known_next, known_now}
use Rattle.watcher.specs.Calls.{running_state, report_of, closed_state, value_now, ask_with, ask_of}
use Rattle.demands.specs.Areas.{Alike}
use Rattle.watcher.proofs.HeldLaws.{held_few}
use Rattle.watcher.proofs.Asking.{ask_as_close}
use Rattle.watcher.proofs.Decoded.{first_fine}
use Rattle.watcher.proofs.Breaking.{unbroken, broken_same}

-- an accepted start does not look at the area
pub start_any : (rule signals a b : List ℕ) → start_refusal rule signals a ≡ Ok tt
    → start_refusal rule signals b ≡ Ok tt → start_of rule signals a ≡ start_of rule signals b
unfolding start_of start_with
start_any rule signals a b e f =
    ap (λ x. start_with x rule signals a) e ∙ sym (ap (λ x. start_with x rule signals b) f)

-- a state that passes the first tests holds lists that start would not refuse
lists_sound : (w : Watcher) (ws : List ℕ) (more : List Test) → first_refusal (state_tests w ws ++ more) ≡ Ok tt
    → start_refuses w ≡ false
unfolding state_tests first_refusal
lists_sound w ws more e =
    let a = first_fine (wrong_area ws) _ _ e in
    let b = first_fine (broken_state w ws) _ _ a.1 in
    (unbroken w ws b.0).lists

-- what is read from two areas that differ in the scratch only
module _ (a b : List ℕ) (alike : Alike a b) where
  area_same : wrong_area a ≡ wrong_area b
  unfolding wrong_area
  area_same = ap (λ n. not (eqb n area_words)) alike.long

  rows : (j : ℕ) → j ≤ most_parameters → row_at a j ≡ row_at b j
  rows j h = alike.rows j (omega arith)

  same_form : (m : ℕ) → form_at m a most_parameters ≡ form_at m b most_parameters
  same_form m = form_same most_parameters a b rows m most_parameters (le_refl most_parameters)

  same_known : (m : ℕ) → m ≤ most_parameters → (last : Entry)
      → known_in most_parameters m a last ≡ known_in most_parameters m b last
  same_known = known_same most_parameters a b rows

  -- a state's rule is an array of 128 bytes
  module _ (w : Watcher) (long : length w.rule ≡ list_bytes) where
    few : start_refuses w ≡ false → parameters_of w ≤ most_parameters
    few e = held_few w e long

    still_broken : broken_state w a ≡ broken_state w b
    still_broken = broken_same w a b rows long

    -- the same refusal, or none
    pub feed_refusal_same : (bytes : List ℕ) → feed_refusal w bytes a ≡ feed_refusal w bytes b
    unfolding feed_refusal state_tests
    feed_refusal_same bytes = rw (area_same, still_broken)

    pub close_refusal_same : close_refusal w a ≡ close_refusal w b
    unfolding close_refusal state_tests
    close_refusal_same = rw (area_same, still_broken)

    next_same : parameters_of w ≤ most_parameters → (rule : List Node) (e : Entry) (stage : Stage)
        → known_next (parameters_of w) rule a e stage ≡ known_next (parameters_of w) rule b e stage
    unfolding known_next
    next_same h rule e fresh =
        ap (λ f. leave (parameters_of w) rule f e) (same_form (parameters_of w))
    next_same h rule e (running last) =
        ap (λ s. feed (parameters_of w) rule s e) (same_known (parameters_of w) h last)
    next_same h rule e (closed v) =
        ap (λ f. leave (parameters_of w) rule f e) (same_form (parameters_of w))

    now_same : parameters_of w ≤ most_parameters → (stage : Stage)
        → known_now (parameters_of w) a stage ≡ known_now (parameters_of w) b stage
    unfolding known_now
    now_same h stage = same_known (parameters_of w) h (last_in stage)

    -- an accepted record, and an accepted closing, has the same outcome
    pub feed_same : (bytes : List ℕ) → feed_refusal w bytes a ≡ Ok tt → feed_of w bytes a ≡ feed_of w bytes b
    unfolding feed_of feed_with feed_refusal
    feed_same bytes e =
        ap (λ f. feed_with f w bytes a) e
        ∙ ap
        (λ (s : Known (parameters_of w)). (
          record {
            answer = Ok (report_of (parameters_of w) s);
            next = running_state w (entry_of w.list w.signals bytes);
          },
          area_of most_parameters (parameters_of w) s.past s.remainder,
        ))
        (next_same (few (lists_sound w a _ e)) (rule_of w) (entry_of w.list w.signals bytes) (stage_of w.phase))
        ∙ sym (ap (λ f. feed_with f w bytes b) (sym (feed_refusal_same bytes) ∙ e))

    pub close_same : close_refusal w a ≡ Ok tt → close_of w a ≡ close_of w b
    unfolding close_of close_with value_now close_refusal
    close_same e =
        ap (λ f. close_with f w a) e
        ∙ ap
        (λ (s : Known (parameters_of w)). (
          record {
            answer = Ok (verdict_for (value_if_last (parameters_of w) (rule_of w) s));
            next = closed_state w (value_if_last (parameters_of w) (rule_of w) s);
          },
          area_of most_parameters (parameters_of w) s.past (close (parameters_of w) (rule_of w) s),
        ))
        (now_same (few (lists_sound w a _ e)) (stage_of w.phase))
        ∙ sym (ap (λ f. close_with f w b) (sym close_refusal_same ∙ e))

    -- and asking, refused or not, has the same answer
    pub ask_same : ask_of w a ≡ ask_of w b
    unfolding ask_of ask_with
    ask_same = go (close_refusal w a) refl
      where
        go : (f : Found) → close_refusal w a ≡ f → ask_with (close_refusal w a) w a ≡ ask_with (close_refusal w b) w b
        go (Ok tt) e =
            ask_as_close w a ∙ ap (λ (o : Ended × List ℕ). o.0.answer) (close_same e) ∙ sym (ask_as_close w b)
        go (Err r) e =
            ap (λ f. ask_with f w a) e ∙ sym (ap (λ f. ask_with f w b) (sym close_refusal_same ∙ e))
