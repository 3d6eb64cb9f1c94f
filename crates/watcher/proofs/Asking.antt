-- Asking and closing answer the same: closing goes by what asking answers.
-- Assumes nothing.
use Rattle.std.proofs.Common.{Ok, Err}
use mathlib.Core.Path.{◌≡◌, refl, sym, ap, ◌∙◌}
use mathlib.Core.Bool.{Bool}
use mathlib.Core.List.{List}
use Prim.Native.Nat.{ℕ}
use Rattle.forms.specs.Form.{constant}
use Rattle.meaning.specs.Words.{Known}
use Rattle.meaning.proofs.Ending.{close_constant}
use Rattle.rewriting.specs.Known.{known_in, area_of}
use Rattle.watcher.specs.declared.state.Verdict.{Verdict}
use Rattle.watcher.specs.Answers.{Found, End}
use Rattle.watcher.specs.declared.state.Watcher.{Watcher}
use Rattle.watcher.specs.declared.state.Ended.{Ended}
use Rattle.watcher.specs.Limits.{most_parameters}
use Rattle.watcher.specs.Numbers.{verdict_for, found_at, stage_of}
use Rattle.watcher.specs.State.{rule_of, parameters_of}
use Rattle.watcher.specs.Calls.{closed_state, known_now, close_refusal, value_now}
use Rattle.watcher.specs.Calls.{ask_with, ask_of, close_with, close_of}
use Rattle.watcher.specs.Clauses.{AskClause}
use Rattle.watcher.proofs.Numbers.{verdict_says}
use Rattle.watcher.specs.inside.Turns.{ended_state, close_by}

module _ (w : Watcher) (ws : List ℕ) where
  -- what asking answers says what was found, and is what closing answers
  pub ask_found : found_at (ask_of w ws) ≡ close_refusal w ws
  unfolding ask_of ask_with found_at
  ask_found = go (close_refusal w ws)
    where
      go : (f : Found) → found_at (ask_with f w ws) ≡ f
      go (Ok tt) = refl
      go (Err r) = refl

  pub ask_as_close : ask_of w ws ≡ (close_of w ws).0.answer
  unfolding ask_of ask_with close_of close_with
  ask_as_close = go (close_refusal w ws)
    where
      go : (f : Found) → ask_with f w ws ≡ (close_with f w ws).0.answer
      go (Ok tt) = refl
      go (Err r) = refl

  -- closing, by what asking answers
  pub close_by_lem : close_of w ws ≡ close_by w ws (ask_of w ws)
  unfolding close_of close_with ask_of ask_with close_by value_now known_now known_in closed_state ended_state
      parameters_of rule_of
  close_by_lem = go (close_refusal w ws)
    where
      go : (f : Found) → close_with f w ws ≡ close_by w ws (ask_with f w ws)
      go (Err r) = refl
      go (Ok tt) =
          let m : ℕ = parameters_of w in
          let s : Known m = known_now m ws (stage_of w.phase) in
          let b : Bool = value_now w ws in
          let ended : Ended = record { answer = Ok (verdict_for b); next = ended_state w (verdict_for b) } in
          ap (λ (area : List ℕ). (ended, area))
          (ap (area_of most_parameters m s.past)
          (close_constant m (rule_of w) s ∙ ap (constant m) (sym (verdict_says b))))

  module _ (a : End) (area : List ℕ) (asked : AskClause w ws (a, area)) where
    -- the answer by itself
    pub asked_answer : a ≡ ask_of w ws
    asked_answer = ap (λ (o : End × List ℕ). o.0) asked

    -- a log that can be closed is not refused
    pub ask_fine : (v : Verdict) → a ≡ Ok v → Ok tt ≡ close_refusal w ws
    unfolding found_at
    ask_fine v e = ap found_at (sym e ∙ asked_answer) ∙ ask_found
