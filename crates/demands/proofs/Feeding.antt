-- What feeding and closing do to a state and an area that the watcher made.
-- Assumes nothing.
use Rattle.std.proofs.Common.{Ok, Err}
use mathlib.Core.Path.{◌≡◌, refl, sym, ap, ◌∙◌, subst}
use mathlib.Core.Bool.{Bool, true, false}
use mathlib.Core.List.{List, []}
use Prim.Native.Nat.{ℕ, ◌≤◌}
use borrow.Author.Tests.{le-ltb}
use Rattle.forms.specs.Form.{Form}
use Rattle.meaning.specs.Rule.{Node, Entry, parameters}
use Rattle.meaning.specs.Words.{Known, first, feed, close, value_if_last, word}
use Rattle.meaning.specs.Words as words
use Rattle.rewriting.specs.Known.{area_of, known_in}
use Rattle.watcher.specs.declared.state.Watcher.{Watcher}
use Rattle.watcher.specs.declared.state.Phase.{Phase}
use Rattle.watcher.specs.declared.state.Phase.TheVariants as phase
use Rattle.watcher.specs.declared.state.Refusal.{Refusal}
use Rattle.watcher.specs.declared.state.Refusal.TheVariants.{LogRecord, LogTime, AlreadyClosed, NothingFed}
use Rattle.watcher.specs.declared.state.Fed.{Fed}
use Rattle.watcher.specs.declared.state.Ended.{Ended}
use Rattle.watcher.specs.Limits.{most_parameters}
use Rattle.watcher.specs.Rules.{records_of}
use Rattle.watcher.specs.Records.{wrong_record, time_of, entry_of}
use Rattle.watcher.specs.Lists.{first_refusal}
use Rattle.watcher.specs.Numbers.{saying, verdict_for, Stage, stage_of, last_in, Says}
use Rattle.watcher.specs.State.{parameters_of, broken_state}
use Rattle.watcher.specs.Calls.{wrong_area, is_closed, is_fresh, too_early, state_tests, feed_refusal, close_refusal}
use Rattle.watcher.specs.Calls.{known_next, running_state, report_of, feed_with, feed_of, known_now, closed_state}
use Rattle.watcher.specs.Calls.{value_now, close_with, close_of, fresh_state}
use Rattle.demands.specs.Rewritten.{read_rule, parameters_in, held_known, held_after}
use Rattle.watcher.proofs.Decoded.{Accepted}
use Rattle.watcher.proofs.Reports.{report_says}
use Rattle.watcher.proofs.Testing.{area_right as long-right}
use Rattle.rewriting.proofs.Placed.{length_area_of, read_past, read_remainder}
use Rattle.demands.proofs.Padding.{entry_padded}
use Rattle.demands.proofs.OwnStates.{state_in, list_short, rule_in, few_parameters, Lawful, fresh_fine}
use Rattle.demands.proofs.OwnStates.{running_fine}

-- a state that is not broken, with an area of the right length
module _ (w : Watcher) (ws : List ℕ) (area : wrong_area ws ≡ false) (sound : broken_state w ws ≡ false) where
  pub closed_refuses : (bytes : List ℕ) → is_closed (stage_of w.phase) ≡ true
      → (feed_refusal w bytes ws ≡ Err AlreadyClosed) × (close_refusal w ws ≡ Err AlreadyClosed)
  unfolding feed_refusal close_refusal state_tests first_refusal
  closed_refuses bytes e = (rw (area, sound, e), rw (area, sound, e))

  module _ (live : is_closed (stage_of w.phase) ≡ false) where
    pub feed_wrong : (bytes : List ℕ) → wrong_record bytes ≡ true → feed_refusal w bytes ws ≡ Err LogRecord
    unfolding feed_refusal state_tests first_refusal
    feed_wrong bytes e = rw (area, sound, live, e)

    pub feed_early : (bytes : List ℕ) → wrong_record bytes ≡ false
        → too_early (stage_of w.phase) (time_of bytes) ≡ true → feed_refusal w bytes ws ≡ Err LogTime
    unfolding feed_refusal state_tests first_refusal
    feed_early bytes e h = rw (area, sound, live, e, h)

    pub feed_accepts : (bytes : List ℕ) → wrong_record bytes ≡ false
        → too_early (stage_of w.phase) (time_of bytes) ≡ false → feed_refusal w bytes ws ≡ Ok tt
    unfolding feed_refusal state_tests first_refusal
    feed_accepts bytes e h = rw (area, sound, live, e, h)

    pub close_nothing : is_fresh (stage_of w.phase) ≡ true → close_refusal w ws ≡ Err NothingFed
    unfolding close_refusal state_tests first_refusal
    close_nothing e = rw (area, sound, live, e)

    pub close_accepts : is_fresh (stage_of w.phase) ≡ false → close_refusal w ws ≡ Ok tt
    unfolding close_refusal state_tests first_refusal
    close_accepts e = rw (area, sound, live, e)

-- a refused record, a refused closing
pub refused_feed : (w : Watcher) (bytes ws : List ℕ) (r : Refusal) → feed_refusal w bytes ws ≡ Err r
    → feed_of w bytes ws ≡ (record { answer = Err r; next = w }, ws)
unfolding feed_of feed_with
refused_feed w bytes ws r e = ap (λ f. feed_with f w bytes ws) e

pub refused_close : (w : Watcher) (ws : List ℕ) (r : Refusal) → close_refusal w ws ≡ Err r
    → close_of w ws ≡ (record { answer = Err r; next = w }, ws)
unfolding close_of close_with
refused_close w ws r e = ap (λ f. close_with f w ws) e

-- the area that is laid out has its words
pub area_right : (m : ℕ) (past : List (Form m)) (remainder : Form m)
    → wrong_area (area_of most_parameters m past remainder) ≡ false
area_right m past remainder = long-right _ (length_area_of most_parameters m past remainder)

-- what feeding and closing hand back, with the rule apart
unfoldable fed_by : List Node → Watcher → Entry → List ℕ → Stage → Fed × List ℕ
fed_by rule w e ws stage =
    let m : ℕ = parameters rule in
    let s : Known m = known_next m rule ws e stage in (
      record { answer = Ok (report_of m s); next = running_state w e },
      area_of most_parameters m s.past s.remainder,
    )

unfoldable closed_by : List Node → Watcher → List ℕ → Stage → Ended × List ℕ
closed_by rule w ws stage =
    let m : ℕ = parameters rule in
    let s : Known m = known_now m ws stage in
    let b : Bool = value_if_last m rule s in
    let f : Form m = close m rule s in
    (record { answer = Ok (verdict_for b); next = closed_state w b }, area_of most_parameters m s.past f)

-- the outcome of a record after which so much is known
pub record FedInto (rule signals : List ℕ) (s : Known (parameters_in rule)) (o : Fed × List ℕ) : Type 0 where
  pub says : Says o.0.answer (saying (word (parameters_in rule) s.remainder))
  pub next : o.0.next ≡ (held_known rule signals s).state
  pub area : o.1 ≡ (held_known rule signals s).area

-- the outcome of closing where so much is known
pub record ClosedInto (rule signals : List ℕ) (s : Known (parameters_in rule)) (o : Ended × List ℕ) : Type 0 where
  pub says : o.0.answer ≡ Ok (verdict_for (value_if_last (parameters_in rule) (read_rule rule) s))
  pub next : o.0.next
      ≡ closed_state (fresh_state rule signals) (value_if_last (parameters_in rule) (read_rule rule) s)
  pub area : o.1 ≡ area_of most_parameters (parameters_in rule) s.past (close (parameters_in rule) (read_rule rule) s)

module _ (rule signals : List ℕ) (fine : Accepted rule signals) where
  fed_by_lem : (p : Phase) (bytes ws : List ℕ) → feed_refusal (state_in rule signals p) bytes ws ≡ Ok tt
      → feed_of (state_in rule signals p) bytes ws
      ≡ fed_by (read_rule rule) (state_in rule signals p) (entry_of signals (records_of signals) bytes) ws (stage_of p)
  unfolding feed_of feed_with fed_by parameters_of state_in
  fed_by_lem p bytes ws e =
      ap (λ f. feed_with f (state_in rule signals p) bytes ws) e
      ∙ (λ i.
      fed_by (rule_in rule signals fine p i) (state_in rule signals p)
      (entry_padded signals (list_short rule signals fine) bytes i) ws (stage_of p))

  closed_by_lem : (p : Phase) (ws : List ℕ) → close_refusal (state_in rule signals p) ws ≡ Ok tt
      → close_of (state_in rule signals p) ws ≡ closed_by (read_rule rule) (state_in rule signals p) ws (stage_of p)
  unfolding close_of close_with closed_by value_now parameters_of state_in
  closed_by_lem p ws e =
      ap (λ f. close_with f (state_in rule signals p) ws) e
      ∙ (λ i. closed_by (rule_in rule signals fine p i) (state_in rule signals p) ws (stage_of p))

  -- what was laid out is read back
  pub known_read : (s : Known (parameters_in rule)) → Lawful rule signals s
      → known_in most_parameters (parameters_in rule) (held_known rule signals s).area s.last ≡ s
  unfolding held_known known_in
  known_read s ok =
      λ i.
      record {
        past = read_past most_parameters m s.past s.remainder few few ok.long i;
        remainder = read_remainder most_parameters m s.past s.remainder few i;
        last = s.last;
      }
    where
      m : ℕ
      m = parameters_in rule

      few : m ≤ 12
      few = few_parameters rule signals fine

  -- the first record
  pub feed_first : (bytes : List ℕ) → wrong_record bytes ≡ false
      → FedInto rule signals (first (parameters_in rule) (read_rule rule) (entry_of signals (records_of signals) bytes))
      (feed_of (held_after rule signals []).state bytes (held_after rule signals []).area)
  unfolding held_after held_known fresh_state state_in stage_of is_closed too_early fed_by known_next running_state
      first
      parameters_in
  feed_first bytes right =
      subst (FedInto rule signals (first m (read_rule rule) e))
      (sym
      (fed_by_lem phase.Fresh bytes ws
      (feed_accepts (state_in rule signals phase.Fresh) ws (area_right m [] f) (fresh_fine rule signals fine f) refl
      bytes right refl)))
      (subst (λ g. FedInto rule signals (words.leave m (read_rule rule) g e) outcome)
      (read_remainder most_parameters m [] f (few_parameters rule signals fine))
      (record { says = report_says m _; next = refl; area = refl }))
    where
      m : ℕ
      m = parameters (read_rule rule)

      f : Form m
      f = words.start m (read_rule rule)

      ws : List ℕ
      ws = area_of most_parameters m [] f

      e : Entry
      e = entry_of signals (records_of signals) bytes

      outcome : Fed × List ℕ
      outcome = fed_by (read_rule rule) (state_in rule signals phase.Fresh) e ws (stage_of phase.Fresh)

  -- a later record
  pub feed_later : (s : Known (parameters_in rule)) → Lawful rule signals s → (bytes : List ℕ)
      → wrong_record bytes ≡ false → s.last.time ≤ time_of bytes
      → FedInto rule signals (feed (parameters_in rule) (read_rule rule) s
      (entry_of signals (records_of signals) bytes))
      (feed_of (held_known rule signals s).state bytes (held_known rule signals s).area)
  unfolding held_known fresh_state state_in stage_of is_closed too_early fed_by known_next running_state feed
      parameters_in
  feed_later s ok bytes right time =
      subst (FedInto rule signals (feed m (read_rule rule) s e))
      (sym
      (fed_by_lem p bytes ws
      (feed_accepts (state_in rule signals p) ws (area_right m s.past s.remainder)
      (running_fine rule signals fine s ok) refl bytes right (le-ltb (time_of bytes) s.last.time time))))
      (subst (λ k. FedInto rule signals (feed m (read_rule rule) k e) outcome) (known_read s ok)
      (record { says = report_says m _; next = refl; area = refl }))
    where
      m : ℕ
      m = parameters (read_rule rule)

      p : Phase
      p = phase.Running s.last.time s.last.signals

      ws : List ℕ
      ws = area_of most_parameters m s.past s.remainder

      e : Entry
      e = entry_of signals (records_of signals) bytes

      outcome : Fed × List ℕ
      outcome = fed_by (read_rule rule) (state_in rule signals p) e ws (stage_of p)

  -- closing
  pub close_known : (s : Known (parameters_in rule)) → Lawful rule signals s
      → ClosedInto rule signals s (close_of (held_known rule signals s).state (held_known rule signals s).area)
  unfolding held_known fresh_state state_in stage_of is_closed is_fresh closed_by known_now last_in running_state
      closed_state
      parameters_in
  close_known s ok =
      subst (ClosedInto rule signals s)
      (sym
      (closed_by_lem p ws
      (close_accepts (state_in rule signals p) ws (area_right m s.past s.remainder)
      (running_fine rule signals fine s ok) refl refl)))
      (subst (λ k. ClosedInto rule signals k outcome) (known_read s ok)
      (record { says = refl; next = refl; area = refl }))
    where
      m : ℕ
      m = parameters (read_rule rule)

      p : Phase
      p = phase.Running s.last.time s.last.signals

      ws : List ℕ
      ws = area_of most_parameters m s.past s.remainder

      outcome : Ended × List ℕ
      outcome = closed_by (read_rule rule) (state_in rule signals p) ws (stage_of p)
