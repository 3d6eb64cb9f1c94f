-- Each call brings state and area from what the rewriting gives for a log to what it gives for the log with the call.
-- Assumes nothing.
use Rattle.std.proofs.Common.{Ok, Err}
use mathlib.Core.Path.{◌≡◌, refl, sym, ap, ap₂, ◌∙◌, subst}
use mathlib.Core.Bool.{Bool, true, false, cond}
use mathlib.Core.List.{List, [], ◌∷◌}
use Prim.Native.Nat.{ℕ, ◌≤◌, ◌<◌}
use native.Mathlib.Omega.{arith}
use lib.Dec.{ltb}
use borrow.Author.Tests.{lt-ltb, le-ltb}
use Rattle.forms.specs.Form.{constant}
use Rattle.meaning.specs.Rule.{Entry, entry_at, time_at}
use Rattle.meaning.specs.Meaning.{value_of}
use Rattle.meaning.specs.Words.{Known, first, fed, after, word}
use Rattle.meaning.specs.Words as words
use Rattle.rewriting.specs.Known.{area_of}
use Rattle.watcher.specs.declared.state.Refusal.{Refusal}
use Rattle.watcher.specs.declared.state.Refusal.TheVariants.{LogRecord, LogTime, NothingFed, AlreadyClosed}
use Rattle.watcher.specs.declared.state.Fed.{Fed}
use Rattle.watcher.specs.declared.state.Ended.{Ended}
use Rattle.watcher.specs.Limits.{most_parameters}
use Rattle.watcher.specs.Records.{wrong_record, time_of, entry_of}
use Rattle.watcher.specs.Numbers.{saying, verdict_for, stage_of, Says}
use Rattle.watcher.specs.State.{broken_state}
use Rattle.watcher.specs.Calls.{wrong_area, is_closed, is_fresh, too_early, start_of, start_with, start_refusal}
use Rattle.watcher.specs.Calls.{feed_of}
use Rattle.watcher.specs.Calls.{fresh_state, running_state, closed_state, feed_refusal, close_refusal}
use Rattle.watcher.specs.Runs.{Held}
use Rattle.watcher.proofs.Decoded.{Accepted}
use Rattle.demands.specs.Watching.{defined, Call, feeding, asking, closing, told, ending, handed, handed_on}
use Rattle.demands.specs.Watching.{reached}
use Rattle.demands.specs.Logs.{last_time, accepts, log_with, Course, going, over, further, further_by, course_of}
use Rattle.demands.specs.Logs.{log_in}
use Rattle.demands.specs.Rewritten.{read_rule, parameters_in, held_known, held_after, held_closed, held_in, word_after}
use Rattle.demands.proofs.OwnStates.{start_accepted, state_in, fresh_fine, running_fine, closed_fine}
use Rattle.demands.proofs.Feeding.{feed_wrong, feed_early, close_nothing, closed_refuses, refused_feed}
use Rattle.demands.proofs.Feeding.{refused_close, area_right, FedInto, feed_first, feed_later}
use Rattle.demands.proofs.Feeding.{close_known}
use Rattle.demands.proofs.Judging.{Judged, taken, wrong, early, judge}
use Rattle.demands.proofs.Logs.{Right, right_rising, right_none, right_further, fed_more, last_known}
use Rattle.demands.proofs.Logs.{after_lawful}
use Rattle.demands.proofs.Values.{close_constant, value_closing}

-- a refused record, and a refused closing, leave everything as it is
pub feed_stays : (h : Held) (bytes : List ℕ) (r : Refusal) → feed_refusal h.state bytes h.area ≡ Err r
    → (told defined h bytes ≡ Err r) × (handed defined h (feeding bytes) ≡ h)
unfolding defined handed
feed_stays h bytes r e =
    let o = refused_feed h.state bytes h.area r e in (
      ap (λ (x : Fed × List ℕ). x.0.answer) o,
      ap (λ (x : Fed × List ℕ). record { state = x.0.next; area = x.1 }) o,
    )

pub close_stays : (h : Held) (r : Refusal) → close_refusal h.state h.area ≡ Err r
    → (ending defined h ≡ Err r) × (handed defined h closing ≡ h)
unfolding defined handed
close_stays h r e =
    let o = refused_close h.state h.area r e in (
      ap (λ (x : Ended × List ℕ). x.0.answer) o,
      ap (λ (x : Ended × List ℕ). record { state = x.0.next; area = x.1 }) o,
    )

-- asking always does
pub ask_stays : (h : Held) → handed defined h asking ≡ h
unfolding defined handed
ask_stays h = refl

-- refusals 7 and 12 are not given
abbrev pub Sound : Held → Type 0
Sound h = (wrong_area h.area ≡ false) × (broken_state h.state h.area ≡ false)

-- a state and area that feed does not refuse before it looks at the record
pub record Ready (h : Held) (last : ℕ) : Type 0 where
  pub sound : Sound h
  pub live : is_closed (stage_of h.state.phase) ≡ false
  pub times : (time : ℕ) → too_early (stage_of h.state.phase) time ≡ ltb time last

module _ (h : Held) (last : ℕ) (ready : Ready h last) (bytes : List ℕ) where
  pub wrong_stays : wrong_record bytes ≡ true
      → (told defined h bytes ≡ Err LogRecord) × (handed defined h (feeding bytes) ≡ h)
  wrong_stays w =
      feed_stays h bytes LogRecord
      (feed_wrong h.state h.area ready.sound.0 ready.sound.1 ready.live bytes w)

  pub early_stays : wrong_record bytes ≡ false → time_of bytes < last
      → (told defined h bytes ≡ Err LogTime) × (handed defined h (feeding bytes) ≡ h)
  early_stays w l =
      feed_stays h bytes LogTime
      (feed_early h.state h.area ready.sound.0 ready.sound.1 ready.live bytes w
      (ready.times (time_of bytes) ∙ lt-ltb (time_of bytes) last l))

module _ (rule signals : List ℕ) (fine : Accepted rule signals) where
  -- the state and area after a log are ready
  pub ready_after : (log : List Entry) → Right signals log → Ready (held_after rule signals log) (last_time log)
  unfolding held_after held_known fresh_state running_state state_in stage_of is_closed too_early last_time time_at
      entry_at
  ready_after [] r =
      record {
        sound = (
          area_right (parameters_in rule) [] (words.start (parameters_in rule) (read_rule rule)),
          fresh_fine rule signals fine (words.start (parameters_in rule) (read_rule rule)),
        );
        live = refl;
        times = λ time. sym (le-ltb time 0 (omega arith));
      }
  ready_after (e ∷ es) r =
      let s : Known (parameters_in rule) = after (parameters_in rule) (read_rule rule) e es in
      record {
        sound = (
          area_right (parameters_in rule) s.past s.remainder,
          running_fine rule signals fine s (after_lawful rule signals e es r.below),
        );
        live = refl;
        times = λ time. ap (ltb time) (last_known (parameters_in rule) (read_rule rule) e es);
      }

  -- an accepted record: its word, and what is known with it
  fed_into : (h : Held) (bytes : List ℕ) (s : Known (parameters_in rule))
      → FedInto rule signals s (feed_of h.state bytes h.area)
      → Says (told defined h bytes) (saying (word (parameters_in rule) s.remainder))
      × (handed defined h (feeding bytes) ≡ held_known rule signals s)
  unfolding defined handed
  fed_into h bytes s o = (o.says, ap₂ (λ w ws. record { state = w; area = ws }) o.next o.area)

  pub fed_turn : (log : List Entry) → Right signals log → (bytes : List ℕ) → wrong_record bytes ≡ false
      → last_time log ≤ time_of bytes
      → Says (told defined (held_after rule signals log) bytes) (saying (word_after rule (log_with signals log bytes)))
      × (handed defined (held_after rule signals log) (feeding bytes)
      ≡ held_after rule signals (log_with signals log bytes))
  unfolding held_after word_after log_with after fed
  fed_turn [] r bytes w h =
      fed_into (held_after rule signals []) bytes _ (feed_first rule signals fine bytes w)
  fed_turn (e ∷ es) r bytes w h =
      let m : ℕ = parameters_in rule in
      let s : Known m = after m (read_rule rule) e es in
      let more = fed_more m (read_rule rule) (first m (read_rule rule) e) es (entry_of signals _ bytes ∷ []) in
      fed_into (held_known rule signals s) bytes _
      (subst
      (λ k. FedInto rule signals k (feed_of (held_known rule signals s).state bytes (held_known rule signals s).area))
      (sym more)
      (feed_later rule signals fine s (after_lawful rule signals e es r.below) bytes w
      (subst (λ t. t ≤ time_of bytes) (sym (last_known m (read_rule rule) e es)) h)))

  -- closing with no accepted record, and after accepted ones
  pub close_none : (ending defined (held_after rule signals []) ≡ Err NothingFed)
      × (handed defined (held_after rule signals []) closing ≡ held_after rule signals [])
  unfolding held_after fresh_state stage_of is_fresh
  close_none =
      let r = ready_after [] (right_none signals) in
      close_stays (held_after rule signals []) NothingFed
      (close_nothing (held_after rule signals []).state (held_after rule signals []).area r.sound.0
      r.sound.1 r.live refl)

  pub close_some : (e : Entry) (es : List Entry) → Right signals (e ∷ es)
      → (ending defined (held_after rule signals (e ∷ es))
      ≡ Ok (verdict_for (value_of (e ∷ es) (read_rule rule))))
      × (handed defined (held_after rule signals (e ∷ es)) closing ≡ held_closed rule signals e es)
  unfolding held_after held_closed defined handed
  close_some e es r =
      let m : ℕ = parameters_in rule in
      let s : Known m = after m (read_rule rule) e es in
      let o = close_known rule signals fine s (after_lawful rule signals e es r.below) in
      let v = value_closing rule signals fine e es (right_rising signals (e ∷ es) r) in
      let f = close_constant rule signals fine e es (right_rising signals (e ∷ es) r) in (
        o.says ∙ ap (λ b. Ok (verdict_for b)) v,
        ap₂ (λ w ws. record { state = w; area = ws })
            (o.next ∙ ap (closed_state (fresh_state rule signals)) v)
            (o.area ∙ ap (area_of most_parameters m s.past) f),
      )

  -- a closed state and its area
  closed_sound : (e : Entry) (es : List Entry) → Right signals (e ∷ es) → Sound (held_closed rule signals e es)
  unfolding held_closed fresh_state closed_state state_in
  closed_sound e es r =
      let m : ℕ = parameters_in rule in
      let s : Known m = after m (read_rule rule) e es in
      let value : Bool = value_of (e ∷ es) (read_rule rule) in (
        area_right m s.past (constant m value),
        closed_fine rule signals fine (verdict_for value) s.past (constant m value)
            (after_lawful rule signals e es r.below).long,
      )

  pub closed_stays : (e : Entry) (es : List Entry) → Right signals (e ∷ es) → (bytes : List ℕ)
      → let h : Held = held_closed rule signals e es in
      ((told defined h bytes ≡ Err AlreadyClosed) × (handed defined h (feeding bytes) ≡ h))
      × ((ending defined h ≡ Err AlreadyClosed) × (handed defined h closing ≡ h))
  unfolding held_closed closed_state stage_of is_closed
  closed_stays e es r bytes =
      let h : Held = held_closed rule signals e es in
      let s = closed_sound e es r in
      let c = closed_refuses h.state h.area s.0 s.1 bytes refl in
      (feed_stays h bytes AlreadyClosed c.0, close_stays h AlreadyClosed c.1)

  -- one call
  pub feed_further : (log : List Entry) → Right signals log → (bytes : List ℕ)
      → handed defined (held_after rule signals log) (feeding bytes)
      ≡ held_after rule signals (cond (accepts log bytes) (log_with signals log bytes) log)
  feed_further log r bytes = go (judge log bytes)
    where
      same : (b : Bool) → accepts log bytes ≡ b
          → held_after rule signals (cond b (log_with signals log bytes) log)
          ≡ held_after rule signals (cond (accepts log bytes) (log_with signals log bytes) log)
      same b a = ap (λ x. held_after rule signals (cond x (log_with signals log bytes) log)) (sym a)

      go : Judged log bytes
          → handed defined (held_after rule signals log) (feeding bytes)
          ≡ held_after rule signals (cond (accepts log bytes) (log_with signals log bytes) log)
      go (taken a w h) = (fed_turn log r bytes w h).1 ∙ same true a
      go (wrong a w) =
          (wrong_stays (held_after rule signals log) (last_time log) (ready_after log r) bytes w).1 ∙ same false a
      go (early a w h) =
          (early_stays (held_after rule signals log) (last_time log) (ready_after log r) bytes w h).1 ∙ same false a

  call_further : (course : Course) (c : Call) → Right signals (log_in course)
      → handed defined (held_in rule signals course) c ≡ held_in rule signals (further signals course c)
  unfolding held_in further log_in
  call_further (going log) (feeding bytes) r = feed_further log r bytes
  call_further (going log) asking r = ask_stays (held_after rule signals log)
  call_further (going []) closing r = close_none.1
  call_further (going (e ∷ es)) closing r = (close_some e es r).1
  call_further (over e es) (feeding bytes) r = (closed_stays e es r bytes).0.1
  call_further (over e es) asking r = ask_stays (held_closed rule signals e es)
  call_further (over e es) closing r = (closed_stays e es r []).1.1

  -- calls one after another
  pub calls_further : (course : Course) (calls : List Call) → Right signals (log_in course)
      → handed_on defined (held_in rule signals course) calls ≡ held_in rule signals (further_by signals course calls)
  unfolding handed_on further_by
  calls_further course [] r = refl
  calls_further course (c ∷ more) r =
      ap (λ h. handed_on defined h more) (call_further course c r)
      ∙ calls_further (further signals course c) more (right_further signals course c r)

  -- refusals 7 and 12 are never given
  pub sound_in : (course : Course) → Right signals (log_in course) → Sound (held_in rule signals course)
  unfolding held_in log_in
  sound_in (going log) r = (ready_after log r).sound
  sound_in (over e es) r = closed_sound e es r

-- after an accepted start
pub start_next : (rule signals ws : List ℕ) → start_refusal rule signals ws ≡ Ok tt
    → (start_of rule signals ws).0.next ≡ (held_in rule signals (going [])).state
unfolding start_of start_with held_in held_after
start_next rule signals ws e = ap (λ f. (start_with f rule signals ws).0.next) e

-- after start and any calls: what the rewriting gives for the accepted records
pub run_state : (rule signals ws : List ℕ) → start_refusal rule signals ws ≡ Ok tt → (calls : List Call)
    → reached defined rule signals ws calls ≡ held_in rule signals (course_of signals calls)
unfolding reached defined start_of start_with held_in held_after parameters_in read_rule log_in
run_state rule signals ws e calls =
    ap
    (λ f. handed_on defined
    (record { state = (start_with f rule signals ws).0.next; area = (start_with f rule signals ws).1 }) calls) e
    ∙ calls_further rule signals (start_accepted rule signals ws e).0 (going []) calls (right_none signals)
