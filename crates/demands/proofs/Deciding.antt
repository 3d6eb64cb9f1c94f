-- What the answers of a run tell of its log: a word that is told is the log's, and a decided one stays.
-- Assumes nothing.
use Rattle.std.proofs.Common.{Ok}
use mathlib.Core.Path.{◌≡◌, refl, sym, ap, ◌∙◌, subst}
use mathlib.Core.Bool.{Bool, true, false, cond}
use mathlib.Core.List.{List, [], ◌∷◌, ◌++◌, append_assoc}
use Prim.Native.Nat.{ℕ, ◌+◌, ◌<◌}
use native.Mathlib.Omega.{arith}
use lib.ListN.{length, length-append}
use Rattle.meaning.specs.Rule.{Entry, time_at, Rising, Climbs}
use Rattle.meaning.specs.Meaning.{value_of}
use Rattle.meaning.specs.Horizon.{within, horizon}
use Rattle.meaning.specs.Words as words
use Rattle.meaning.specs.Words.{word_of}
use Rattle.watcher.specs.declared.state.Word.{Word}
use Rattle.watcher.specs.Rules.{records_of}
use Rattle.watcher.specs.Records.{time_of, entry_of}
use Rattle.watcher.specs.Numbers.{saying, verdict_for, Says, decided}
use Rattle.watcher.specs.Numbers as numbers
use Rattle.watcher.proofs.Decoded.{Accepted}
use Rattle.watcher.proofs.Reports.{says_one, says_not}
use Rattle.demands.specs.Watching.{defined, Call, feeding, told, ending}
use Rattle.demands.specs.Logs.{last_time, accepts, log_with, Course, going, over, further, further_by, course_of}
use Rattle.demands.specs.Logs.{log_in, log_of}
use Rattle.demands.specs.Rewritten.{read_rule, held_after, held_in, word_after}
use Rattle.demands.proofs.Judging.{Judged, taken, wrong, early, judge}
use Rattle.demands.proofs.Logs.{Right, right_rising, right_none, right_all, further_parts}
use Rattle.demands.proofs.Logs.{further_log, last_more, right_onward}
use Rattle.demands.proofs.Values.{log_holds, log_stays, log_settled}
use Rattle.demands.proofs.Courses.{ready_after, wrong_stays, early_stays, fed_turn, close_some}
use Rattle.demands.proofs.Courses.{closed_stays}

-- the word that is told is the meaning's
unsaid : (w : words.Word) → numbers.word_of (saying w) ≡ w
unfolding numbers.word_of saying
unsaid words.kept = refl
unsaid words.broken = refl
unsaid words.pending = refl

said : (b : Bool) → saying (word_of b) ≡ decided b
unfolding saying word_of decided
said true = refl
said false = refl

undecided : (w : words.Word) (b : Bool) → saying w ≡ decided b → w ≡ word_of b
undecided w b e = sym (unsaid w) ∙ ap numbers.word_of (e ∙ sym (said b)) ∙ unsaid (word_of b)

-- a log with a record is not empty
some_with : (signals : List ℕ) (log : List Entry) (bytes : List ℕ) → 0 < length (log_with signals log bytes)
unfolding log_with
some_with signals log bytes =
    omega (arith, length-append log (entry_of signals (records_of signals) bytes ∷ []))

-- of two parts the first is not empty, so the whole is not
some_more : (log more : List Entry) → 0 < length log → 0 < length (log ++ more)
some_more log more h = omega (arith, length-append log more)

-- a log that goes on, with an accepted record
pub going_with : (signals : List ℕ) (calls : List Call) (log : List Entry) (bytes : List ℕ) (more : List Call)
    → course_of signals calls ≡ going log → accepts log bytes ≡ true
    → course_of signals (calls ++ (feeding bytes ∷ more)) ≡ further_by signals (going (log_with signals log bytes)) more
unfolding further_by further
going_with signals calls log bytes more e a =
    further_parts signals (going []) calls (feeding bytes ∷ more)
    ∙ ap (λ c. further_by signals (further signals c (feeding bytes)) more) e
    ∙ ap (λ b. further_by signals (going (cond b (log_with signals log bytes) log)) more) a

-- a record that gets a word is accepted after a log that goes on, and the word is the log's
pub record Told (rule signals : List ℕ) (course : Course) (bytes : List ℕ) (w : Word) : Type 0 where
  pub log : List Entry
  pub goes : course ≡ going log
  pub takes : accepts log bytes ≡ true
  pub word : saying (word_after rule (log_with signals log bytes)) ≡ w

module _ (rule signals : List ℕ) (fine : Accepted rule signals) where
  pub word_told : (course : Course) → Right signals (log_in course) → (bytes : List ℕ) (w : Word)
      → Says (told defined (held_in rule signals course) bytes) w → Told rule signals course bytes w
  unfolding held_in log_in
  word_told (over e es) r bytes w s = absurd (says_not _ _ w (closed_stays rule signals fine e es r bytes).0.0 s)
  word_told (going log) r bytes w s = go (judge log bytes)
    where
      go : Judged log bytes → Told rule signals (going log) bytes w
      go (taken a n h) =
          record {
            log = log;
            goes = refl;
            takes = a;
            word = says_one _ _ w (fed_turn rule signals fine log r bytes n h).0 s;
          }
      go (wrong a n) =
          absurd
          (says_not _ _ w
          (wrong_stays (held_after rule signals log) (last_time log) (ready_after rule signals fine log r) bytes n).0 s)
      go (early a n h) =
          absurd
          (says_not _ _ w
          (early_stays (held_after rule signals log) (last_time log) (ready_after rule signals fine log r) bytes n h).0
          s)

  -- an accepted record gets the log's word
  pub word_taken : (log : List Entry) → Right signals log → (bytes : List ℕ) → accepts log bytes ≡ true
      → Says (told defined (held_after rule signals log) bytes) (saying (word_after rule (log_with signals log bytes)))
  word_taken log r bytes a = go (judge log bytes)
    where
      go : Judged log bytes
          → Says (told defined (held_after rule signals log) bytes)
          (saying (word_after rule (log_with signals log bytes)))
      go (taken _ n h) = (fed_turn rule signals fine log r bytes n h).0
      go (wrong b n) = let z : ◌≡◌ {A = ℕ} 0 1 = cc in let x : ⊥ = omega arith in absurd x
      go (early b n h) = let z : ◌≡◌ {A = ℕ} 0 1 = cc in let x : ⊥ = omega arith in absurd x

  -- closing a log that is not empty reports its value
  closes : (log : List Entry) → Right signals log → 0 < length log
      → ending defined (held_after rule signals log) ≡ Ok (verdict_for (value_of log (read_rule rule)))
  closes [] r h = let z : ⊥ = omega arith in absurd z
  closes (e ∷ es) r h = (close_some rule signals fine e es r).0

  -- the logs of calls are right
  pub course_right : (calls : List Call) → Right signals (log_of signals calls)
  unfolding log_in
  course_right calls = right_all signals (going []) calls (right_none signals)

  module _ (calls : List Call) (bytes : List ℕ) where
    -- a record with a word is the last of its log
    told_log : (w : Word) (t : Told rule signals (course_of signals calls) bytes w)
        → log_of signals (calls ++ (feeding bytes ∷ [])) ≡ log_with signals t.log bytes
    unfolding further_by log_in
    told_log w t = ap log_in (going_with signals calls t.log bytes [] t.goes t.takes)

    module _ (b : Bool) (t : Told rule signals (course_of signals calls) bytes (decided b)) where
      abbrev log : List Entry
      log = log_with signals t.log bytes

      log_word : word_after rule log ≡ word_of b
      log_word = undecided (word_after rule log) b t.word

      -- a decided word holds of every continuation
      pub told_holds : (more : List Entry) → Climbs (last_time (log_of signals (calls ++ (feeding bytes ∷ [])))) more
          → value_of (log_of signals (calls ++ (feeding bytes ∷ [])) ++ more) (read_rule rule) ≡ b
      told_holds more =
          subst (λ x. Climbs (last_time x) more → value_of (x ++ more) (read_rule rule) ≡ b)
          (sym (told_log (decided b) t))
          (λ c.
          log_holds rule signals fine log (some_with signals t.log bytes) b log_word more
          (right_onward signals log more
          (subst (Right signals) (told_log (decided b) t) (course_right (calls ++ (feeding bytes ∷ [])))) c))

      module _ (more : List Call) where
        -- what later calls make of the log
        later_log : (rest : List Entry) × (log_of signals (calls ++ (feeding bytes ∷ more)) ≡ log ++ rest)
        unfolding log_in
        later_log =
            let f = further_log signals (going log) more in
            (f.0, ap log_in (going_with signals calls t.log bytes more t.goes t.takes) ∙ f.1)

        -- no later record alters it
        pub told_stays : (later : List ℕ) (w : Word)
            → Told rule signals (course_of signals (calls ++ (feeding bytes ∷ more))) later w → w ≡ decided b
        unfolding log_in log_with
        told_stays later w u =
            let e : Entry = entry_of signals (records_of signals) later in
            let all : u.log ≡ log ++ later_log.0 = sym (ap log_in u.goes) ∙ later_log.1 in
            sym u.word
            ∙ ap (λ x. saying (word_after rule x))
            (ap (λ x. x ++ (e ∷ [])) all ∙ append_assoc log later_log.0 (e ∷ []))
            ∙ ap saying
            (log_stays rule signals fine log (some_with signals t.log bytes) b log_word
            (later_log.0 ++ (e ∷ [])))
            ∙ said b

        -- and closing agrees
        pub told_agrees : (all : List Entry) → course_of signals (calls ++ (feeding bytes ∷ more)) ≡ going all
            → ending defined (held_after rule signals all) ≡ Ok (verdict_for b)
        unfolding log_in
        told_agrees all c =
            let r : Right signals all
            = subst (λ x. Right signals (log_in x)) c (course_right (calls ++ (feeding bytes ∷ more))) in
            let same : all ≡ log ++ later_log.0 = sym (ap log_in c) ∙ later_log.1 in
            let some = some_with signals t.log bytes in
            closes all r (subst (λ x. 0 < length x) (sym same) (some_more log later_log.0 some))
            ∙ ap (λ x. Ok (verdict_for (value_of x (read_rule rule)))) same
            ∙ ap (λ v. Ok (verdict_for v))
            (log_holds rule signals fine log some b log_word later_log.0
            (subst Rising same (right_rising signals all r)))

    -- past the first record's time by more than the horizon, none is pending
    pub told_settled : (w : Word) → Told rule signals (course_of signals calls) bytes w → (h : ℕ)
        → horizon (read_rule rule) ≡ within h
        → time_at (log_of signals (calls ++ (feeding bytes ∷ []))) 0 + h < time_of bytes → (b : Bool) × (w ≡ decided b)
    unfolding log_with entry_of
    told_settled w t h limit past =
        let log : List Entry = log_with signals t.log bytes in
        let last : time_of bytes ≡ last_time log = sym (last_more t.log _) in
        let rising : Rising log
        = subst Rising (told_log w t) (right_rising signals _ (course_right (calls ++ (feeding bytes ∷ [])))) in
        let s =
        log_settled rule signals fine log (some_with signals t.log bytes) rising h limit
        (subst (λ x. time_at log 0 + h < x) last
        (subst (λ x. time_at x 0 + h < time_of bytes) (told_log w t) past)) in
        (s.0, sym t.word ∙ ap saying s.1 ∙ said s.0)
