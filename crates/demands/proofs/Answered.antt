-- A row of the table that passes by the definitions is what start, feed and close answer over bytes.
-- Assumes nothing.
use Rattle.std.proofs.Common.{Ok, Err, is_err}
use mathlib.Core.Path.{◌≡◌, refl, sym, ap, ap₂, ◌∙◌, subst}
use mathlib.Core.Bool.{Bool, true, not, ◌&&◌, cond, and-eq-true_iff, false≢true}
use mathlib.Core.List.{List, [], ◌∷◌, ◌++◌, map, append_assoc, append-nil}
use Prim.Native.Nat.{ℕ, ◌<◌}
use native.Mathlib.Omega.{arith}
use lib.Dec.{eqb}
use lib.ListN.{length, get_or, length-append}
use borrow.Author.Tests.{eqb-true}
use Rattle.meaning.specs.Rule.{Entry}
use Rattle.meaning.specs.Meaning.{value_of}
use Rattle.meaning.specs.Horizon.{Horizon, within, never}
use Rattle.meaning.specs.Words.{first, fed, after, Word, kept, broken, pending, word, word_of}
use Rattle.watcher.specs.Answers.{Found}
use Rattle.watcher.specs.declared.state.Refusal.{Refusal}
use Rattle.watcher.specs.Limits.{area_words}
use Rattle.watcher.specs.Numbers.{refusal_number}
use Rattle.watcher.specs.Rules.{records_of}
use Rattle.watcher.specs.Records.{entry_of}
use Rattle.watcher.specs.Lists.{lists_refusal}
use Rattle.watcher.specs.Calls.{start_refusal, start_of, start_with, wait_of}
use Rattle.watcher.proofs.Decoded.{Accepted}
use Rattle.watcher.proofs.Numbers.{verdict_says}
use Rattle.demands.specs.Watching.{defined, feeding, ending}
use Rattle.demands.specs.Logs.{accepts, log_with, going, further, further_by, course_of, log_in}
use Rattle.demands.specs.Rewritten.{read_rule, parameters_in, held_after, held_in, word_after}
use Rattle.demands.specs.Tables.{Carries}
use Rattle.demands.specs.Examples.{Row, says, winds, accepted, refused, reads, waits, table, refused_with, all_in}
use Rattle.demands.specs.Examples.{word_number, same_words, horizon_number, words_from, words_of, seen}
use Rattle.demands.specs.Examples.{all_taken, right, wind_right, passes, GetWords, EndsWith, Run, WindRun, AllOf}
use Rattle.demands.specs.Examples.{Answers, rule_signal, signal_record, wind_record, vents}
use Rattle.demands.proofs.OwnStates.{start_accepts, start_accepted, start_refuses_lem}
use Rattle.demands.proofs.Logs.{Right, right_none, right_taken, fed_more}
use Rattle.demands.proofs.Courses.{feed_further, close_some, start_next, run_state}
use Rattle.demands.proofs.Deciding.{word_taken, course_right}
use Rattle.demands.proofs.Following.{start_found}
use Rattle.demands.proofs.OwnWork.{wait_held}
use Rattle.demands.proofs.Examples.{examples}

both : (a b : Bool) → (a && b) ≡ true → (a ≡ true) × (b ≡ true)
both a b e = (and-eq-true_iff a b).0 e

all_four : (a b c d : Bool) → (a && b && c && d) ≡ true → (a ≡ true) × (b ≡ true) × (c ≡ true) × (d ≡ true)
all_four a b c d e =
    let x = both (a && b && c) d e in
    let y = both (a && b) c x.0 in
    let z = both a b y.0 in
    (z.0, z.1, y.1, x.1)

-- words, and horizons, with the same number are the same
numbered : (w : Word) → get_or (broken ∷ kept ∷ pending ∷ []) (word_number w) pending ≡ w
numbered broken = refl
numbered kept = refl
numbered pending = refl

word_one : (v w : Word) → eqb (word_number v) (word_number w) ≡ true → v ≡ w
word_one v w e =
    sym (numbered v)
    ∙ ap (λ n. get_or (broken ∷ kept ∷ pending ∷ []) n pending) (eqb-true (word_number v) (word_number w) e)
    ∙ numbered w

words_one : (vs ws : List Word) → same_words vs ws ≡ true → vs ≡ ws
words_one [] [] e = refl
words_one [] (w ∷ ws) e = absurd (false≢true e)
words_one (v ∷ vs) [] e = absurd (false≢true e)
words_one (v ∷ vs) (w ∷ ws) e =
    let b = both (eqb (word_number v) (word_number w)) _ e in
    ap₂ ◌∷◌ (word_one v w b.0) (words_one vs ws b.1)

horizon_one : (a b : Horizon) → horizon_number a ≡ horizon_number b → a ≡ b
horizon_one never never e = refl
horizon_one never (within h) e = let z : ⊥ = omega arith in absurd z
horizon_one (within g) never e = let z : ⊥ = omega arith in absurd z
horizon_one (within g) (within h) e = let q : g ≡ h = omega arith in ap within q

-- two lists of words with one behind them
behind_one : (vs ws : List Word) (v w : Word) → vs ++ (v ∷ []) ≡ ws ++ (w ∷ []) → vs ≡ ws
behind_one [] [] v w e = refl
behind_one [] (x ∷ ws) v w e =
    let z : ⊥ = omega (arith, ap length e, length-append ws (w ∷ [])) in absurd z
behind_one (x ∷ vs) [] v w e =
    let z : ⊥ = omega (arith, ap length e, length-append vs (v ∷ [])) in absurd z
behind_one (x ∷ vs) (y ∷ ws) v w e = ap₂ ◌∷◌ (cc) (behind_one vs ws v w (cc))

-- lists that pass
fine_one : (f : Found) → not (is_err f) ≡ true → f ≡ Ok tt
fine_one (Ok tt) e = refl
fine_one (Err r) e = absurd (false≢true e)

refused_one : (n : ℕ) (f : Found) → refused_with n f ≡ true → (r : Refusal) × (f ≡ Err r) × (refusal_number r ≡ n)
refused_one n (Ok tt) e = absurd (false≢true e)
refused_one n (Err r) e = (r, refl, eqb-true (refusal_number r) n e)

starts_fine : (rule signals ws : List ℕ) → not (is_err (lists_refusal rule signals)) ≡ true → length ws ≡ area_words
    → start_refusal rule signals ws ≡ Ok tt
starts_fine rule signals ws e l = start_accepts rule signals ws (fine_one (lists_refusal rule signals) e) l

module _ (rule signals : List ℕ) where
  -- the words after each record of a log that goes on
  abbrev words_after : List Entry → List (List ℕ) → List Word
  words_after log [] = []
  words_after log (bytes ∷ more) =
      word_after rule (log_with signals log bytes) ∷ words_after (log_with signals log bytes) more

  -- they are those of the rewriting, and one is behind them
  words_from_lem : (e : Entry) (es : List Entry) (more : List (List ℕ))
      → (c : Word) × (words_from (parameters_in rule) (read_rule rule)
      (after (parameters_in rule) (read_rule rule) e es)
      (seen signals more)
      ≡ word_after rule (e ∷ es) ∷ (words_after (e ∷ es) more ++ (c ∷ [])))
  unfolding word_after after fed log_with
  words_from_lem e es [] = (_, refl)
  words_from_lem e es (bytes ∷ more) =
      let m : ℕ = parameters_in rule in
      let d : Entry = entry_of signals (records_of signals) bytes in
      let rest = words_from_lem e (es ++ (d ∷ [])) more in (
        rest.0,
        ap (λ s. word m (after m (read_rule rule) e es).remainder ∷ words_from m (read_rule rule) s (seen signals more))
            (sym (fed_more m (read_rule rule) (first m (read_rule rule) e) es (d ∷ [])))
            ∙ ap (λ l. word m (after m (read_rule rule) e es).remainder ∷ l) rest.1,
      )

  words_of_lem : (records : List (List ℕ)) (words : List Word) (closing : Word)
      → words_of (parameters_in rule) (read_rule rule) (seen signals records) ≡ words ++ (closing ∷ [])
      → words ≡ words_after [] records
  unfolding log_with after fed
  words_of_lem [] words closing e =
      let z : ⊥ = omega (arith, ap length e, length-append words (closing ∷ [])) in absurd z
  words_of_lem (bytes ∷ more) words closing e =
      let w = words_from_lem (entry_of signals (records_of signals) bytes) [] more in
      behind_one words (words_after [] (bytes ∷ more)) closing w.0 (sym e ∙ w.1)

  -- records that are all accepted
  course_taken : (log : List Entry) (records : List (List ℕ)) → all_taken signals log records ≡ true
      → further_by signals (going log) (map feeding records) ≡ going (log ++ seen signals records)
  unfolding further_by further log_with
  course_taken log [] t = ap going (sym (append-nil log))
  course_taken log (bytes ∷ more) t =
      let d : Entry = entry_of signals (records_of signals) bytes in
      let a = both (accepts log bytes) _ t in
      ap (λ b. further_by signals (going (cond b (log ++ (d ∷ [])) log)) (map feeding more)) a.0
      ∙ course_taken (log ++ (d ∷ [])) more a.1
      ∙ ap going (append_assoc log (d ∷ []) (seen signals more))

  module _ (fine : Accepted rule signals) where
    get_words : (log : List Entry) → Right signals log → (records : List (List ℕ))
        → all_taken signals log records ≡ true → GetWords (held_after rule signals log) records
        (words_after log records)
    get_words log r [] t = tt
    get_words log r (bytes ∷ more) t =
        let a = both (accepts log bytes) _ t in (
          word_taken rule signals fine log r bytes a.0,
          subst (λ x. GetWords x more (words_after (log_with signals log bytes) more))
              (sym (feed_further rule signals fine log r bytes
              ∙ ap (λ b. held_after rule signals (cond b (log_with signals log bytes) log)) a.0))
              (get_words (log_with signals log bytes) (right_taken signals log bytes r a.0) more a.1),
        )

    ends_with : (log : List Entry) → Right signals log → (closing : Word)
        → eqb (word_number (word_of (value_of log (read_rule rule)))) (word_number closing) ≡ true → 0 < length log
        → EndsWith (ending defined (held_after rule signals log)) closing
    unfolding EndsWith
    ends_with [] r closing v h = let z : ⊥ = omega arith in absurd z
    ends_with (e ∷ es) r closing v h =
        subst (λ x. EndsWith x closing) (sym (close_some rule signals fine e es r).0)
        (ap word_of (verdict_says (value_of (e ∷ es) (read_rule rule)))
        ∙ word_one (word_of (value_of (e ∷ es) (read_rule rule))) closing v)

  -- what passes runs so
  run_right : (log : List (List ℕ)) (words : List Word) (closing : Word) → right rule signals log words closing ≡ true
      → (ws : List ℕ) → length ws ≡ area_words → Run rule signals log words closing ws
  unfolding held_in further_by log_in
  run_right log words closing e ws l =
      record {
        starts = start_found rule signals ws ∙ begun;
        told =
            subst (λ h. GetWords h log words) (sym (run_state rule signals ws begun []))
            (subst (GetWords (held_after rule signals []) log) (sym same)
            (get_words fine [] (right_none signals) log parts.1));
        ends =
            subst (λ h. EndsWith (ending defined h) closing)
            (sym (run_state rule signals ws begun (map feeding log) ∙ ap (held_in rule signals) course))
            (ends_with fine (seen signals log) logged closing parts.3 (some log parts.2));
      }
    where
      parts : (not (is_err (lists_refusal rule signals)) ≡ true) × (all_taken signals [] log ≡ true)
          × (same_words (words_of (parameters_in rule) (read_rule rule) (seen signals log)) (words ++ (closing ∷ []))
          ≡ true)
          × (eqb (word_number (word_of (value_of (seen signals log) (read_rule rule)))) (word_number closing) ≡ true)
      parts = all_four _ _ _ _ e

      begun : start_refusal rule signals ws ≡ Ok tt
      begun = starts_fine rule signals ws parts.0 l

      fine : Accepted rule signals
      fine = (start_accepted rule signals ws begun).0

      same : words ≡ words_after [] log
      same = words_of_lem log words closing (words_one _ (words ++ (closing ∷ [])) parts.2)

      course : course_of signals (map feeding log) ≡ going (seen signals log)
      course = course_taken [] log parts.1

      logged : Right signals (seen signals log)
      logged = subst (λ c. Right signals (log_in c)) course (course_right rule signals fine (map feeding log))

      some : (log : List (List ℕ))
          → same_words (words_of (parameters_in rule) (read_rule rule) (seen signals log)) (words ++ (closing ∷ []))
          ≡ true
          → 0 < length (seen signals log)
      some [] t =
          let z : ⊥
          = omega (arith, ap length (words_one [] (words ++ (closing ∷ [])) t), length-append words (closing ∷ [])) in
          absurd z
      some (bytes ∷ more) t = omega arith

-- every row that passes
pub answered : (row : Row) → passes row ≡ true → Answers row
unfolding passes Answers Carries start_of start_with
answered (says rule log words closing) e = run_right rule vents log words closing e
answered (winds limit unit meets fails) e =
    let b = both (wind_right limit unit meets kept) _ e in
    λ ws l. (
      run_right rule_signal (signal_record 2 limit) (wind_record unit meets ∷ []) (pending ∷ []) kept b.0 ws l,
      all fails b.1 ws l,
    )
  where
    all : (fails : List ℕ) → all_in (λ wind. wind_right limit unit wind broken) fails ≡ true → (ws : List ℕ)
        → length ws ≡ area_words → AllOf (λ wind. WindRun limit unit wind broken ws) fails
    all [] e ws l = tt
    all (wind ∷ more) e ws l =
        let b = both (wind_right limit unit wind broken) _ e in (
          run_right rule_signal (signal_record 2 limit) (wind_record unit wind ∷ []) (pending ∷ []) broken b.0 ws l,
          all more b.1 ws l,
        )
answered (accepted rule n) e =
    let b = both (not (is_err (lists_refusal rule vents))) _ e in (
      eqb-true (parameters_in rule) n b.1,
      λ ws l. start_found rule vents ws ∙ starts_fine rule vents ws b.0 l,
    )
answered (refused rule number) e =
    λ ws.
    let r = refused_one number (lists_refusal rule vents) e in
    subst (λ f. Carries f number)
    (sym (start_found rule vents ws ∙ start_refuses_lem rule vents ws r.0 r.1)) r.2
answered (reads signal bytes w) e = run_right rule_signal signal (bytes ∷ []) (pending ∷ []) w e
answered (waits rule h) e =
    λ ws l.
    let b = both (not (is_err (lists_refusal rule vents))) _ e in
    let begun = starts_fine rule vents ws b.0 l in (
      start_found rule vents ws ∙ begun,
      ap wait_of (start_next rule vents ws begun)
          ∙ wait_held rule vents (start_accepted rule vents ws begun).0 (going [])
          ∙ horizon_one _ h (eqb-true _ _ b.1),
    )

-- so start, feed and close answer what every row of the table says
pub table_answered : AllOf Answers table
table_answered = go table examples
  where
    go : (rows : List Row) → all_in passes rows ≡ true → AllOf Answers rows
    go [] e = tt
    go (row ∷ rows) e = let b = both (passes row) _ e in (answered row b.0, go rows b.1)
