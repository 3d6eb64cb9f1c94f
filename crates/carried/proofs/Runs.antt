-- Running a whole log answers and writes what the owner's demands say.
-- Assumes nothing.
use Rattle.std.proofs.Common.{Ok}
use mathlib.Core.Path.{◌≡◌, refl, sym, ap, ◌∙◌, subst}
use mathlib.Core.Bool.{Bool, not, cond}
use mathlib.Core.List.{List, [], ◌∷◌, ◌++◌, map}
use Prim.Native.Nat.{ℕ, suc, ◌+◌, ◌-◌, ◌<◌}
use native.Mathlib.Omega.{arith}
use lib.ListN.{length, get_or, take, drop}
use lib.Seq.{take_all}
use borrow.Author.Tests.{eq-eqb, ne_eqb}
use Rattle.meaning.specs.Rule.{time_at, Climbs}
use Rattle.meaning.specs.Meaning.{value_of}
use Rattle.watcher.specs.declared.state.Word.{Word}
use Rattle.watcher.specs.Answers.{Answer}
use Rattle.watcher.specs.Records.{time_of}
use Rattle.watcher.specs.Calls.{start_of, close_of}
use Rattle.watcher.specs.Machine.{MachineBytes, MachineWords}
use Rattle.watcher.specs.Runs.{Held, pieces}
use Rattle.watcher.specs.Numbers.{Says, decided}
use Rattle.demands.specs.Watching.{defined, Call, feeding, closing, told, ending, handed, handed_on, reached}
use Rattle.demands.specs.Watching.{MachineCall, MachineCalls, Begun}
use Rattle.demands.specs.Logs.{Course, going, further, further_by, course_of, last_time, log_of}
use Rattle.demands.specs.Rewritten.{read_rule, held_in}
use Rattle.demands.specs.Demands.{Demands, Decides}
use Rattle.demands.specs.Demands as demanded-by
use Rattle.demands.specs.OwnWork.{OwnWork}
use Rattle.demands.proofs.Following.{defined_meets}
use Rattle.demands.proofs.Demanded.{demanded}
use Rattle.demands.proofs.OwnWork.{own_work}
use Rattle.demands.proofs.Logs.{further_parts}
use Rattle.port.specs.Codes.{codes_length, word_code, verdict_code, told_at, told_code, answer_code, end_code}
use Rattle.port.specs.Whole.{codes_for, fed_from, closed_after, run_from, run_of}
use Rattle.carried.specs.Exporting.{Exports, MeetsExports}
use Rattle.carried.specs.Runs.{piece_at, log_to, RunRefuses, RunReports, RunIsDemanded}
use Rattle.carried.specs.Runs.{RunDecides, DecidedBy}
use Rattle.carried.proofs.Coding.{code_says, says_code, carries_code, carries_end, carries_found}
use Rattle.carried.proofs.Feeding.{fed_handed, length_codes, code_at, feeds_go, calls_next, calls_later}
use Rattle.carried.proofs.Feeding.{machine_pieces, machine_take, machine_drop, machine_at}

-- the demands of the definitions
demands : Demands defined
demands = demanded defined defined_meets

-- calls and one more
handed_last : (h : Held) (calls : List Call) (c : Call)
    → handed_on defined h (calls ++ (c ∷ [])) ≡ handed defined (handed_on defined h calls) c
unfolding handed_on
handed_last h [] c = refl
handed_last h (d ∷ calls) c = handed_last (handed defined h d) calls c

machine_closing : (calls : List Call) → MachineCalls calls → MachineCalls (calls ++ (closing ∷ []))
unfolding MachineCalls MachineCall
machine_closing [] m = (tt, tt)
machine_closing (c ∷ calls) m = (m.0, machine_closing calls m.1)

module _ (rule signals log ws codes : List ℕ) (br : MachineBytes rule) (bs : MachineBytes signals)
    (bl : MachineBytes log) (bw : MachineWords ws) where
  -- with a code for each piece, start decides
  counted : length codes ≡ length (pieces log)
      → run_of rule signals log ws codes
      ≡ run_from (start_of rule signals ws).0.found (start_of rule signals ws) (pieces log) codes
  unfolding run_of
  counted h =
      ap
      (λ b. cond (not b) (codes_length, ws, codes)
      (run_from (start_of rule signals ws).0.found (start_of rule signals ws) (pieces log) codes))
      (eq-eqb (length codes) (length (pieces log)) h)

  run_refuses : RunRefuses rule signals log ws codes (run_of rule signals log ws codes)
  unfolding run_of run_from defined
  run_refuses =
      record {
        lengths =
            λ h.
            ap
            (λ b. cond (not b) (codes_length, ws, codes)
            (run_from (start_of rule signals ws).0.found (start_of rule signals ws) (pieces log) codes))
            (ne_eqb (length codes) (length (pieces log)) h);
        lists =
            λ h n g.
            let c = ((demands.first.start rule signals ws br bs bw).refused n).1 g in
            let r = carries_found _ n c in
            let s = demands.first.start_zeros rule signals ws br bs bw n c in
            counted h
            ∙ ap (λ f. run_from f (start_of rule signals ws) (pieces log) codes) r.1
            ∙ (λ i. (r.2 i, s.1 i, codes));
      }

  module _ (fine : (start_of rule signals ws).0.found ≡ Ok tt) where
    begun : Begun defined rule signals ws
    unfolding defined
    begun = record { rule_bytes = br; signal_bytes = bs; words = bw; fine = fine }

    -- what is held after start, the calls of all pieces and of the first k
    abbrev first : Held
    first = record { state = (start_of rule signals ws).0.next; area = (start_of rule signals ws).1 }

    abbrev all : List Call
    all = map feeding (pieces log)

    abbrev some : ℕ → List Call
    some k = map feeding (take k (pieces log))

    machine_all : MachineCalls all
    machine_all = machine_pieces log bl

    machine_some : (k : ℕ) → MachineCalls (some k)
    machine_some k = machine_take (pieces log) k machine_all

    piece_bytes : (k : ℕ) → MachineBytes (piece_at log k)
    piece_bytes k = machine_at (pieces log) k machine_all

    -- the outcome, by calls
    abbrev outcome : ℕ × List ℕ × List ℕ
    outcome = (
      end_code (ending defined (reached defined rule signals ws all)),
      (handed defined (reached defined rule signals ws all) closing).area,
      codes_for first (pieces log),
    )

    run_is : length codes ≡ length (pieces log) → run_of rule signals log ws codes ≡ outcome
    unfolding run_from closed_after fed_from reached handed defined
    run_is h =
        counted h
        ∙ ap (λ f. run_from f (start_of rule signals ws) (pieces log) codes) fine
        ∙ ap
        (λ (x : Held). (
          end_code (close_of x.state x.area).0.answer,
          (close_of x.state x.area).1,
          codes_for first (pieces log),
        ))
        (fed_handed first (pieces log))

    -- the code of a piece
    abbrev answer_at : ℕ → Answer
    answer_at k = told defined (reached defined rule signals ws (some k)) (piece_at log k)

    code_is : (k : ℕ) → k < length (pieces log) → get_or outcome.2 k 0 ≡ answer_code (answer_at k)
    unfolding reached defined
    code_is k h = code_at first (pieces log) k h

    own : (k : ℕ) → OwnWork defined rule signals ws (some k)
    own k = own_work defined defined_meets rule signals ws begun (some k) (machine_some k)

    -- closing all of them
    closed_area : (course : Course) → course_of signals all ≡ course
        → outcome.1 ≡ (held_in rule signals (further signals course closing)).area
    unfolding reached further_by
    closed_area course c =
        ap (λ (x : Held). x.area)
        (sym (handed_last _ all closing)
        ∙ demands.second.state rule signals ws begun (all ++ (closing ∷ [])) (machine_closing all machine_all)
        ∙ ap (held_in rule signals) (further_parts signals (going []) all (closing ∷ []))
        ∙ ap (λ x. held_in rule signals (further signals x closing)) c)

    run_reports : RunReports rule signals log outcome
    unfolding further held_in end_code told_at told_code verdict_code
    run_reports =
        record {
          long = length_codes first (pieces log);
          word =
              λ k h a.
              code_is k h
              ∙ says_code (answer_at k) _
              (demands.second.word rule signals ws begun (some k) (machine_some k) (log_to signals log k)
              (feeds_go signals (take k (pieces log))) (piece_at log k) (piece_bytes k) a);
          wrong =
              λ k h w.
              code_is k h
              ∙ carries_code (answer_at k) 8
              ((own k).wrong (log_to signals log k) (feeds_go signals (take k (pieces log))) (piece_at log k)
              (piece_bytes k) w);
          early =
              λ k h w t.
              code_is k h
              ∙ carries_code (answer_at k) 9
              ((own k).early (log_to signals log k) (feeds_go signals (take k (pieces log))) (piece_at log k)
              (piece_bytes k) w t);
          closed =
              λ e es c.
              let course : course_of signals all ≡ going (e ∷ es) = feeds_go signals (pieces log) ∙ ap going c in (
                ap end_code (demands.second.reports rule signals ws begun all machine_all e es course),
                closed_area (going (e ∷ es)) course,
              );
          empty =
              λ c.
              let course : course_of signals all ≡ going [] = feeds_go signals (pieces log) ∙ ap going c in (
                carries_end _ 11
                    ((own_work defined defined_meets rule signals ws begun all machine_all).nothing course),
                closed_area (going []) course,
              );
        }

    -- a code of a word
    says_at : (k : ℕ) → k < length (pieces log) → (w : Word) → get_or outcome.2 k 0 ≡ word_code w
        → Says (answer_at k) w
    says_at k h w e = code_says (answer_at k) w (sym (code_is k h) ∙ e)

    decides_at : (k : ℕ) → k < length (pieces log) → (b : Bool) → get_or outcome.2 k 0 ≡ word_code (decided b)
        → Decides defined rule signals ws (some k) (piece_at log k) b
    decides_at k h b e =
        record {
          begun = begun;
          called = machine_some k;
          fed = piece_bytes k;
          says = says_at k h (decided b) e;
        }

    -- the calls between a piece and a later one
    abbrev between : ℕ → ℕ → List Call
    between k j = map feeding (take (j - suc k) (drop (suc k) (pieces log)))

    machine_between : (k j : ℕ) → MachineCalls (between k j)
    machine_between k j =
        machine_take (drop (suc k) (pieces log)) (j - suc k) (machine_drop (pieces log) (suc k) machine_all)

    later_calls : (k j : ℕ) → k < j → k < length (pieces log)
        → some j ≡ some k ++ (feeding (piece_at log k) ∷ between k j)
    later_calls k j h l = calls_later (pieces log) k j h l

    all_calls : (k : ℕ) → k < length (pieces log)
        → all ≡ some k ++ (feeding (piece_at log k) ∷ between k (length (pieces log)))
    all_calls k h =
        ap (map feeding) (sym (take_all (length (pieces log)) (pieces log) (omega arith)))
        ∙ later_calls k (length (pieces log)) h h

    -- past a horizon
    settled : (h : ℕ) → demanded-by.DecidedBy defined rule signals ws h → DecidedBy signals log outcome.2 h
    settled h d k l w e past =
        d (some k) (machine_some k) (piece_at log k) (piece_bytes k) w (says_at k l w e)
        (subst (λ calls. time_at (log_of signals calls) 0 + h < time_of (piece_at log k)) (calls_next (pieces log) k l)
        past)

    run_decides : RunDecides rule signals log outcome
    unfolding end_code told_at told_code verdict_code
    run_decides =
        record {
          holds =
              λ k h b e more.
              subst
              (λ calls.
              Climbs (last_time (log_of signals calls)) more
              → value_of (log_of signals calls ++ more) (read_rule rule) ≡ b)
              (sym (calls_next (pieces log) k h))
              (demands.third.holds rule signals ws (some k) (piece_at log k) b (decides_at k h b e) more);
          stays =
              λ k j l h b e w f.
              let k-in : k < length (pieces log) = omega arith in
              demands.third.stays rule signals ws (some k) (piece_at log k) b (decides_at k k-in b e) (between k j)
              (machine_between k j) (piece_at log j) (piece_bytes j) w
              (subst (λ calls. Says (told defined (reached defined rule signals ws calls) (piece_at log j)) w)
              (later_calls k j l k-in) (says_at j h w f));
          agrees =
              λ k h b e.
              ap end_code
              (ap (λ calls. ending defined (reached defined rule signals ws calls)) (all_calls k h)
              ∙ demands.third.agrees rule signals ws (some k) (piece_at log k) b (decides_at k h b e)
              (between k (length (pieces log))) (machine_between k (length (pieces log))) (log_of signals all)
              (ap (course_of signals) (sym (all_calls k h)) ∙ feeds_go signals (pieces log)));
          horizon = λ h limit. settled h (demands.third.horizon rule signals ws begun h limit);
          finite =
              λ limits.
              let d = demands.third.finite rule signals ws begun limits in
              (d.0, d.1, settled d.0 d.2);
        }

-- what the exports run is demanded
module _ (f : Exports) (right : MeetsExports f) where
  pub run_is_demanded : RunIsDemanded f
  unfolding defined
  run_is_demanded rule signals log ws codes r s l w c =
      let same = right.runs rule signals log ws codes r s l w c in (
        subst (RunRefuses rule signals log ws codes) (sym same) (run_refuses rule signals log ws codes r s l w),
        λ long none.
            let fine = (demands.first.start rule signals ws r s w).fine.1 none in
            subst (λ o. RunReports rule signals log o × RunDecides rule signals log o)
            (sym (same ∙ run_is rule signals log ws codes r s l w fine long)) (
              run_reports rule signals log ws codes r s l w fine,
              run_decides rule signals log ws codes r s l w fine,
            ),
      )
