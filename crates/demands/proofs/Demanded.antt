-- The owner's three demands hold of any functions that meet the clauses of start, feed, ask and close.
-- Assumes nothing.
use Rattle.std.proofs.Common.{Ok, Err}
use mathlib.Core.Path.{◌≡◌, refl, sym, ap, ◌∙◌, subst}
use mathlib.Core.List.{List, [], ◌∷◌, ◌++◌}
use Prim.Native.Nat.{ℕ}
use Rattle.meaning.specs.Rule.{Entry}
use Rattle.watcher.specs.declared.state.Watcher.{Watcher}
use Rattle.watcher.specs.Answers.{Found}
use Rattle.watcher.specs.declared.state.Started.{Started}
use Rattle.watcher.specs.declared.state.Fed.{Fed}
use Rattle.watcher.specs.declared.state.Ended.{Ended}
use Rattle.watcher.specs.declared.state.Word.{Word}
use Rattle.watcher.specs.Lists.{list_tests}
use Rattle.watcher.specs.Numbers.{refusal_number, saying, Says, found_in, found_at, decided}
use Rattle.watcher.specs.Calls.{zero_state, start_refusal, start_with, start_of, state_tests, feed_refusal, feed_with}
use Rattle.watcher.specs.Calls.{feed_of}
use Rattle.watcher.specs.Calls.{close_refusal, close_with, close_of}
use Rattle.watcher.specs.Machine.{MachineBytes}
use Rattle.watcher.proofs.Decoded.{Accepted}
use Rattle.demands.specs.Watching.{Functions, Meets, defined, Call, feeding, told, ending, reached, MachineCall}
use Rattle.demands.specs.Watching.{MachineCalls, Begun}
use Rattle.demands.specs.Logs.{log_with, going, course_of, log_in}
use Rattle.demands.specs.Rewritten.{held_in, word_after}
use Rattle.demands.specs.Tables.{start_table, feed_table, close_table, Carries, AsTable}
use Rattle.demands.specs.Demands.{Demand1, Rewrites, ClosingReports, StateIsRewritten, WordIsRewritten}
use Rattle.demands.specs.Demands.{WordHolds, WordStays, ClosingAgrees}
use Rattle.demands.specs.Demands.{FiniteIsDecided, HorizonDecides, Demands}
use Rattle.demands.proofs.OwnStates.{start_accepted}
use Rattle.demands.proofs.Signals.{signals_are_tested, wind_is_exact}
use Rattle.demands.proofs.Tabled.{as_table}
use Rattle.demands.proofs.Logs.{Right}
use Rattle.demands.proofs.Values.{finite_rule}
use Rattle.demands.proofs.Courses.{close_some}
use Rattle.demands.proofs.Following.{start_found, start_fine, reached_is, told_is, ending_is}
use Rattle.demands.proofs.Deciding.{Told, word_told, word_taken, course_right, told_holds, told_stays}
use Rattle.demands.proofs.Deciding.{told_agrees, told_settled}

-- demand 1 of the definitions
pub start_tabled : (rule signals ws : List ℕ) → AsTable (start_table rule signals ws) (start_refusal rule signals ws)
unfolding start_refusal list_tests refusal_number
start_tabled rule signals ws = as_table _

feed_tabled : (w : Watcher) (bytes ws : List ℕ) → AsTable (feed_table w bytes ws) (feed_refusal w bytes ws)
unfolding feed_refusal state_tests refusal_number
feed_tabled w bytes ws = as_table _

pub close_tabled : (w : Watcher) (ws : List ℕ) → AsTable (close_table w ws) (close_refusal w ws)
unfolding close_refusal state_tests refusal_number
close_tabled w ws = as_table _

feed_found : (w : Watcher) (bytes ws : List ℕ) → found_in (feed_of w bytes ws).0.answer ≡ feed_refusal w bytes ws
unfolding feed_of feed_with found_in
feed_found w bytes ws = go (feed_refusal w bytes ws)
  where
    go : (f : Found) → found_in (feed_with f w bytes ws).0.answer ≡ f
    go (Ok tt) = refl
    go (Err r) = refl

close_found : (w : Watcher) (ws : List ℕ) → found_at (close_of w ws).0.answer ≡ close_refusal w ws
unfolding close_of close_with found_at
close_found w ws = go (close_refusal w ws)
  where
    go : (f : Found) → found_at (close_with f w ws).0.answer ≡ f
    go (Ok tt) = refl
    go (Err r) = refl

start_leaves : (rule signals ws : List ℕ) (n : ℕ) → Carries (start_of rule signals ws).0.found n
    → ((start_of rule signals ws).0.next ≡ zero_state) × ((start_of rule signals ws).1 ≡ ws)
unfolding start_of start_with Carries
start_leaves rule signals ws n c = go (start_refusal rule signals ws) c
  where
    go : (f : Found) → Carries (start_with f rule signals ws).0.found n
        → ((start_with f rule signals ws).0.next ≡ zero_state) × ((start_with f rule signals ws).1 ≡ ws)
    go (Ok tt) c = absurd c
    go (Err r) c = (refl, refl)

feed_leaves : (w : Watcher) (bytes ws : List ℕ) (n : ℕ) → Carries (found_in (feed_of w bytes ws).0.answer) n
    → ((feed_of w bytes ws).0.next ≡ w) × ((feed_of w bytes ws).1 ≡ ws)
unfolding feed_of feed_with Carries found_in
feed_leaves w bytes ws n c = go (feed_refusal w bytes ws) c
  where
    go : (f : Found) → Carries (found_in (feed_with f w bytes ws).0.answer) n
        → ((feed_with f w bytes ws).0.next ≡ w) × ((feed_with f w bytes ws).1 ≡ ws)
    go (Ok tt) c = absurd c
    go (Err r) c = (refl, refl)

close_leaves : (w : Watcher) (ws : List ℕ) (n : ℕ) → Carries (found_at (close_of w ws).0.answer) n
    → ((close_of w ws).0.next ≡ w) × ((close_of w ws).1 ≡ ws)
unfolding close_of close_with Carries found_at
close_leaves w ws n c = go (close_refusal w ws) c
  where
    go : (f : Found) → Carries (found_at (close_with f w ws).0.answer) n
        → ((close_with f w ws).0.next ≡ w) × ((close_with f w ws).1 ≡ ws)
    go (Ok tt) c = absurd c
    go (Err r) c = (refl, refl)

-- calls with a record and more behind them
pub machine_more : (calls : List Call) (bytes : List ℕ) (more : List Call) → MachineCalls calls → MachineBytes bytes
    → MachineCalls more → MachineCalls (calls ++ (feeding bytes ∷ more))
unfolding MachineCalls MachineCall
machine_more [] bytes more a p b = (p, b)
machine_more (c ∷ calls) bytes more a p b = (a.0, machine_more calls bytes more a.1 p b)

module _ (f : Functions) (right : Meets f) where
  pub first_demand : Demand1 f
  first_demand =
      record {
        start =
            λ rule signals ws r s b.
            subst (AsTable (start_table rule signals ws))
            (sym (ap (λ (o : Started × List ℕ). o.0.found) (right.starts rule signals ws r s b)
            ∙ start_found rule signals ws)) (start_tabled rule signals ws);
        feed =
            λ w bytes ws s p b.
            subst (AsTable (feed_table w bytes ws))
            (sym (ap (λ (o : Fed × List ℕ). found_in o.0.answer) (right.feeds w bytes ws s p b)
            ∙ feed_found w bytes ws)) (feed_tabled w bytes ws);
        close =
            λ w ws s b.
            subst (AsTable (close_table w ws))
            (sym (ap (λ (o : Ended × List ℕ). found_at o.0.answer) (right.closes w ws s b) ∙ close_found w ws))
            (close_tabled w ws);
        start_zeros =
            λ rule signals ws r s b n.
            subst
            (λ (o : Started × List ℕ). Carries o.0.found n → (o.0.next ≡ zero_state) × (o.1 ≡ ws))
            (sym (right.starts rule signals ws r s b)) (start_leaves rule signals ws n);
        feed_stays =
            λ w bytes ws s p b n.
            subst (λ (o : Fed × List ℕ). Carries (found_in o.0.answer) n → (o.0.next ≡ w) × (o.1 ≡ ws))
            (sym (right.feeds w bytes ws s p b)) (feed_leaves w bytes ws n);
        close_stays =
            λ w ws s b n.
            subst (λ (o : Ended × List ℕ). Carries (found_at o.0.answer) n → (o.0.next ≡ w) × (o.1 ≡ ws))
            (sym (right.closes w ws s b)) (close_leaves w ws n);
      }

  -- what is not refused is the definition's accepted case
  rewrites : Rewrites f
  unfolding start_of feed_of close_of
  rewrites =
      record {
        start =
            λ rule signals ws r s b none.
            right.starts rule signals ws r s b
            ∙ ap (λ x. start_with x rule signals ws) ((start_tabled rule signals ws).fine.1 none);
        feed =
            λ w bytes ws s p b none.
            right.feeds w bytes ws s p b
            ∙ ap (λ x. feed_with x w bytes ws) ((feed_tabled w bytes ws).fine.1 none);
        close =
            λ w ws s b none.
            right.closes w ws s b ∙ ap (λ x. close_with x w ws) ((close_tabled w ws).fine.1 none);
      }

  module _ (rule signals ws : List ℕ) where
    accepted : Begun f rule signals ws → Accepted rule signals
    accepted begun = (start_accepted rule signals ws (start_fine f right rule signals ws begun)).0

    log_right : Begun f rule signals ws → (calls : List Call) (log : List Entry) → course_of signals calls ≡ going log
        → Right signals log
    unfolding log_in
    log_right begun calls log c =
        subst (λ x. Right signals (log_in x)) c (course_right rule signals (accepted begun) calls)

    state_is_rewritten : StateIsRewritten f rule signals ws
    state_is_rewritten begun calls machine = reached_is f right rule signals ws begun calls machine

    closing_reports : ClosingReports f rule signals ws
    unfolding held_in
    closing_reports begun calls machine e es c =
        ending_is f right rule signals ws begun calls machine
        ∙ ap (λ x. ending defined (held_in rule signals x)) c
        ∙ (close_some rule signals (accepted begun) e es (log_right begun calls (e ∷ es) c)).0

    word_is_rewritten : WordIsRewritten f rule signals ws
    unfolding held_in
    word_is_rewritten begun calls machine log c bytes p a =
        subst (λ x. Says x (saying (word_after rule (log_with signals log bytes))))
        (sym (told_is f right rule signals ws begun calls machine bytes p
        ∙ ap (λ x. told defined (held_in rule signals x) bytes) c))
        (word_taken rule signals (accepted begun) log (log_right begun calls log c) bytes a)

    -- a record with a word, in a run of the definitions
    told_here : Begun f rule signals ws → (calls : List Call) → MachineCalls calls → (bytes : List ℕ)
        → MachineBytes bytes → (w : Word) → Says (told f (reached f rule signals ws calls) bytes) w
        → Told rule signals (course_of signals calls) bytes w
    told_here begun calls machine bytes p w s =
        let same = told_is f right rule signals ws begun calls machine bytes p in
        word_told rule signals (accepted begun) (course_of signals calls)
        (course_right rule signals (accepted begun) calls) bytes w (subst (λ x. Says x w) same s)

    word_holds : WordHolds f rule signals ws
    word_holds calls bytes b d more =
        told_holds rule signals (accepted d.begun) calls bytes b
        (told_here d.begun calls d.called bytes d.fed (decided b) d.says) more

    word_stays : WordStays f rule signals ws
    word_stays calls bytes b d more machine later p w s =
        told_stays rule signals (accepted d.begun) calls bytes b
        (told_here d.begun calls d.called bytes d.fed (decided b) d.says) more later w
        (told_here d.begun (calls ++ (feeding bytes ∷ more))
        (machine_more calls bytes more d.called d.fed machine) later p w s)

    closing_agrees : ClosingAgrees f rule signals ws
    unfolding held_in
    closing_agrees calls bytes b d more machine log c =
        ending_is f right rule signals ws d.begun (calls ++ (feeding bytes ∷ more))
        (machine_more calls bytes more d.called d.fed machine)
        ∙ ap (λ x. ending defined (held_in rule signals x)) c
        ∙ told_agrees rule signals (accepted d.begun) calls bytes b
        (told_here d.begun calls d.called bytes d.fed (decided b) d.says) more log c

    horizon_decides : HorizonDecides f rule signals ws
    horizon_decides begun h limit calls machine bytes p w s past =
        told_settled rule signals (accepted begun) calls bytes w (told_here begun calls machine bytes p w s) h limit
        past

    finite_is_decided : FiniteIsDecided f rule signals ws
    finite_is_decided begun finite =
        let h = finite_rule rule signals (accepted begun) finite in
        (h.0, h.1, horizon_decides begun h.0 h.1)

  -- all three demands
  pub demanded : Demands f
  demanded =
      record {
        first = first_demand;
        second =
            record {
              calls = rewrites;
              reports = closing_reports;
              state = state_is_rewritten;
              word = word_is_rewritten;
              signals = signals_are_tested;
              wind = wind_is_exact;
            };
        third =
            record {
              holds = word_holds;
              stays = word_stays;
              agrees = closing_agrees;
              finite = finite_is_decided;
              horizon = horizon_decides;
            };
      }
