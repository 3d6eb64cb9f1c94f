-- What is promised of asking holds of any functions that meet the clauses.
-- Assumes nothing.
use mathlib.Core.Path.{◌≡◌, refl, sym, ap, ◌∙◌, subst}
use mathlib.Core.List.{List, [], ◌∷◌, ◌++◌}
use Prim.Native.Nat.{ℕ}
use Rattle.watcher.specs.declared.state.Watcher.{Watcher}
use Rattle.watcher.specs.Answers.{End}
use Rattle.watcher.specs.declared.state.Ended.{Ended}
use Rattle.watcher.specs.Numbers.{found_at}
use Rattle.watcher.specs.Calls.{ask_of}
use Rattle.watcher.specs.Machine.{MachineWords, MachineState}
use Rattle.watcher.specs.Runs.{Held}
use Rattle.watcher.proofs.Asking.{ask_found, ask_as_close}
use Rattle.demands.specs.Watching.{Functions, Meets, Call, feeding, asking, closing, asked, ending, handed}
use Rattle.demands.specs.Watching.{handed_on, reached, MachineCalls, Begun}
use Rattle.demands.specs.Tables.{close_table, AsTable}
use Rattle.demands.specs.Asking.{without_asks, AskingReports, AskingAgrees, Asking}
use Rattle.demands.proofs.Following.{MachineHeld, one_held, reached_held}
use Rattle.demands.proofs.Demanded.{close_tabled, demanded, machine_more}

module _ (f : Functions) (right : Meets f) where
  ask_is : (w : Watcher) (ws : List ℕ) → MachineState w → MachineWords ws → (f.ask w ws).0 ≡ ask_of w ws
  ask_is w ws s b = ap (λ (o : End × List ℕ). o.0) (right.asks w ws s b)

  ask_leaves : (w : Watcher) (ws : List ℕ) → MachineState w → MachineWords ws → (f.ask w ws).1 ≡ ws
  ask_leaves w ws s b = ap (λ (o : End × List ℕ). o.1) (right.asks w ws s b)

  ask_closes : (w : Watcher) (ws : List ℕ) → MachineState w → MachineWords ws
      → (f.ask w ws).0 ≡ (f.close w ws).0.answer
  ask_closes w ws s b =
      ask_is w ws s b ∙ ask_as_close w ws
      ∙ sym (ap (λ (o : Ended × List ℕ). o.0.answer) (right.closes w ws s b))

  -- without the asks among them calls hand on the same
  alters_nothing : (h : Held) → MachineHeld h → (calls : List Call) → MachineCalls calls
      → handed_on f h calls ≡ handed_on f h (without_asks calls)
  unfolding handed_on without_asks MachineCalls handed
  alters_nothing h m [] p = refl
  alters_nothing h m (feeding bytes ∷ more) p =
      alters_nothing (handed f h (feeding bytes)) (one_held f right h (feeding bytes) m p.0) more p.1
  alters_nothing h m (asking ∷ more) p =
      ap (λ (ws : List ℕ). handed_on f (record { state = h.state; area = ws }) more)
      (ask_leaves h.state h.area m.0 m.1)
      ∙ alters_nothing h m more p.1
  alters_nothing h m (closing ∷ more) p =
      alters_nothing (handed f h closing) (one_held f right h closing m p.0) more p.1

  module _ (rule signals ws : List ℕ) where
    -- after any calls asking answers what closing would
    pub asks_ending : Begun f rule signals ws → (calls : List Call) → MachineCalls calls
        → asked f (reached f rule signals ws calls) ≡ ending f (reached f rule signals ws calls)
    asks_ending begun calls machine =
        let held = reached_held f right rule signals ws begun calls machine in
        ask_closes _ _ held.0 held.1

    asking_reports : AskingReports f rule signals ws
    asking_reports begun calls machine e es c =
        asks_ending begun calls machine
        ∙ (demanded f right).second.reports rule signals ws begun calls machine e es c

    asking_agrees : AskingAgrees f rule signals ws
    asking_agrees calls bytes b d more machine log c =
        asks_ending d.begun (calls ++ (feeding bytes ∷ more))
        (machine_more calls bytes more d.called d.fed machine)
        ∙ (demanded f right).third.agrees rule signals ws calls bytes b d more machine log c

  pub asking_promised : Asking f
  asking_promised =
      record {
        tabled =
            λ w ws s b.
            subst (AsTable (close_table w ws)) (sym (ap found_at (ask_is w ws s b) ∙ ask_found w ws))
            (close_tabled w ws);
        leaves = ask_leaves;
        closes = ask_closes;
        alters_nothing = λ h s b. alters_nothing h (s, b);
        reports = asking_reports;
        agrees = asking_agrees;
      }
