-- Functions that meet the clauses go the way of the definitions, on everything that a machine can hand in.
-- Assumes nothing.
use Rattle.std.proofs.Common.{Ok, Err}
use mathlib.Core.Path.{◌≡◌, refl, sym, ap, ◌∙◌, subst}
use mathlib.Core.List.{List, [], ◌∷◌}
use Prim.Native.Nat.{ℕ}
use Rattle.watcher.specs.declared.state.Started.{Started}
use Rattle.watcher.specs.declared.state.Fed.{Fed}
use Rattle.watcher.specs.Answers.{Found, End}
use Rattle.watcher.specs.declared.state.Ended.{Ended}
use Rattle.watcher.specs.Machine.{MachineBytes, MachineWords, MachineState}
use Rattle.watcher.specs.Calls.{start_refusal, start_with, start_of}
use Rattle.watcher.specs.Runs.{Held}
use Rattle.watcher.proofs.Machines.{machine_start, machine_feed, machine_close}
use Rattle.demands.specs.Watching.{Functions, Meets, defined, Call, feeding, asking, closing, told, ending}
use Rattle.demands.specs.Watching.{handed, handed_on, reached, MachineCall, MachineCalls, Begun}
use Rattle.demands.specs.Logs.{course_of}
use Rattle.demands.specs.Rewritten.{held_in}
use Rattle.demands.proofs.Courses.{run_state}

-- the definitions meet them
pub defined_meets : Meets defined
unfolding defined
defined_meets =
    record {
      starts = λ rule signals ws r s b. refl;
      feeds = λ w bytes ws s p b. refl;
      asks = λ w ws s b. refl;
      closes = λ w ws s b. refl;
    }

-- a state and a work area that a machine can hand in
abbrev pub MachineHeld : Held → Type 0
MachineHeld h = MachineState h.state × MachineWords h.area

-- start accepts what it finds fine
pub start_found : (rule signals ws : List ℕ) → (start_of rule signals ws).0.found ≡ start_refusal rule signals ws
unfolding start_of start_with
start_found rule signals ws = go (start_refusal rule signals ws)
  where
    go : (f : Found) → (start_with f rule signals ws).0.found ≡ f
    go (Ok tt) = refl
    go (Err r) = refl

module _ (f : Functions) (right : Meets f) where
  one_same : (h : Held) (c : Call) → MachineHeld h → MachineCall c
      → (handed f h c ≡ handed defined h c) × MachineHeld (handed defined h c)
  unfolding handed defined MachineCall
  one_same h (feeding bytes) m p = (
    ap (λ (o : Fed × List ℕ). record { state = o.0.next; area = o.1 })
        (right.feeds h.state bytes h.area m.0 p m.1),
    machine_feed h.state m.0 bytes h.area p m.1,
  )
  one_same h asking m p = (
    ap (λ (o : End × List ℕ). record { state = h.state; area = o.1 })
        (right.asks h.state h.area m.0 m.1),
    m,
  )
  one_same h closing m p = (
    ap (λ (o : Ended × List ℕ). record { state = o.0.next; area = o.1 })
        (right.closes h.state h.area m.0 m.1),
    machine_close h.state m.0 h.area m.1,
  )

  -- so it is with what they hand on
  pub one_held : (h : Held) (c : Call) → MachineHeld h → MachineCall c → MachineHeld (handed f h c)
  one_held h c m p = let o = one_same h c m p in subst MachineHeld (sym o.0) o.1

  all_same : (h : Held) (calls : List Call) → MachineHeld h → MachineCalls calls
      → (handed_on f h calls ≡ handed_on defined h calls) × MachineHeld (handed_on defined h calls)
  unfolding handed_on MachineCalls
  all_same h [] m p = (refl, m)
  all_same h (c ∷ more) m p =
      let one = one_same h c m p.0 in
      let rest = all_same (handed defined h c) more one.1 p.1 in
      (ap (λ x. handed_on f x more) one.0 ∙ rest.0, rest.1)

  module _ (rule signals ws : List ℕ) (begun : Begun f rule signals ws) where
    start_same : f.start rule signals ws ≡ start_of rule signals ws
    start_same = right.starts rule signals ws begun.rule_bytes begun.signal_bytes begun.words

    pub start_fine : start_refusal rule signals ws ≡ Ok tt
    start_fine =
        sym (start_found rule signals ws) ∙ sym (ap (λ (o : Started × List ℕ). o.0.found) start_same) ∙ begun.fine

    module _ (calls : List Call) (machine : MachineCalls calls) where
      both_same : (reached f rule signals ws calls ≡ reached defined rule signals ws calls)
          × MachineHeld (reached defined rule signals ws calls)
      unfolding reached defined
      both_same =
          let h : Held = record { state = (start_of rule signals ws).0.next; area = (start_of rule signals ws).1 } in
          let all =
          all_same h calls
          (machine_start rule signals ws begun.rule_bytes begun.signal_bytes begun.words) machine in (
            ap
                (λ (o : Started × List ℕ). handed_on f (record { state = o.0.next; area = o.1 }) calls) start_same
                ∙ all.0,
            all.1,
          )

      -- after any calls state and area are what the rewriting gives for the accepted records
      pub reached_is : reached f rule signals ws calls ≡ held_in rule signals (course_of signals calls)
      reached_is = both_same.0 ∙ run_state rule signals ws start_fine calls

      pub reached_machine : MachineHeld (held_in rule signals (course_of signals calls))
      reached_machine = subst MachineHeld (run_state rule signals ws start_fine calls) both_same.1

      pub reached_held : MachineHeld (reached f rule signals ws calls)
      reached_held = subst MachineHeld (sym reached_is) reached_machine

      -- and the answers are the definitions'
      pub told_is : (bytes : List ℕ) → MachineBytes bytes
          → told f (reached f rule signals ws calls) bytes
          ≡ told defined (held_in rule signals (course_of signals calls)) bytes
      unfolding defined
      told_is bytes p =
          let h : Held = held_in rule signals (course_of signals calls) in
          ap (λ x. told f x bytes) reached_is
          ∙ ap (λ (o : Fed × List ℕ). o.0.answer)
          (right.feeds h.state bytes h.area reached_machine.0 p reached_machine.1)

      pub ending_is : ending f (reached f rule signals ws calls)
          ≡ ending defined (held_in rule signals (course_of signals calls))
      unfolding defined
      ending_is =
          let h : Held = held_in rule signals (course_of signals calls) in
          ap (ending f) reached_is
          ∙ ap (λ (o : Ended × List ℕ). o.0.answer)
          (right.closes h.state h.area reached_machine.0 reached_machine.1)

      -- and so is what one call more hands on
      pub handed_is : (c : Call) → MachineCall c
          → handed f (reached f rule signals ws calls) c
          ≡ handed defined (held_in rule signals (course_of signals calls)) c
      handed_is c p =
          ap (λ x. handed f x c) reached_is
          ∙ (one_same (held_in rule signals (course_of signals calls)) c reached_machine p).0
