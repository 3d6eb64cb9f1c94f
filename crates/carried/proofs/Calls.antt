-- After start and any calls the lent bytes are the watcher's state, written, and each code is that of its answer.
-- Assumes nothing.
use mathlib.Core.Path.{◌≡◌, sym, ap, ap₂, ◌∙◌, subst}
use mathlib.Core.List.{List, [], ◌∷◌}
use Prim.Native.Nat.{ℕ}
use Rattle.watcher.specs.Calls.{start_of, feed_of, ask_of, close_of}
use Rattle.watcher.specs.Machine.{MachineBytes, MachineWords, MachineState}
use Rattle.watcher.specs.Runs.{Held}
use Rattle.watcher.proofs.Machines.{machine_start, machine_feed, machine_close}
use Rattle.demands.specs.Watching.{defined, Call, feeding, asking, closing, handed, handed_on, reached, MachineCall}
use Rattle.demands.specs.Watching.{MachineCalls}
use Rattle.port.specs.Layout.{written, state_in}
use Rattle.port.specs.Codes.{found_code, answer_code, end_code}
use Rattle.port.proofs.ReadBack.{read_back}
use Rattle.port.proofs.Machines.{written_bytes}
use Rattle.carried.specs.Exporting.{Exports, MeetsExports}
use Rattle.carried.specs.Calls.{Lent, lent_on, lent_all, lent_after, CallsAreCarried}
use Rattle.carried.proofs.Steps.{Carries, start_step, refuse_step, feed_step, ask_step, close_step}
use Rattle.carried.proofs.Steps.{wait_step}

-- what is lent is what the watcher holds, and a machine can hold it
record Follows (l : Lent) (h : Held) : Type 0 where
  bytes : l.bytes ≡ written h.state
  area : l.area ≡ h.area
  state : MachineState h.state
  words : MachineWords h.area

module _ (f : Exports) (right : MeetsExports f) where
  feed_carries : (l : Lent) (h : Held) → Follows l h → (piece : List ℕ) → MachineBytes piece
      → Carries (f.feed l.bytes piece l.area) (answer_code (feed_of h.state piece h.area).0.answer)
      (feed_of h.state piece h.area).0.next (feed_of h.state piece h.area).1
  feed_carries l h s piece p =
      subst
      (λ o. Carries o (answer_code (feed_of h.state piece h.area).0.answer)
      (feed_of h.state piece h.area).0.next (feed_of h.state piece h.area).1)
      (sym
      (ap₂ (λ b ws. f.feed b piece ws) s.bytes s.area
      ∙ right.feeds (written h.state) piece h.area (written_bytes h.state s.state) p s.words))
      (feed_step h.state s.state h.area piece)

  ask_carries : (l : Lent) (h : Held) → Follows l h
      → f.ask l.bytes l.area ≡ (end_code (ask_of h.state h.area), written h.state, h.area)
  ask_carries l h s =
      ap₂ f.ask s.bytes s.area
      ∙ right.asks (written h.state) h.area (written_bytes h.state s.state) s.words
      ∙ ap (λ n. (n, written h.state, h.area)) (ask_step h.state s.state h.area)

  close_carries : (l : Lent) (h : Held) → Follows l h
      → Carries (f.close l.bytes l.area) (end_code (close_of h.state h.area).0.answer)
      (close_of h.state h.area).0.next (close_of h.state h.area).1
  close_carries l h s =
      subst
      (λ o. Carries o (end_code (close_of h.state h.area).0.answer) (close_of h.state h.area).0.next
      (close_of h.state h.area).1)
      (sym
      (ap₂ f.close s.bytes s.area
      ∙ right.closes (written h.state) h.area (written_bytes h.state s.state) s.words))
      (close_step h.state s.state h.area)

  one_follows : (l : Lent) (h : Held) (c : Call) → Follows l h → MachineCall c
      → Follows (lent_on f l c) (handed defined h c)
  unfolding lent_on handed defined MachineCall
  one_follows l h (feeding piece) s p =
      let o = feed_carries l h s piece p in
      let m = machine_feed h.state s.state piece h.area p s.words in
      record { bytes = o.bytes_are; area = o.area_is; state = m.0; words = m.1 }
  one_follows l h asking s p =
      let o = ask_carries l h s in
      record {
        bytes = ap (λ (x : ℕ × List ℕ × List ℕ). x.1) o;
        area = ap (λ (x : ℕ × List ℕ × List ℕ). x.2) o;
        state = s.state;
        words = s.words;
      }
  one_follows l h closing s p =
      let o = close_carries l h s in
      let m = machine_close h.state s.state h.area s.words in
      record { bytes = o.bytes_are; area = o.area_is; state = m.0; words = m.1 }

  all_follow : (l : Lent) (h : Held) (calls : List Call) → Follows l h → MachineCalls calls
      → Follows (lent_all f l calls) (handed_on defined h calls)
  unfolding lent_all handed_on MachineCalls
  all_follow l h [] s p = s
  all_follow l h (c ∷ more) s p =
      all_follow (lent_on f l c) (handed defined h c) more (one_follows l h c s p.0) p.1

  pub calls_are_carried : CallsAreCarried f
  unfolding lent_after reached defined
  calls_are_carried rule signals bytes ws r s b long w calls p =
      let o =
      subst
      (λ x. Carries x (found_code (start_of rule signals ws).0.found) (start_of rule signals ws).0.next
      (start_of rule signals ws).1)
      (sym (right.starts rule signals bytes ws r s b w)) (start_step rule signals bytes ws long) in
      let m = machine_start rule signals ws r s w in
      let l : Lent
      = lent_all f
      (record { bytes = (f.start rule signals bytes ws).1; area = (f.start rule signals bytes ws).2 }) calls in
      let h : Held
      = handed_on defined
      (record { state = (start_of rule signals ws).0.next; area = (start_of rule signals ws).1 }) calls in
      let all : Follows l h
      = all_follow _ _ calls (record { bytes = o.bytes_are; area = o.area_is; state = m.0; words = m.1 }) p in
      record {
        started = o.code_is;
        bytes_are = all.bytes;
        state_is = ap state_in all.bytes ∙ sym (read_back h.state all.state);
        area_is = all.area;
        refused =
            λ piece q.
            ap₂ (λ b ws. f.refuses b piece ws) all.bytes all.area
            ∙ right.refusing (written h.state) piece h.area (written_bytes h.state all.state) q
            all.words
            ∙ refuse_step h.state all.state h.area piece;
        fed = λ piece q. (feed_carries l h all piece q).code_is;
        asks =
            ask_carries l h all
            ∙ ap₂ (λ b ws. (end_code (ask_of h.state h.area), b, ws)) (sym all.bytes) (sym all.area);
        closed = (close_carries l h all).code_is;
        waits =
            ap f.horizon all.bytes
            ∙ right.waits (written h.state) (written_bytes h.state all.state)
            ∙ wait_step h.state all.state;
      }
