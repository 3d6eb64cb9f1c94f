-- Start, feed and close hand back what a machine can hand in again.
-- Assumes nothing.
use Rattle.std.proofs.Common.{Ok, Err}
use mathlib.Core.Path.{◌≡◌, refl, sym, subst}
use mathlib.Core.Bool.{Bool}
use mathlib.Core.Logic.{⊎_elim}
use mathlib.Core.List.{List, [], ◌∷◌}
use Prim.Native.Nat.{ℕ, zero, suc, ◌+◌, ◌^◌, ◌≤◌, ◌<◌}
use native.Mathlib.Omega.{arith}
use lib.ListN.{length, get_or, take, drop, replicate, length-take, length-drop, length-replicate}
use lib.Seq.{get_or-drop}
use Rattle.ground.specs.Fold.{tab}
use Rattle.ground.proofs.ByteLaws.{little_lt}
use Rattle.ground.proofs.Folds.{less_or_not}
use Rattle.ground.proofs.Numbers.{of_bits_lt, zero_at}
use Rattle.ground.proofs.Tabs.{length_tab, get_d_tab, get_d_tab_out}
use Rattle.forms.specs.Form.{Form}
use Rattle.rewriting.specs.Known.{words_for, area_of}
use Rattle.rewriting.proofs.Placed.{length_area_of, small_area_of}
use Rattle.watcher.specs.declared.state.Watcher.{Watcher}
use Rattle.watcher.specs.Answers.{Found}
use Rattle.watcher.specs.Limits.{most_parameters, list_bytes}
use Rattle.watcher.specs.Rules.{records_of}
use Rattle.watcher.specs.Records.{time_of, signal_word, entry_of}
use Rattle.watcher.specs.Calls.{padded, zero_state, fresh_state, running_state, closed_state, start_refusal}
use Rattle.watcher.specs.Calls.{start_with, start_of, feed_refusal, feed_with, feed_of, close_refusal, close_with}
use Rattle.watcher.specs.Calls.{close_of}
use Rattle.watcher.specs.Machine.{MachineBytes, MachineWords, MachinePhase, MachineState}
use Rattle.watcher.proofs.Decoded.{length_most, fine_tests, accepted_list}
use Rattle.watcher.proofs.Testing.{start_passed}

-- a table of bytes
tab_small : (n : ℕ) (g : ℕ → ℕ) → ((i : ℕ) → g i < 256) → (i : ℕ) → get_or (tab n g) i 0 < 256
tab_small n g h i =
    ⊎_elim (λ l. subst (λ x. x < 256) (sym (get_d_tab n g i 0 l)) (h i))
    (λ l. subst (λ x. x < 256) (sym (get_d_tab_out n g i 0 l)) (omega arith)) (less_or_not i n)

pub bytes_tab : (n : ℕ) (g : ℕ → ℕ) → n < 2 ^ 63 → ((i : ℕ) → g i < 256) → MachineBytes (tab n g)
bytes_tab n g f h = record { small = tab_small n g h; few = omega (arith, length_tab n g) }

-- the first of some bytes, and those behind them
pub take_small : (n : ℕ) (bytes : List ℕ) → ((i : ℕ) → get_or bytes i 0 < 256) → (i : ℕ)
    → get_or (take n bytes) i 0 < 256
take_small zero bytes h i = omega arith
take_small (suc n) [] h i = omega arith
take_small (suc n) (b ∷ bytes) h zero = h zero
take_small (suc n) (b ∷ bytes) h (suc i) = take_small n bytes (λ j. h (suc j)) i

pub drop_small : (n : ℕ) (bytes : List ℕ) → ((i : ℕ) → get_or bytes i 0 < 256) → (i : ℕ)
    → get_or (drop n bytes) i 0 < 256
drop_small n bytes h i = subst (λ x. x < 256) (sym (get_or-drop n bytes i 0)) (h (n + i))

pub take_bytes : (n : ℕ) (bytes : List ℕ) → MachineBytes bytes → MachineBytes (take n bytes)
take_bytes n bytes m =
    record { small = take_small n bytes m.small; few = omega (arith, length-take n bytes, m.few) }

pub drop_bytes : (n : ℕ) (bytes : List ℕ) → MachineBytes bytes → MachineBytes (drop n bytes)
drop_bytes n bytes m =
    record { small = drop_small n bytes m.small; few = omega (arith, length-drop n bytes, m.few) }

-- a list of zeros, and the list of a state
zero_bytes : MachineBytes (replicate list_bytes 0)
zero_bytes =
    record {
      small = λ i. omega (arith, zero_at list_bytes i);
      few = omega (arith, length-replicate {A = ℕ} list_bytes 0);
    }

padded_bytes : (list : List ℕ) → MachineBytes list → MachineBytes (padded list)
unfolding padded
padded_bytes list b = bytes_tab list_bytes (λ i. get_or list i 0) (omega arith) b.small

-- an area that is laid out
pub area_words_lem : (m : ℕ) (past : List (Form m)) (remainder : Form m)
    → MachineWords (area_of most_parameters m past remainder)
unfolding words_for
area_words_lem m past remainder =
    record {
      small = small_area_of most_parameters m past remainder;
      few = omega (arith, length_area_of most_parameters m past remainder);
    }

pub machine_zero : MachineState zero_state
unfolding zero_state MachinePhase
machine_zero =
    record {
      long_rule = length-replicate {A = ℕ} list_bytes 0;
      rule = zero_bytes;
      long_list = length-replicate {A = ℕ} list_bytes 0;
      list = zero_bytes;
      records = omega arith;
      signals = omega arith;
      phase = tt;
    }

-- a list that start accepts has few records
few_records : (list : List ℕ) → length list ≤ list_bytes → records_of list < 2 ^ 64
unfolding records_of
few_records list h = omega arith

pub machine_fresh : (rule signals ws : List ℕ) → MachineBytes rule → MachineBytes signals
    → start_refusal rule signals ws ≡ Ok tt → MachineState (fresh_state rule signals)
unfolding fresh_state padded MachinePhase
machine_fresh rule signals ws br bs e =
    let a = fine_tests rule signals (start_passed rule signals ws (Ok tt) (sym e) refl).0 in
    let l = accepted_list rule signals a in
    record {
      long_rule = length_tab list_bytes (λ i. get_or rule i 0);
      rule = padded_bytes rule br;
      long_list = length_tab list_bytes (λ i. get_or signals i 0);
      list = padded_bytes signals bs;
      records = few_records rule (length_most rule a.long);
      signals = few_records signals (omega (arith, l.whole, l.most));
      phase = tt;
    }

-- a record's time has 32 bits, and its signals 16
pub machine_running : (w : Watcher) (list : List ℕ) (signals : ℕ) (bytes : List ℕ) → MachineState w
    → MachineBytes bytes → MachineState (running_state w (entry_of list signals bytes))
unfolding running_state entry_of time_of signal_word MachinePhase
machine_running w list signals bytes s b =
    record {
      long_rule = s.long_rule;
      rule = s.rule;
      long_list = s.long_list;
      list = s.list;
      records = s.records;
      signals = s.signals;
      phase = (little_lt bytes 0 4 b.small, of_bits_lt 16 _);
    }

pub machine_closed : (w : Watcher) (v : Bool) → MachineState w → MachineState (closed_state w v)
unfolding closed_state MachinePhase
machine_closed w v s =
    record {
      long_rule = s.long_rule;
      rule = s.rule;
      long_list = s.long_list;
      list = s.list;
      records = s.records;
      signals = s.signals;
      phase = tt;
    }

-- the next state and the area after each call
pub machine_start : (rule signals ws : List ℕ) → MachineBytes rule → MachineBytes signals → MachineWords ws
    → MachineState (start_of rule signals ws).0.next × MachineWords (start_of rule signals ws).1
unfolding start_of start_with
machine_start rule signals ws br bs b = go (start_refusal rule signals ws) refl
  where
    go : (f : Found) → start_refusal rule signals ws ≡ f
        → MachineState (start_with f rule signals ws).0.next × MachineWords (start_with f rule signals ws).1
    go (Ok tt) e = (machine_fresh rule signals ws br bs e, area_words_lem _ [] _)
    go (Err r) e = (machine_zero, b)

module _ (w : Watcher) (s : MachineState w) where
  pub machine_feed : (bytes ws : List ℕ) → MachineBytes bytes → MachineWords ws
      → MachineState (feed_of w bytes ws).0.next × MachineWords (feed_of w bytes ws).1
  unfolding feed_of feed_with
  machine_feed bytes ws p b = go (feed_refusal w bytes ws)
    where
      go : (f : Found) → MachineState (feed_with f w bytes ws).0.next × MachineWords (feed_with f w bytes ws).1
      go (Ok tt) = (machine_running w w.list w.signals bytes s p, area_words_lem _ _ _)
      go (Err r) = (s, b)

  pub machine_close : (ws : List ℕ) → MachineWords ws
      → MachineState (close_of w ws).0.next × MachineWords (close_of w ws).1
  unfolding close_of close_with
  machine_close ws b = go (close_refusal w ws)
    where
      go : (f : Found) → MachineState (close_with f w ws).0.next × MachineWords (close_with f w ws).1
      go (Ok tt) = (machine_closed w _ s, area_words_lem _ _ _)
      go (Err r) = (s, b)
