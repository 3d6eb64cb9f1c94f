-- The state that bytes hold is one that a machine can hand in, and what is written are bytes.
-- Assumes nothing.
use mathlib.Core.Bool.{Bool, true, false, cond}
use mathlib.Core.List.{List}
use Prim.Native.Nat.{ℕ, zero, suc, ◌+◌, ◌-◌, ◌/◌, ◌^◌, ◌<◌}
use native.Mathlib.Omega.{arith}
use lib.Dec.{ltb}
use lib.ListN.{get_or}
use Rattle.ground.specs.Bytes.{little}
use Rattle.ground.proofs.ByteLaws.{little_lt}
use Rattle.ground.proofs.Tabs.{length_tab}
use Rattle.meaning.specs.Rule.{Entry}
use Rattle.watcher.specs.declared.state.Watcher.{Watcher}
use Rattle.watcher.specs.declared.state.Phase.{Phase}
use Rattle.watcher.specs.declared.state.Phase.TheVariants.{Fresh, Running, Closed}
use Rattle.watcher.specs.declared.state.Verdict.TheVariants.{Kept, Broken}
use Rattle.watcher.specs.Limits.{list_bytes}
use Rattle.watcher.specs.Calls.{zero_state}
use Rattle.watcher.specs.Numbers.{stage_of, last_in}
use Rattle.watcher.specs.Machine.{MachineBytes, MachinePhase, MachineState}
use Rattle.watcher.proofs.Machines.{bytes_tab, machine_zero}
use Rattle.port.specs.Layout.{state_bytes, rule_place, list_place, records_place, signals_place, time_place, word_place}
use Rattle.port.specs.Layout.{phase_place, zero_place, digit, phase_number, number_byte, byte_at}
use Rattle.port.specs.Layout.{written, phase_with, list_at, state_in}

phase_machine : (n time signals : ℕ) → time < 2 ^ 32 → signals < 2 ^ 16 → MachinePhase (phase_with n time signals)
unfolding MachinePhase phase_with
phase_machine zero time signals t s = tt
phase_machine (suc zero) time signals t s = (t, s)
phase_machine (suc (suc zero)) time signals t s = tt
phase_machine (suc (suc (suc n))) time signals t s = tt

pub machine_in : (bytes : List ℕ) → MachineBytes bytes → MachineState (state_in bytes)
unfolding state_in list_at
machine_in bytes h = go (ltb 3 (get_or bytes phase_place 0))
  where
    go : (b : Bool)
        → MachineState (cond b zero_state
        (record {
          rule = list_at bytes rule_place;
          records = little bytes records_place 8;
          list = list_at bytes list_place;
          signals = little bytes signals_place 8;
          phase = phase_with (get_or bytes phase_place 0) (little bytes time_place 4) (little bytes word_place 2);
        }))
    go true = machine_zero
    go false =
        record {
          long_rule = length_tab list_bytes (λ i. get_or bytes (rule_place + i) 0);
          rule = bytes_tab list_bytes (λ i. get_or bytes (rule_place + i) 0) (omega arith)
              (λ i. h.small (rule_place + i));
          long_list = length_tab list_bytes (λ i. get_or bytes (list_place + i) 0);
          list = bytes_tab list_bytes (λ i. get_or bytes (list_place + i) 0) (omega arith)
              (λ i. h.small (list_place + i));
          records = little_lt bytes records_place 8 h.small;
          signals = little_lt bytes signals_place 8 h.small;
          phase = phase_machine (get_or bytes phase_place 0) _ _ (little_lt bytes time_place 4 h.small)
              (little_lt bytes word_place 2 h.small);
        }

-- a written state is bytes
digit_byte : (n k : ℕ) → digit n k < 256
unfolding digit
digit_byte n zero = omega arith
digit_byte n (suc k) = digit_byte (n / 256) k

phase_byte : (p : Phase) → phase_number p < 256
phase_byte Fresh = omega arith
phase_byte (Running time signals) = omega arith
phase_byte (Closed Kept) = omega arith
phase_byte (Closed Broken) = omega arith

either_byte : (b : Bool) (x y : ℕ) → x < 256 → y < 256 → cond b x y < 256
either_byte true x y h k = h
either_byte false x y h k = k

number_byte_lem : (records signals : ℕ) (last : Entry) (phase i : ℕ) → phase < 256
    → number_byte records signals last phase i < 256
unfolding number_byte
number_byte_lem records signals last phase i h =
    either_byte (ltb i signals_place) _ _ (digit_byte records _)
    (either_byte (ltb i time_place) _ _ (digit_byte signals _)
    (either_byte (ltb i word_place) _ _ (digit_byte last.time _)
    (either_byte (ltb i phase_place) _ _ (digit_byte last.signals _)
    (either_byte (ltb i zero_place) phase 0 h (omega arith)))))

pub written_bytes : (w : Watcher) → MachineState w → MachineBytes (written w)
unfolding written byte_at
written_bytes w s =
    bytes_tab state_bytes (byte_at w) (omega arith)
    (λ i.
    either_byte (ltb i list_place) _ _ (s.rule.small i)
    (either_byte (ltb i records_place) _ _ (s.list.small (i - list_place))
    (number_byte_lem w.records w.signals (last_in (stage_of w.phase)) (phase_number w.phase) i
    (phase_byte w.phase))))
