-- Reading back what was written gives the state.
-- Assumes nothing.
use mathlib.Core.Path.{◌≡◌, refl, sym, ap, ◌∙◌}
use Prim.Native.Nat.{ℕ, ◌+◌, ◌-◌, ◌^◌, ◌≤◌, ◌<◌}
use native.Mathlib.Omega.{arith}
use lib.ListN.{length, get_or}
use Rattle.ground.specs.Bytes.{little}
use Rattle.ground.proofs.Tabs.{get_d_tab, tab_is}
use Rattle.meaning.specs.Rule.{Entry}
use Rattle.watcher.specs.declared.state.Watcher.{Watcher}
use Rattle.watcher.specs.declared.state.Phase.{Phase}
use Rattle.watcher.specs.declared.state.Phase.TheVariants.{Fresh, Running, Closed}
use Rattle.watcher.specs.declared.state.Verdict.TheVariants.{Kept, Broken}
use Rattle.watcher.specs.Limits.{list_bytes}
use Rattle.watcher.specs.Numbers.{stage_of, last_in}
use Rattle.watcher.specs.Machine.{MachinePhase, MachineState}
use Rattle.port.specs.Layout.{state_bytes, rule_place, list_place, records_place, signals_place, time_place, word_place}
use Rattle.port.specs.Layout.{phase_place, digit, phase_number, number_byte, byte_at, written, phase_with}
use Rattle.port.specs.Layout.{list_at, state_in}
use Rattle.port.proofs.Digits.{little_digits}
use Rattle.port.proofs.Layouts.{number_records, number_signals, number_time, number_word, number_phase}
use Rattle.port.proofs.Layouts.{byte_rule, byte_list, byte_number, read_some}

-- a byte of a written state
written_at : (w : Watcher) (i : ℕ) → i < state_bytes → get_or (written w) i 0 ≡ byte_at w i
unfolding written
written_at w i h = get_d_tab state_bytes (byte_at w) i 0 h

module _ (w : Watcher) where
  abbrev last : Entry
  last = last_in (stage_of w.phase)

  abbrev phase : ℕ
  phase = phase_number w.phase

  rule_back : length w.rule ≡ list_bytes → w.rule ≡ list_at (written w) rule_place
  unfolding list_at
  rule_back h =
      tab_is list_bytes (λ i. get_or (written w) (rule_place + i) 0) w.rule 0 h
      (λ i l.
      let e : rule_place + i ≡ i = omega arith in
      byte_rule w i l ∙ sym (written_at w i (omega arith)) ∙ ap (λ k. get_or (written w) k 0) (sym e))

  list_back : length w.list ≡ list_bytes → w.list ≡ list_at (written w) list_place
  unfolding list_at
  list_back h =
      tab_is list_bytes (λ i. get_or (written w) (list_place + i) 0) w.list 0 h
      (λ i l.
      let e : list_place + i - list_place ≡ i = omega arith in
      ap (λ k. get_or w.list k 0) (sym e) ∙ byte_list w (list_place + i) (omega arith) (omega arith)
      ∙ sym (written_at w (list_place + i) (omega arith)))

  -- a number's bytes from a place on
  number_back : (place n x : ℕ) → records_place ≤ place → place + n ≤ state_bytes → x < 256 ^ n
      → ((k : ℕ) → k < n
      → digit x (place + k - place) ≡ number_byte w.records w.signals last phase (place + k))
      → x ≡ little (written w) place n
  number_back place n x a b h p =
      sym
      (little_digits (written w) place n x
      (λ k l.
      let e : place + k - place ≡ k = omega arith in
      written_at w (place + k) (omega arith) ∙ sym (p k l ∙ byte_number w (place + k) (omega arith))
      ∙ ap (digit x) e) h)

  records_back : w.records < 2 ^ 64 → w.records ≡ little (written w) records_place 8
  records_back h =
      number_back records_place 8 w.records (omega arith) (omega arith) h
      (λ k l. number_records _ _ _ _ (records_place + k) (omega arith))

  signals_back : w.signals < 2 ^ 64 → w.signals ≡ little (written w) signals_place 8
  signals_back h =
      number_back signals_place 8 w.signals (omega arith) (omega arith) h
      (λ k l. number_signals _ _ _ _ (signals_place + k) (omega arith) (omega arith))

  time_back : last.time < 2 ^ 32 → last.time ≡ little (written w) time_place 4
  time_back h =
      number_back time_place 4 last.time (omega arith) (omega arith) h
      (λ k l. number_time _ _ _ _ (time_place + k) (omega arith) (omega arith))

  word_back : last.signals < 2 ^ 16 → last.signals ≡ little (written w) word_place 2
  word_back h =
      number_back word_place 2 last.signals (omega arith) (omega arith) h
      (λ k l. number_word _ _ _ _ (word_place + k) (omega arith) (omega arith))

  number_of_phase : phase ≡ get_or (written w) phase_place 0
  number_of_phase =
      number_phase _ _ _ phase phase_place (omega arith) (omega arith)
      ∙ byte_number w phase_place (omega arith) ∙ sym (written_at w phase_place (omega arith))

-- a phase is that of its number, with its time and its signals
phase_small : (p : Phase) → phase_number p ≤ 3
phase_small Fresh = omega arith
phase_small (Running time signals) = omega arith
phase_small (Closed Kept) = omega arith
phase_small (Closed Broken) = omega arith

phase_back : (p : Phase) → p ≡ phase_with (phase_number p) (last_in (stage_of p)).time (last_in (stage_of p)).signals
unfolding phase_with last_in stage_of
phase_back Fresh = refl
phase_back (Running time signals) = refl
phase_back (Closed Kept) = refl
phase_back (Closed Broken) = refl

-- its time has 32 bits, and its signals 16
last_small : (p : Phase) → MachinePhase p
    → ((last_in (stage_of p)).time < 2 ^ 32) × ((last_in (stage_of p)).signals < 2 ^ 16)
unfolding MachinePhase last_in stage_of
last_small Fresh m = (omega arith, omega arith)
last_small (Running time signals) m = m
last_small (Closed v) m = (omega arith, omega arith)

-- reading back what was written gives the state
pub read_back : (w : Watcher) → MachineState w → w ≡ state_in (written w)
read_back w s =
    let small = last_small w.phase s.phase in
    read_some (written w) w.rule w.list (phase_number w.phase) w.records w.signals
    (last w).time (last w).signals w.phase (number_of_phase w) (phase_small w.phase)
    (rule_back w s.long_rule) (list_back w s.long_list) (time_back w small.0) (word_back w small.1)
    (phase_back w.phase) (records_back w s.records) (signals_back w s.signals)
