-- The bytes of a state by place, and the state that bytes hold.
-- Assumes nothing.
use mathlib.Core.Path.{◌≡◌, refl, sym, ap, ◌∙◌}
use mathlib.Core.Bool.{◌&&◌, cond}
use mathlib.Core.Logic.{inl, ⊎_elim}
use mathlib.Core.List.{List}
use Prim.Native.Nat.{ℕ, zero, suc, ◌+◌, ◌-◌, ◌≤◌, ◌<◌}
use native.Mathlib.Omega.{arith}
use lib.Dec.{leb, ltb}
use Rattle.std.specs.Int.{bytes_low_first}
use lib.ListN.{length, get_or, set, take, drop, length-set}
use Rattle.std.proofs.lemmas.List.{length-take-le, length-drop, get_or-take, get_or-drop}
use borrow.Author.Tests.{lt-ltb, le-ltb, le-leb, lt-leb}
use Rattle.ground.specs.Bytes.{little}
use Rattle.ground.proofs.Folds.{less_or_not}
use Rattle.ground.proofs.Tabs.{tab_is, filled_more, parted, length_parted, parted_new, parted_old}
use Rattle.meaning.specs.Rule.{Entry}
use Rattle.watcher.specs.declared.state.Watcher.{Watcher}
use Rattle.watcher.specs.declared.state.Phase.{Phase}
use Rattle.watcher.specs.declared.state.Phase.TheVariants.{Fresh, Running, Closed}
use Rattle.watcher.specs.declared.state.Verdict.TheVariants.{Kept, Broken}
use Rattle.watcher.specs.Limits.{list_bytes}
use Rattle.watcher.specs.Numbers.{stage_of, last_in}
use Rattle.watcher.specs.Calls.{zero_state}
use Rattle.port.specs.Layout.{state_bytes, rule_place, list_place, records_place, signals_place, time_place, word_place}
use Rattle.port.specs.Layout.{phase_place, zero_place, digit, phase_number, number_byte, byte_at}
use Rattle.port.specs.Layout.{phase_with, list_at, state_in, written}
use Rattle.port.proofs.Digits.{length_low, low_at}

module _ (records signals : ℕ) (last : Entry) (phase i : ℕ) where
  pub number_records : i < signals_place
      → digit records (i - records_place) ≡ number_byte records signals last phase i
  unfolding number_byte
  number_records h = rw (lt-ltb i signals_place h) refl

  pub number_signals : signals_place ≤ i → i < time_place
      → digit signals (i - signals_place) ≡ number_byte records signals last phase i
  unfolding number_byte
  number_signals a h = rw (le-ltb i signals_place a) (rw (lt-ltb i time_place h) refl)

  pub number_time : time_place ≤ i → i < word_place
      → digit last.time (i - time_place) ≡ number_byte records signals last phase i
  unfolding number_byte
  number_time a h =
      rw (le-ltb i signals_place (omega arith)) (rw (le-ltb i time_place a) (rw (lt-ltb i word_place h) refl))

  pub number_word : word_place ≤ i → i < phase_place
      → digit last.signals (i - word_place) ≡ number_byte records signals last phase i
  unfolding number_byte
  number_word a h =
      rw (le-ltb i signals_place (omega arith))
      (rw (le-ltb i time_place (omega arith)) (rw (le-ltb i word_place a) (rw (lt-ltb i phase_place h) refl)))

  pub number_phase : phase_place ≤ i → i < zero_place → phase ≡ number_byte records signals last phase i
  unfolding number_byte
  number_phase a h =
      rw (le-ltb i signals_place (omega arith))
      (rw (le-ltb i time_place (omega arith))
      (rw (le-ltb i word_place (omega arith)) (rw (le-ltb i phase_place a) (rw (lt-ltb i zero_place h) refl))))

  pub number_zero : zero_place ≤ i → 0 ≡ number_byte records signals last phase i
  unfolding number_byte
  number_zero a =
      rw (le-ltb i signals_place (omega arith))
      (rw (le-ltb i time_place (omega arith))
      (rw (le-ltb i word_place (omega arith))
      (rw (le-ltb i phase_place (omega arith)) (rw (le-ltb i zero_place a) refl))))

-- a state's bytes: those of its rule, of its list, and of its numbers
pub byte_rule : (w : Watcher) (i : ℕ) → i < list_place → get_or w.rule i 0 ≡ byte_at w i
unfolding byte_at
byte_rule w i h = rw (lt-ltb i list_place h) refl

pub byte_list : (w : Watcher) (i : ℕ) → list_place ≤ i → i < records_place
    → get_or w.list (i - list_place) 0 ≡ byte_at w i
unfolding byte_at
byte_list w i a h = rw (le-ltb i list_place a) (rw (lt-ltb i records_place h) refl)

pub byte_number : (w : Watcher) (i : ℕ) → records_place ≤ i
    → number_byte w.records w.signals (last_in (stage_of w.phase)) (phase_number w.phase) i
    ≡ byte_at w i
unfolding byte_at
byte_number w i a = rw (le-ltb i list_place (omega arith)) (rw (le-ltb i records_place a) refl)

-- bytes whose phase has no number, and bytes that hold a state
pub read_none : (bytes : List ℕ) (w : Watcher) → 3 < get_or bytes phase_place 0 → w ≡ zero_state → w ≡ state_in bytes
unfolding state_in
read_none bytes w h e = rw (lt-ltb 3 (get_or bytes phase_place 0) h) e

pub read_some : (bytes rule list : List ℕ) (number records signals time word : ℕ) (phase : Phase)
    → number ≡ get_or bytes phase_place 0 → number ≤ 3
    → rule ≡ list_at bytes rule_place → list ≡ list_at bytes list_place
    → time ≡ little bytes time_place 4 → word ≡ little bytes word_place 2 → phase ≡ phase_with number time word
    → records ≡ little bytes records_place 8 → signals ≡ little bytes signals_place 8
    → record { rule = rule; records = records; list = list; signals = signals; phase = phase } ≡ state_in bytes
unfolding state_in
read_some bytes rule list number records signals time word phase n h r l t w p k s =
    rw (le-ltb 3 (get_or bytes phase_place 0) (omega (arith, n))) cc

-- the bytes of a list from its place on, where they are there
pub list_there : (bytes : List ℕ) (place : ℕ) → place + list_bytes ≤ length bytes
    → take (place + list_bytes - place) (drop place bytes) ≡ list_at bytes place
unfolding list_at
list_there bytes place h =
    let k : place + list_bytes - place ≡ list_bytes = omega arith in
    rw k
    (tab_is list_bytes (λ i. get_or bytes (place + i) 0) (take list_bytes (drop place bytes)) 0
    (length-take-le list_bytes (drop place bytes) (omega (arith, length-drop place bytes)))
    (λ i l. get_or-take list_bytes (drop place bytes) i 0 l ∙ get_or-drop place bytes i 0))

-- bytes that are the state's below n
pub record Begun (w : Watcher) (n : ℕ) (bytes : List ℕ) : Type 0 where
  pub long : length bytes ≡ state_bytes
  pub each : (j : ℕ) → j < n → get_or bytes j 0 ≡ byte_at w j

module _ (w : Watcher) (bytes : List ℕ) where
  pub begun : length bytes ≡ state_bytes → Begun w 0 bytes
  begun l = record { long = l; each = λ j h. let z : ⊥ = omega arith in absurd z }

  -- one field more: its bytes from a place on
  put_field : (new : List ℕ) (from to : ℕ) → from ≤ to → to ≤ state_bytes → Begun w from bytes
      → length new ≡ to - from → ((i : ℕ) → i < to - from → get_or new i 0 ≡ byte_at w (from + i))
      → Begun w to (parted bytes new from to)
  put_field new from to low high sofar l p = record {
    long = length_parted bytes new from to low (omega (arith, sofar.long)) l ∙ sofar.long;
    each = λ j h.
        ⊎_elim
        (λ u.
        parted_old bytes new from to low (omega (arith, sofar.long)) l j 0 (inl u) ∙ sofar.each j u)
        (λ u.
        let e : from + (j - from) ≡ j = omega arith in
        parted_new bytes new from to low (omega (arith, sofar.long)) l j 0 u h
        ∙ p (j - from) (omega arith) ∙ ap (byte_at w) e)
        (less_or_not j from);
  }

  pub put_rule : (new : List ℕ) → Begun w rule_place bytes → length w.rule ≡ list_bytes → new ≡ w.rule
      → Begun w list_place (parted bytes new rule_place list_place)
  put_rule new sofar l e =
      put_field new rule_place list_place (omega arith) (omega arith) sofar (ap length e ∙ l)
      (λ i h.
      let z : rule_place + i ≡ i = omega arith in
      ap (λ b. get_or b i 0) e ∙ byte_rule w i h ∙ ap (byte_at w) (sym z))

  pub put_list : (new : List ℕ) → Begun w list_place bytes → length w.list ≡ list_bytes → new ≡ w.list
      → Begun w records_place (parted bytes new list_place records_place)
  put_list new sofar l e =
      put_field new list_place records_place (omega arith) (omega arith) sofar (ap length e ∙ l)
      (λ i h.
      let z : i ≡ list_place + i - list_place = omega arith in
      ap (λ b. get_or b i 0) e ∙ ap (λ k. get_or w.list k 0) z
      ∙ byte_list w (list_place + i) (omega arith) (omega arith))

  -- a number x of n bytes, as the code makes them
  pub put_number : (x n : ℕ) (new made : List ℕ) (from : ℕ) → records_place ≤ from → from + n ≤ state_bytes
      → Begun w from bytes → new ≡ made → made ≡ bytes_low_first 0 n x
      → ((i : ℕ) → from ≤ i → i < from + n → digit x (i - from)
      ≡ number_byte w.records w.signals (last_in (stage_of w.phase)) (phase_number w.phase) i)
      → Begun w (from + n) (parted bytes new from (from + n))
  put_number x n new made from low high sofar e f p =
      let k : from + n - from ≡ n = omega arith in
      put_field new from (from + n) (omega arith) high sofar (ap length (e ∙ f) ∙ length_low 0 n x ∙ sym k)
      (λ i h.
      let z : 0 + i ≡ from + i - from = omega arith in
      ap (λ b. get_or b i 0) (e ∙ f) ∙ low_at 0 n x i (omega arith) ∙ ap (digit x) z
      ∙ p (from + i) (omega arith) (omega arith) ∙ byte_number w (from + i) (omega arith))

  -- one byte more
  pub put_byte : (x from : ℕ) → from < state_bytes → Begun w from bytes → x ≡ byte_at w from
      → Begun w (from + 1) (set bytes from x)
  put_byte x from h sofar e = record {
    long = length-set bytes from x ∙ sofar.long;
    each = filled_more bytes from x 0 (byte_at w) (omega (arith, sofar.long)) e sofar.each;
  }

  pub finished : Begun w state_bytes bytes → bytes ≡ written w
  unfolding written
  finished all = tab_is state_bytes (byte_at w) bytes 0 all.long all.each
