-- What running a whole log answers and writes, by the owner's demands.
use Rattle.std.specs.Prelude.{◌≡◌, Bool, true, false, List, [], ◌∷◌, ◌++◌, map, ℕ, ◌+◌, ◌<◌, length, get_or, take}
use Rattle.meaning.specs.Rule.{Entry, time_at, Climbs}
use Rattle.meaning.specs.Meaning.{value_of}
use Rattle.meaning.specs.Horizon.{within, horizon as horizon_of, AllFinite}
use Rattle.watcher.specs.declared.state.Word.{Word}
use Rattle.watcher.specs.Records.{wrong_record, time_of}
use Rattle.watcher.specs.Numbers.{saying, verdict_for, decided}
use Rattle.watcher.specs.Machine.{MachineBytes, MachineWords}
use Rattle.watcher.specs.Runs.{pieces}
use Rattle.demands.specs.Watching.{feeding}
use Rattle.demands.specs.Logs.{last_time, accepts, log_with, log_of}
use Rattle.demands.specs.Rewritten.{read_rule, held_after, held_closed, word_after}
use Rattle.demands.specs.Tables.{start_table, Given, NoneHolds}
use Rattle.port.specs.Codes.{codes_length, word_code, verdict_code}
use Rattle.carried.specs.Exporting.{Exports}

-- piece k of a log; the accepted records of the first k pieces, and of all
abbrev pub piece_at : List ℕ → ℕ → List ℕ
piece_at log k = get_or (pieces log) k []

abbrev pub log_to : (signals log : List ℕ) → ℕ → List Entry
log_to signals log k = log_of signals (map feeding (take k (pieces log)))

abbrev pub log_all : (signals log : List ℕ) → List Entry
log_all signals log = log_of signals (map feeding (pieces log))

-- demand 1: codes that are not one for each piece are refused with 90, and lists that start refuses with its number;
-- neither touches anything
pub record RunRefuses (rule signals log ws codes : List ℕ) (o : ℕ × List ℕ × List ℕ) : Type 0 where
  pub lengths : (length codes ≡ length (pieces log) → ⊥) → o ≡ (codes_length, ws, codes)
  pub lists : length codes ≡ length (pieces log) → (n : ℕ) → Given (start_table rule signals ws) n → o ≡ (n, ws, codes)

-- demand 2: each accepted piece gets the code of the rewriting's word, others 8 or 9; the code of the whole is that of
-- the value at the first accepted record, or 11 without one; the work area is what the rewriting and closing give
pub record RunReports (rule signals log : List ℕ) (o : ℕ × List ℕ × List ℕ) : Type 0 where
  pub long : length o.2 ≡ length (pieces log)
  pub word : (k : ℕ) → k < length (pieces log) → accepts (log_to signals log k) (piece_at log k) ≡ true
      → get_or o.2 k 0
      ≡ word_code (saying (word_after rule (log_with signals (log_to signals log k) (piece_at log k))))
  pub wrong : (k : ℕ) → k < length (pieces log) → wrong_record (piece_at log k) ≡ true → get_or o.2 k 0 ≡ 8
  pub early : (k : ℕ) → k < length (pieces log) → wrong_record (piece_at log k) ≡ false
      → time_of (piece_at log k) < last_time (log_to signals log k) → get_or o.2 k 0 ≡ 9
  pub closed : (e : Entry) (es : List Entry) → log_all signals log ≡ e ∷ es
      → (o.0 ≡ verdict_code (verdict_for (value_of (e ∷ es) (read_rule rule))))
      × (o.1 ≡ (held_closed rule signals e es).area)
  pub empty : log_all signals log ≡ [] → (o.0 ≡ 11) × (o.1 ≡ (held_after rule signals []).area)

-- a piece whose time is past the first accepted record's by more than h minutes has no code for pending
abbrev pub DecidedBy : (signals log codes : List ℕ) → ℕ → Type 0
DecidedBy signals log codes h =
    (k : ℕ) → k < length (pieces log) → (w : Word) → get_or codes k 0 ≡ word_code w
    → time_at (log_to signals log (k + 1)) 0 + h < time_of (piece_at log k) → (b : Bool) × (w ≡ decided b)

-- demand 3: a code for kept (broken) holds of every continuation with times that never fall, later codes of words and
-- the code of the whole agree with it, and past the horizon a word is decided
pub record RunDecides (rule signals log : List ℕ) (o : ℕ × List ℕ × List ℕ) : Type 0 where
  pub holds : (k : ℕ) → k < length (pieces log) → (b : Bool) → get_or o.2 k 0 ≡ word_code (decided b)
      → (more : List Entry) → Climbs (last_time (log_to signals log (k + 1))) more
      → value_of (log_to signals log (k + 1) ++ more) (read_rule rule) ≡ b
  pub stays : (k j : ℕ) → k < j → j < length (pieces log) → (b : Bool) → get_or o.2 k 0 ≡ word_code (decided b)
      → (w : Word) → get_or o.2 j 0 ≡ word_code w → w ≡ decided b
  pub agrees : (k : ℕ) → k < length (pieces log) → (b : Bool) → get_or o.2 k 0 ≡ word_code (decided b)
      → o.0 ≡ verdict_code (verdict_for b)
  pub horizon : (h : ℕ) → horizon_of (read_rule rule) ≡ within h → DecidedBy signals log o.2 h
  pub finite : AllFinite (read_rule rule)
      → (h : ℕ) × (horizon_of (read_rule rule) ≡ within h) × DecidedBy signals log o.2 h

abbrev pub RunIsDemanded : Exports → Type 0
RunIsDemanded f =
    (rule signals log ws codes : List ℕ) → MachineBytes rule → MachineBytes signals → MachineBytes log
    → MachineWords ws → MachineBytes codes
    → let o : ℕ × List ℕ × List ℕ = f.run rule signals log ws codes in
    RunRefuses rule signals log ws codes o
    × (length codes ≡ length (pieces log) → NoneHolds (start_table rule signals ws)
    → RunReports rule signals log o × RunDecides rule signals log o)
