-- A state in 280 bytes: the rule, the signal list, how many records each has, the last record's time and signals, and
-- the phase. Numbers have their lowest byte first.
use Rattle.std.specs.Prelude.{cond, List, ℕ, zero, suc, ◌+◌, ◌-◌, ◌/◌, ◌%◌, ltb, get_or}
use Rattle.ground.specs.Fold.{tab}
use Rattle.ground.specs.Bytes.{little}
use Rattle.meaning.specs.Rule.{Entry}
use Rattle.watcher.specs.declared.state.Watcher.{Watcher}
use Rattle.watcher.specs.declared.state.Phase.{Phase}
use Rattle.watcher.specs.declared.state.Phase.TheVariants.{Fresh, Running, Closed}
use Rattle.watcher.specs.declared.state.Verdict.TheVariants.{Kept, Broken}
use Rattle.watcher.specs.Limits.{list_bytes}
use Rattle.watcher.specs.Numbers.{stage_of, last_in}
use Rattle.watcher.specs.Calls.{zero_state}

-- the places of the rule and of the signal list; of their numbers of records, in 8 bytes each
abbrev pub rule_place : ℕ
rule_place = 0

abbrev pub list_place : ℕ
list_place = rule_place + list_bytes

abbrev pub records_place : ℕ
records_place = list_place + list_bytes

abbrev pub signals_place : ℕ
signals_place = records_place + 8

-- the place of the last record's time, in 4 bytes, of its signals, in 2, of the phase and of the zero behind it
abbrev pub time_place : ℕ
time_place = signals_place + 8

abbrev pub word_place : ℕ
word_place = time_place + 4

abbrev pub phase_place : ℕ
phase_place = word_place + 2

abbrev pub zero_place : ℕ
zero_place = phase_place + 1

-- the bytes of a state
abbrev pub state_bytes : ℕ
state_bytes = zero_place + 1

-- byte k of a number
unfoldable pub digit : ℕ → ℕ → ℕ
digit n zero = n % 256
digit n (suc k) = digit (n / 256) k

-- the number of a phase
abbrev pub phase_number : Phase → ℕ
phase_number Fresh = 0
phase_number (Running time signals) = 1
phase_number (Closed Kept) = 2
phase_number (Closed Broken) = 3

-- the byte of a state's numbers at a place behind its lists
unfoldable pub number_byte : (records signals : ℕ) → Entry → (phase : ℕ) → ℕ → ℕ
number_byte records signals last phase i =
    cond (ltb i signals_place) (digit records (i - records_place))
    (cond (ltb i time_place) (digit signals (i - signals_place))
    (cond (ltb i word_place) (digit last.time (i - time_place))
    (cond (ltb i phase_place) (digit last.signals (i - word_place)) (cond (ltb i zero_place) phase 0))))

-- the byte of a state at a place
unfoldable pub byte_at : Watcher → ℕ → ℕ
byte_at w i =
    cond (ltb i list_place) (get_or w.rule i 0)
    (cond (ltb i records_place) (get_or w.list (i - list_place) 0)
    (number_byte w.records w.signals (last_in (stage_of w.phase)) (phase_number w.phase) i))

-- a state in bytes
unfoldable pub written : Watcher → List ℕ
written w = tab state_bytes (byte_at w)

-- the phase with a number up to 3, a time and signals
unfoldable pub phase_with : (number time signals : ℕ) → Phase
phase_with zero time signals = Fresh
phase_with (suc zero) time signals = Running time signals
phase_with (suc (suc zero)) time signals = Closed Kept
phase_with (suc (suc (suc n))) time signals = Closed Broken

-- the list of records from a place on
unfoldable pub list_at : List ℕ → ℕ → List ℕ
list_at bytes place = tab list_bytes (λ i. get_or bytes (place + i) 0)

-- the state that bytes hold; where there is no such phase, a fresh state of zeros
unfoldable pub state_in : List ℕ → Watcher
state_in bytes =
    cond (ltb 3 (get_or bytes phase_place 0)) zero_state
    (record {
      rule = list_at bytes rule_place;
      records = little bytes records_place 8;
      list = list_at bytes list_place;
      signals = little bytes signals_place 8;
      phase = phase_with (get_or bytes phase_place 0) (little bytes time_place 4) (little bytes word_place 2);
    })
