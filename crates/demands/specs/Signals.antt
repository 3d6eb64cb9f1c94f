-- How the demands read signals (document 02, R-3): by the test of a signal in a record.
use Rattle.std.specs.Prelude.{◌≡◌, Bool, false, not, cond, ◌⊎◌, ◌↔◌, List, ℕ, ◌+◌, ◌≤◌, ◌<◌, eqb, pos, length, get_or}
use Rattle.std.specs.Int.Signed.{le_z}
use Rattle.meaning.specs.Rule.{holds}
use Rattle.rewriting.specs.Decode.{byte_of}
use Rattle.watcher.specs.declared.readings.Tested.{Tested}
use Rattle.watcher.specs.declared.readings.Tested.TheVariants.{Holds, DoesNotHold, NoReading}
use Rattle.watcher.specs.Limits.{most_signals}
use Rattle.watcher.specs.Rules.{records_of}
use Rattle.watcher.specs.Signals.{limit_of}
use Rattle.watcher.specs.Records.{wrong_record, temperature_of, wind_of, answered, test_of, is_holding, entry_of}
use Rattle.watcher.specs.Speed.{not_slower, per_second, wind_speed}

-- a list of so many signals has signal n
pub record Listed (list : List ℕ) (count n : ℕ) : Type 0 where
  pub counted : n < count
  pub written : n < records_of list
  pub fits : n < most_signals

-- a signal has no reading in a record: air (1) with 32767, or wind (2) with 65535, whatever the unit
abbrev pub Blind : (list : List ℕ) (n : ℕ) (bytes : List ℕ) → Type 0
Blind list n bytes =
    ((byte_of list n 0 ≡ 1) × (temperature_of bytes ≡ pos 32767)) ⊎ ((byte_of list n 0 ≡ 2) × (wind_of bytes ≡ 65535))

-- what a signal with a reading answers, by whether its channel meets the limit: "at least" (0), or "below" (1)
abbrev pub asked : (list : List ℕ) (n : ℕ) → (met : Bool) → Tested
asked list n met = answered (cond (eqb (byte_of list n 1) 0) met (not met))

-- exactly one of three
abbrev pub ExactlyOne : (a b c : Type 0) → Type 0
ExactlyOne a b c = (a ⊎ b ⊎ c) × (a → b → ⊥) × (a → c → ⊥) × (b → c → ⊥)

-- signals i and j ask the same channel against the same limit, i for "at least" (0), j for "below" (1)
pub record Opposed (list : List ℕ) (count i j : ℕ) : Type 0 where
  pub first : Listed list count i
  pub second : Listed list count j
  pub channels : byte_of list i 0 ≡ byte_of list j 0
  pub limits : limit_of list i ≡ limit_of list j
  pub asks_least : byte_of list i 1 ≡ 0
  pub asks_below : byte_of list j 1 ≡ 1

-- of every list, count of its signals that is given beside it, and record
pub record SignalsAreTested : Type 0 where
  -- a record is refused by 8, or not, whatever its time, temperature and wind are
  pub taken : (bytes others : List ℕ) → length bytes ≡ length others
      → ((i : ℕ) → 8 ≤ i → get_or bytes i 0 ≡ get_or others i 0) → wrong_record bytes ≡ wrong_record others
  -- the record that a rule sees has a signal exactly where its test holds
  pub seen : (list : List ℕ) (count : ℕ) (bytes : List ℕ) (n : ℕ)
      → holds (entry_of list count bytes) n ≡ is_holding (test_of list count bytes n)
  -- a test holds, does not hold, or has no reading
  pub one : (list : List ℕ) (count : ℕ) (bytes : List ℕ) (n : ℕ)
      → ExactlyOne (test_of list count bytes n ≡ Holds) (test_of list count bytes n ≡ DoesNotHold)
      (test_of list count bytes n ≡ NoReading)
  -- a signal that the list lacks does not hold
  pub lacks : (list : List ℕ) (count : ℕ) (bytes : List ℕ) (n : ℕ) → (Listed list count n → ⊥)
      → test_of list count bytes n ≡ DoesNotHold
  -- no reading is answered where there is none, and nowhere else
  pub blind : (list : List ℕ) (count : ℕ) (bytes : List ℕ) (n : ℕ) → Listed list count n
      → (test_of list count bytes n ≡ NoReading) ↔ Blind list n bytes
  -- a temperature that is a reading stands against the limit, both with a sign
  pub air : (list : List ℕ) (count : ℕ) (bytes : List ℕ) (n : ℕ) → Listed list count n → byte_of list n 0 ≡ 1
      → (temperature_of bytes ≡ pos 32767 → ⊥)
      → test_of list count bytes n ≡ asked list n (le_z (limit_of list n) (temperature_of bytes))
  -- lee vent (3), windward vent (4) and rain (5), bytes 8, 9 and 10, always do
  pub others : (list : List ℕ) (count : ℕ) (bytes : List ℕ) (n i : ℕ) → Listed list count n → i < 3
      → byte_of list n 0 ≡ 3 + i
      → test_of list count bytes n ≡ asked list n (le_z (limit_of list n) (pos (get_or bytes (8 + i) 0)))
  -- with a reading "below" is the opposite of "at least"
  pub opposite : (list : List ℕ) (count : ℕ) (bytes : List ℕ) (i j : ℕ) → Opposed list count i j
      → (Blind list i bytes → ⊥) → holds (entry_of list count bytes) j ≡ not (holds (entry_of list count bytes) i)
  -- with none both are false
  pub neither : (list : List ℕ) (count : ℕ) (bytes : List ℕ) (i j : ℕ) → Opposed list count i j → Blind list i bytes
      → (holds (entry_of list count bytes) i ≡ false) × (holds (entry_of list count bytes) j ≡ false)

-- a wind that is a reading compares exact speeds, whatever the unit: it meets the limit where it is not slower
abbrev pub WindIsExact : Type 0
WindIsExact =
    (list : List ℕ) (count : ℕ) (bytes : List ℕ) (n : ℕ) → Listed list count n → byte_of list n 0 ≡ 2
    → (wind_of bytes ≡ 65535 → ⊥)
    → test_of list count bytes n ≡ asked list n (not_slower (wind_speed bytes) (per_second (limit_of list n)))
