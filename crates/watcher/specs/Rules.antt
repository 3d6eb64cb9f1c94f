-- The rule list: its layout, and how many parameters its rule may have (document 01, "Lists on disk").
use Rattle.std.specs.Prelude.{Bool, true, false, not, ◌&&◌, ◌||◌, cond, List, [], ◌∷◌, ℕ, ◌/◌, ◌%◌}
use Rattle.std.specs.Prelude.{eqb, leb, ltb, length, get_or, Option, is_some}
use Rattle.ground.specs.Fold.{every}
use Rattle.meaning.specs.Rule.{parameters}
use Rattle.rewriting.specs.declared.step.Interval.{Interval}
use Rattle.rewriting.specs.declared.step.Record.{Record}
use Rattle.rewriting.specs.Decode.{record_bytes, kind_true, kind_signal, kind_since, kind_number, byte_in, byte_of}
use Rattle.rewriting.specs.Decode.{endless, record_in, rule_in}
use Rattle.watcher.specs.declared.state.Place.{Place}
use Rattle.watcher.specs.Limits.{most_records, most_signals, most_parameters}
use Rattle.watcher.specs.Places.{first_where}

-- how many records of so many bytes a list has, and how many rule or signal records
abbrev pub records_in : (size : ℕ) → List ℕ → ℕ
records_in size list = length list / size

unfoldable pub records_of : List ℕ → ℕ
records_of list = records_in record_bytes list

-- a length that is not a multiple of a record's, or not 1 to `most` records
unfoldable pub wrong_length_in : (size most : ℕ) → List ℕ → Bool
wrong_length_in size most list =
    not (eqb (length list % size) 0) || (eqb (length list) 0 || ltb most (records_in size list))

-- of a rule list: not a multiple of 8, or not 1 to 16 records
abbrev pub wrong_length : List ℕ → Bool
wrong_length list = wrong_length_in record_bytes most_records list

-- for each kind, which of the eight bytes are used: kind, left, right, zero, low, high, zero, zero
unfoldable pub used_bytes : List (List Bool)
used_bytes =
    (false ∷ false ∷ false ∷ false ∷ false ∷ false ∷ false ∷ false ∷ [])
    ∷ (true ∷ false ∷ false ∷ false ∷ false ∷ false ∷ false ∷ false ∷ [])
    ∷ (true ∷ false ∷ false ∷ false ∷ false ∷ false ∷ false ∷ false ∷ [])
    ∷ (true ∷ true ∷ false ∷ false ∷ false ∷ false ∷ false ∷ false ∷ [])
    ∷ (true ∷ true ∷ true ∷ false ∷ false ∷ false ∷ false ∷ false ∷ [])
    ∷ (true ∷ true ∷ true ∷ false ∷ false ∷ false ∷ false ∷ false ∷ [])
    ∷ (true ∷ true ∷ false ∷ false ∷ true ∷ true ∷ false ∷ false ∷ [])
    ∷ (true ∷ true ∷ true ∷ false ∷ true ∷ true ∷ false ∷ false ∷ [])
    ∷ (true ∷ true ∷ false ∷ false ∷ true ∷ true ∷ false ∷ false ∷ [])
    ∷ (true ∷ true ∷ true ∷ false ∷ true ∷ true ∷ false ∷ false ∷ [])
    ∷ []

unfoldable pub uses : ℕ → ℕ → Bool
uses kind i = get_or (get_or used_bytes kind []) i false

-- low is at most high, or there is no upper end, and low is at most 254
unfoldable pub fair_limits : Interval → Bool
fair_limits v = cond (endless v.kind v.high) (leb v.low 254) (leb v.low v.high)

-- a byte of record k names a signal, or else an earlier record
unfoldable pub names_right : (kind named k : ℕ) → Bool
names_right kind named k = ltb named (cond (eqb kind kind_signal) most_signals k)

-- byte i of record k is what the kind wants there: a kind 1 to 9, a signal or an earlier record, fair limits
unfoldable pub used_right : Record → (k i : ℕ) → Bool
used_right d k i =
    let kind = kind_number d.kind in
    cond (eqb i 0) (leb kind_true kind && leb kind kind_since)
    (cond (eqb i 1) (names_right kind d.left k)
    (cond (eqb i 2) (names_right kind d.right k) (fair_limits d.interval)))

-- byte i of record k breaks the layout: byte 0 is no kind, a used byte is wrong, or an unused one is not zero
unfoldable pub byte_breaks : List ℕ → (k i : ℕ) → Bool
byte_breaks list k i =
    not (cond (eqb i 0 || uses (byte_of list k 0) i) (used_right (record_in list k) k i) (eqb (byte_of list k i) 0))

-- where the layout is first broken, byte by byte: the lowest record, and its lowest byte
unfoldable pub first_broken : (size : ℕ) → (breaks : List ℕ → ℕ → ℕ → Bool) → List ℕ → Option Place
first_broken size breaks list = first_where (records_in size list) (λ k. size) (breaks list)

-- some record of the rule breaks the layout
abbrev pub rule_breaks : List ℕ → Bool
rule_breaks rule = is_some (first_broken record_bytes byte_breaks rule)

-- records i and j have the same bytes
unfoldable pub same_record : (size : ℕ) → List ℕ → (i j : ℕ) → Bool
same_record size list i j = every size (λ b. eqb (byte_in size list i b) (byte_in size list j b))

-- where the first twins are: the lowest record that has an earlier twin, and its earliest twin
unfoldable pub first_twins : (size : ℕ) → List ℕ → Option Place
first_twins size list = first_where (records_in size list) (λ i. i) (same_record size list)

-- two records of the rule have the same eight bytes
abbrev pub has_twins : List ℕ → Bool
has_twins rule = is_some (first_twins record_bytes rule)

-- more parameters than a rule may have, counted over all its records
unfoldable pub many_parameters : List ℕ → Bool
many_parameters rule = ltb most_parameters (parameters (rule_in rule (records_of rule)))
