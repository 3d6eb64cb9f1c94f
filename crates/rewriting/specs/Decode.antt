-- The rule that bytes hold (document 01, "Lists on disk").
use Rattle.std.specs.Prelude.{Bool, true, false, cond, List, ℕ, ◌+◌, ◌*◌, eqb, get_or, leb}
use Rattle.ground.specs.Fold.{tab}
use Rattle.meaning.specs.Interval.{Interval, between, onward}
use Rattle.meaning.specs.Rule.{Node, fixed, signal, both, either, next, until, previous, since}
use Rattle.rewriting.specs.declared.step.Interval.{Interval as IntervalBytes}
use Rattle.rewriting.specs.declared.step.Record.{Record}
use Rattle.rewriting.specs.declared.kind.Kind.{Kind}
use Rattle.rewriting.specs.declared.kind.Kind.TheVariants.{True, False, Signal, And, Xor, Next, Until, Previous, Since}
use Rattle.rewriting.specs.declared.kind.Kind.TheVariants.{Other}

-- bytes of a record
abbrev pub record_bytes : ℕ
record_bytes = 8

-- the kinds of a rule's records, by their first byte
abbrev pub kind_true : ℕ
kind_true = 1

abbrev pub kind_false : ℕ
kind_false = 2

abbrev pub kind_signal : ℕ
kind_signal = 3

abbrev pub kind_and : ℕ
kind_and = 4

abbrev pub kind_xor : ℕ
kind_xor = 5

abbrev pub kind_next : ℕ
kind_next = 6

abbrev pub kind_until : ℕ
kind_until = 7

abbrev pub kind_previous : ℕ
kind_previous = 8

abbrev pub kind_since : ℕ
kind_since = 9

-- the kind that a byte is, and the byte of a kind: that of another one is none of the nine
unfoldable pub kind_of : ℕ → Kind
kind_of byte =
    cond (eqb byte kind_true) True
    (cond (eqb byte kind_false) False
    (cond (eqb byte kind_signal) Signal
    (cond (eqb byte kind_and) And
    (cond (eqb byte kind_xor) Xor
    (cond (eqb byte kind_next) Next
    (cond (eqb byte kind_until) Until
    (cond (eqb byte kind_previous) Previous
    (cond (eqb byte kind_since) Since (Other byte)))))))))

unfoldable pub kind_number : Kind → ℕ
kind_number True = kind_true
kind_number False = kind_false
kind_number Signal = kind_signal
kind_number And = kind_and
kind_number Xor = kind_xor
kind_number Next = kind_next
kind_number Until = kind_until
kind_number Previous = kind_previous
kind_number Since = kind_since
kind_number (Other byte) = cond (leb byte kind_since) 0 byte

-- byte i of record k of a list whose records have so many bytes, and of a list of rule or signal records
abbrev pub byte_in : (size : ℕ) → List ℕ → (k i : ℕ) → ℕ
byte_in size list k i = get_or list (size * k + i) 0

unfoldable pub byte_of : List ℕ → (k i : ℕ) → ℕ
byte_of list k i = byte_in record_bytes list k i

-- whether an interval has no upper end: high is 255
unfoldable pub endless : (kind high : ℕ) → Bool
endless kind high = eqb high 255

-- low to high, or low on with no upper end. In the layout byte 3, the kind, is zero; with any other it is read alike
unfoldable pub interval_of : (kind low high : ℕ) → Interval
interval_of kind low high = cond (endless kind high) (onward low) (between low high)

-- the record of a kind, with its bytes and its interval
unfoldable pub node_of : (kind left right : ℕ) → Interval → Node
node_of kind left right v =
    cond (eqb kind kind_true) (fixed true)
    (cond (eqb kind kind_false) (fixed false)
    (cond (eqb kind kind_signal) (signal left)
    (cond (eqb kind kind_and) (both left right)
    (cond (eqb kind kind_xor) (either left right)
    (cond (eqb kind kind_next) (next left v)
    (cond (eqb kind kind_until) (until left right v)
    (cond (eqb kind kind_previous) (previous left v) (since left right v))))))))

-- the record that bytes hold, as the code keeps it
unfoldable pub record_in : List ℕ → ℕ → Record
record_in list k =
    record {
      kind = kind_of (byte_of list k 0);
      left = byte_of list k 1;
      right = byte_of list k 2;
      interval = record { kind = byte_of list k 3; low = byte_of list k 4; high = byte_of list k 5 };
    }

-- the interval that such a record has, and the record of a rule that it is
unfoldable pub interval_for : IntervalBytes → Interval
interval_for v = interval_of v.kind v.low v.high

unfoldable pub node_for : Record → Node
node_for d = node_of (kind_number d.kind) d.left d.right (interval_for d.interval)

-- record k of a list
unfoldable pub node_in : List ℕ → ℕ → Node
node_in list k =
    node_of (byte_of list k 0) (byte_of list k 1) (byte_of list k 2)
    (interval_of (byte_of list k 3) (byte_of list k 4) (byte_of list k 5))

-- the rule in the first n records of a list
unfoldable pub rule_in : List ℕ → ℕ → List Node
rule_in list n = tab n (node_in list)
