-- Rules, their parameters, and logs (document 01, "Lists on disk" and "How the rule is rewritten").
use Rattle.std.specs.Prelude.{Bool, true, List, [], ◌∷◌, ℕ, zero, suc, ◌+◌, ◌≤◌, ◌<◌, length, get_or}
use Rattle.ground.specs.Bits.{bit}
use Rattle.meaning.specs.Interval.{Interval, shifts, shifted}

-- a record of a rule; left and right are the numbers of records
pub data Node : Type 0 where
  fixed : Bool → Node
  signal : ℕ → Node
  both either : ℕ → ℕ → Node
  next : ℕ → Interval → Node
  until : ℕ → ℕ → Interval → Node
  previous : ℕ → Interval → Node
  since : ℕ → ℕ → Interval → Node

-- record k of a rule
unfoldable pub node_at : List Node → ℕ → Node
node_at rule k = get_or rule k (fixed true)

-- left and right of record k name earlier records
unfoldable pub Earlier : ℕ → Node → Type 0
Earlier k (fixed b) = Unit {0}
Earlier k (signal s) = Unit {0}
Earlier k (both l r) = (l < k) × (r < k)
Earlier k (either l r) = (l < k) × (r < k)
Earlier k (next l v) = l < k
Earlier k (until l r v) = (l < k) × (r < k)
Earlier k (previous l v) = l < k
Earlier k (since l r v) = (l < k) × (r < k)

-- every record's left and right name earlier records
abbrev pub Ordered : List Node → Type 0
Ordered rule = (k : ℕ) → Earlier k (node_at rule k)

-- how many parameters a record has
unfoldable pub count : Node → ℕ
count (fixed b) = 0
count (signal s) = 1
count (both l r) = 0
count (either l r) = 0
count (next l v) = 1
count (until l r v) = shifts v
count (previous l v) = 1
count (since l r v) = shifts v

-- the number of record k's first parameter: how many the records before it have
unfoldable pub first_of : List Node → ℕ → ℕ
first_of rule zero = 0
first_of rule (suc k) = first_of rule k + count (node_at rule k)

-- how many parameters a rule has
unfoldable pub parameters : List Node → ℕ
parameters rule = first_of rule (length rule)

-- a record with its interval shifted by n
unfoldable pub shifted_node : Node → ℕ → Node
shifted_node (fixed b) n = fixed b
shifted_node (signal s) n = signal s
shifted_node (both l r) n = both l r
shifted_node (either l r) n = either l r
shifted_node (next l v) n = next l v
shifted_node (until l r v) n = until l r (shifted v n)
shifted_node (previous l v) n = previous l v
shifted_node (since l r v) n = since l r (shifted v n)

-- a record of the log: its time, and the signals that hold in it as bits of a word
pub record Entry : Type 0 where
  pub time : ℕ
  pub signals : ℕ

-- record i of a log, from 0; its time, and whether signal s holds in it
unfoldable pub entry_at : List Entry → ℕ → Entry
entry_at log i = get_or log i (record { time = 0; signals = 0 })

unfoldable pub time_at : List Entry → ℕ → ℕ
time_at log i = (entry_at log i).time

unfoldable pub holds : Entry → ℕ → Bool
holds e s = bit e.signals s

-- times never fall
abbrev pub Rising : List Entry → Type 0
Rising log = (i j : ℕ) → i ≤ j → j < length log → time_at log i ≤ time_at log j

-- times never fall, from time t on
abbrev pub Climbs : ℕ → List Entry → Type 0
Climbs t [] = Unit {0}
Climbs t (e ∷ es) = (t ≤ e.time) × Climbs e.time es
