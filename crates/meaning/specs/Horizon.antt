-- How long a rule can stay open (document 01, "What a rule means").
use Rattle.std.specs.Prelude.{◌≡◌, List, [], ◌∷◌, ◌++◌, ℕ, zero, suc, ◌+◌, ◌-◌, ◌≤◌, ◌<◌, max, length, get_or}
use Rattle.meaning.specs.Interval.{Interval, between, onward}
use Rattle.meaning.specs.Rule.{Node, fixed, signal, both, either, next, until, previous, since, node_at}
use Rattle.meaning.specs.Rule.{count, first_of, shifted_node}

-- a number of minutes, or none
pub data Horizon : Type 0 where
  within : ℕ → Horizon
  never : Horizon

unfoldable pub larger : Horizon → Horizon → Horizon
larger (within a) (within b) = within (max a b)
larger (within a) never = never
larger never b = never

-- high more; with no upper end there is none
unfoldable pub later : Interval → Horizon → Horizon
later (between low high) (within a) = within (high + a)
later (between low high) never = never
later (onward low) a = never

-- a record's horizon, given those of the earlier records
unfoldable pub horizon_of : List Horizon → Node → Horizon
horizon_of earlier (fixed b) = within 0
horizon_of earlier (signal s) = within 0
horizon_of earlier (both l r) = larger (get_or earlier l never) (get_or earlier r never)
horizon_of earlier (either l r) = larger (get_or earlier l never) (get_or earlier r never)
horizon_of earlier (next l v) = later v (get_or earlier l never)
horizon_of earlier (until l r v) = later v (larger (get_or earlier l never) (get_or earlier r never))
horizon_of earlier (previous l v) = get_or earlier l never
horizon_of earlier (since l r v) = larger (get_or earlier l never) (get_or earlier r never)

-- the horizons of the first k records
unfoldable pub horizons : List Node → ℕ → List Horizon
horizons rule zero = []
horizons rule (suc k) = let earlier = horizons rule k in earlier ++ (horizon_of earlier (node_at rule k) ∷ [])

-- the rule's horizon is its last record's
unfoldable pub horizon : List Node → Horizon
horizon rule = get_or (horizons rule (length rule)) (length rule - 1) never

-- from time t on, the horizon is over by time b
abbrev pub Ends : Horizon → ℕ → ℕ → Type 0
Ends (within h) t b = t + h ≤ b
Ends never t b = ⊥

-- the horizon of record k's parameter of shift n: the record's, with its interval shifted
unfoldable pub parameter_horizon : List Node → ℕ → ℕ → Horizon
parameter_horizon rule k n = horizon_of (horizons rule k) (shifted_node (node_at rule k) n)

-- q is a parameter that from time t on is over by time b
pub record By (rule : List Node) (t b q : ℕ) : Type 0 where
  pub node : ℕ
  pub shift : ℕ
  pub less : shift < count (node_at rule node)
  pub here : first_of rule node + shift ≡ q
  pub ends : Ends (parameter_horizon rule node shift) t b

-- the interval has an upper end
unfoldable pub Bounded : Interval → Type 0
Bounded (between low high) = Unit {0}
Bounded (onward low) = ⊥

-- a next or an until has an interval with an upper end
unfoldable pub Finite : Node → Type 0
Finite (fixed b) = Unit {0}
Finite (signal s) = Unit {0}
Finite (both l r) = Unit {0}
Finite (either l r) = Unit {0}
Finite (next l v) = Bounded v
Finite (until l r v) = Bounded v
Finite (previous l v) = Unit {0}
Finite (since l r v) = Unit {0}

-- every next and until of the rule has one
abbrev pub AllFinite : List Node → Type 0
AllFinite rule = (k : ℕ) → Finite (node_at rule k)
