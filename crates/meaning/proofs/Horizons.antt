-- Horizons: how they order, and that finite upper ends give a rule one.
-- Assumes nothing.
use mathlib.Core.Path.{◌≡◌, refl, sym, subst}
use mathlib.Core.Bool.{Bool, true, false, cond}
use mathlib.Core.List.{List}
use Prim.Native.Nat.{ℕ, zero, suc, ◌+◌, ◌-◌, ◌≤◌, ◌<◌, max}
use native.Mathlib.Decide.{dec_lt}
use native.Mathlib.Omega.{arith}
use borrow.Author.Tests.{leb-true}
use lib.Dec.{leb}
use lib.ListN.{length, get_or}
use Rattle.meaning.specs.Interval.{Interval, between, onward, distance, inside, shifts, shifted, Moved, gone}
use Rattle.meaning.specs.Interval.{to, moved}
use Rattle.meaning.specs.Rule.{Node, fixed, signal, both, either, next, until, previous, since, node_at, Earlier}
use Rattle.meaning.specs.Rule.{Ordered}
use Rattle.meaning.specs.Horizon.{Horizon, within, never, larger, later, horizon_of, horizons, horizon}
use Rattle.meaning.specs.Horizon.{Ends, parameter_horizon, By, Bounded, Finite, AllFinite}
use Rattle.meaning.proofs.Blocks.{block_low, length_one, one_new}
use Rattle.meaning.proofs.Intervals.{between_gives}

pub ends_left : (x y : Horizon) (t b : ℕ) → Ends (larger x y) t b → Ends x t b
unfolding larger
ends_left (within x) (within y) t b e = omega arith
ends_left (within x) never t b e = absurd e
ends_left never y t b e = e

pub ends_right : (x y : Horizon) (t b : ℕ) → Ends (larger x y) t b → Ends y t b
unfolding larger
ends_right (within x) (within y) t b e = omega arith
ends_right (within x) never t b e = e
ends_right never y t b e = absurd e

-- nothing ends before it begins
pub ends_after : (x : Horizon) (t b : ℕ) → Ends x t b → t ≤ b
ends_after (within x) t b e = omega arith
ends_after never t b e = absurd e

pub ends_sooner : (x : Horizon) (t u b : ℕ) → t ≤ u → Ends x u b → Ends x t b
ends_sooner (within x) t u b h e = omega arith
ends_sooner never t u b h e = e

-- what never ends does not end later either
pub later_never : (v : Interval) → later v never ≡ never
unfolding later
later_never (between low high) = refl
later_never (onward low) = refl

-- what ends later by an interval ends from now on, and from each record inside the interval on
pub ends_now : (v : Interval) (x : Horizon) (t b : ℕ) → Ends (later v x) t b → Ends x t b
unfolding later
ends_now (between low high) (within x) t b e = omega arith
ends_now (between low high) never t b e = e
ends_now (onward low) x t b e = absurd e

pub ends_inside : (v : Interval) (x : Horizon) (t u b : ℕ) → t ≤ u → inside v t u ≡ true → Ends (later v x) t b
    → Ends x u b
unfolding later distance
ends_inside (between low high) (within x) t u b h i e =
    omega (arith, (between_gives low high t u i).1)
ends_inside (between low high) never t u b h i e = absurd e
ends_inside (onward low) x t u b h i e = absurd e

-- a shift moved to time u ends there when the shift itself does at time t
pub ends_moved : (P : Moved → Type 0) (v : Interval) (n : ℕ) (x : Horizon) (t u b : ℕ) → t ≤ u → P gone
    → ((k : ℕ) → k < shifts v → Ends (later (shifted v k) x) u b → P (to k))
    → Ends (later (shifted v n) x) t b → P (moved v n t u)
unfolding later shifted moved shifts distance
ends_moved P (between low high) n (within x) t u b h g p e = go (leb (n + distance t u) high) refl
  where
    go : (c : Bool) → leb (n + distance t u) high ≡ c → P (cond c (to (n + distance t u)) gone)
    go true q =
        let l : n + distance t u ≤ high = leb-true (n + distance t u) high q in
        p (n + distance t u) (omega arith) (omega arith)
    go false q = g
ends_moved P (between low high) n never t u b h g p e = absurd e
ends_moved P (onward low) n x t u b h g p e = absurd e

-- no parameter is over before time t
pub by_none : (rule : List Node) (t b q : ℕ) → b < t → By rule t b q → ⊥
by_none rule t b q h d =
    let l : t ≤ b = ends_after (parameter_horizon rule d.node d.shift) t b d.ends in omega arith

module _ (rule : List Node) where
  pub length_horizons : (k : ℕ) → length (horizons rule k) ≡ k
  unfolding horizons
  length_horizons zero = refl
  length_horizons (suc k) =
      length_one (horizons rule k) (horizon_of (horizons rule k) (node_at rule k)) k (length_horizons k)

  -- the horizons of the records before k, and of record k
  pub horizons_low : (k r : ℕ) → r < k → get_or (horizons rule (suc k)) r never ≡ get_or (horizons rule k) r never
  unfolding horizons
  horizons_low k r h = block_low (horizons rule k) _ k r never (length_horizons k) h

  pub horizons_new : (k : ℕ) → get_or (horizons rule (suc k)) k never ≡ horizon_of (horizons rule k) (node_at rule k)
  unfolding horizons
  horizons_new k = one_new (horizons rule k) (horizon_of (horizons rule k) (node_at rule k)) k never (length_horizons k)

-- there is a horizon
abbrev Some : Horizon → Type 0
Some x = (h : ℕ) × (x ≡ within h)

larger_some : (x y : Horizon) → Some x → Some y → Some (larger x y)
unfolding larger
larger_some x y (a, p) (b, q) = (max a b, rw (p, q) refl)

later_some : (v : Interval) (x : Horizon) → Bounded v → Some x → Some (later v x)
unfolding later Bounded
later_some (between low high) x f (a, p) = (high + a, rw p refl)
later_some (onward low) x f s = absurd f

node_some : (earlier : List Horizon) (k : ℕ) (d : Node) → Earlier k d → Finite d
    → ((r : ℕ) → r < k → Some (get_or earlier r never)) → Some (horizon_of earlier d)
unfolding horizon_of Earlier Finite
node_some earlier k (fixed b) o f s = (0, refl)
node_some earlier k (signal x) o f s = (0, refl)
node_some earlier k (both l r) o f s =
    larger_some (get_or earlier l never) (get_or earlier r never) (s l o.0) (s r o.1)
node_some earlier k (either l r) o f s =
    larger_some (get_or earlier l never) (get_or earlier r never) (s l o.0) (s r o.1)
node_some earlier k (next l v) o f s = later_some v (get_or earlier l never) f (s l o)
node_some earlier k (until l r v) o f s =
    later_some v (larger (get_or earlier l never) (get_or earlier r never)) f
    (larger_some (get_or earlier l never) (get_or earlier r never) (s l o.0) (s r o.1))
node_some earlier k (previous l v) o f s = s l o
node_some earlier k (since l r v) o f s =
    larger_some (get_or earlier l never) (get_or earlier r never) (s l o.0) (s r o.1)

horizons_some : (rule : List Node) → Ordered rule → AllFinite rule → (k r : ℕ) → r < k
    → Some (get_or (horizons rule k) r never)
horizons_some rule ordered finite zero r h = let z : ⊥ = omega arith in absurd z
horizons_some rule ordered finite (suc k) r h = go (dec_lt r k) (horizons_some rule ordered finite k)
  where
    new : ((r : ℕ) → r < k → Some (get_or (horizons rule k) r never)) → Some (get_or (horizons rule (suc k)) k never)
    new s =
        subst Some (sym (horizons_new rule k))
        (node_some (horizons rule k) k (node_at rule k) (ordered k) (finite k) s)

    go : Dec (r < k) → ((r : ℕ) → r < k → Some (get_or (horizons rule k) r never))
        → Some (get_or (horizons rule (suc k)) r never)
    go (yes l) s = subst Some (sym (horizons_low rule k r l)) (s r l)
    go (no l) s = let q : k ≡ r = omega arith in subst (λ x. Some (get_or (horizons rule (suc k)) x never)) q (new s)

-- a rule whose forward limits are all finite has a horizon
pub finite_horizon : (rule : List Node) → Ordered rule → 0 < length rule → AllFinite rule
    → (h : ℕ) × (horizon rule ≡ within h)
unfolding horizon
finite_horizon rule ordered long finite =
    horizons_some rule ordered finite (length rule) (length rule - 1) (omega arith)
