-- Forms, derived rows and past rows keep to the horizons of their records and parameters.
-- Assumes nothing.
use mathlib.Core.Path.{◌≡◌, refl, sym, subst}
use mathlib.Core.Bool.{Bool, false}
use mathlib.Core.List.{List}
use Prim.Native.Nat.{ℕ, zero, suc, ◌+◌, ◌≤◌, ◌<◌}
use native.Mathlib.Nat.{add-zero}
use native.Mathlib.Decide.{dec_lt}
use native.Mathlib.Omega.{arith}
use lib.ListN.{length, get_or, get_or-eq_default}
use Rattle.forms.specs.Form.{Form, constant, parameter, and, DependsOn}
use Rattle.forms.specs.Area.{form_in}
use Rattle.forms.proofs.Depends.{depends_constant, depends_parameter, depends_xor, depends_and, depends_or}
use Rattle.forms.proofs.Depends.{depends_put_in}
use Rattle.meaning.specs.Interval.{Interval, inside, shifted, moved}
use Rattle.meaning.specs.Rule.{Node, fixed, signal, both, either, next, until, previous, since, node_at, Earlier}
use Rattle.meaning.specs.Rule.{Ordered, count, first_of, shifted_node, Entry, holds}
use Rattle.meaning.specs.Horizon.{Horizon, never, larger, horizon_of, horizons, Ends, parameter_horizon, By}
use Rattle.meaning.specs.Rewriting.{Neighbour, none, at, put, only_if, form_of, forms_of, parameter_to, row_to}
use Rattle.meaning.specs.Rewriting.{next_row, until_later, derived_row, derived_rows, previous_row, since_earlier}
use Rattle.meaning.specs.Rewriting.{past_row, past_rows}
use Rattle.meaning.proofs.Blocks.{block_low, one_new, first_of_more, first_of_mono, Rows, rows_none, rows_more}
use Rattle.meaning.proofs.Blocks.{length_forms_of, length_derived_rows, length_past_rows}
use Rattle.meaning.proofs.Intervals.{moved_cases, shifted_node_zero, shifts_pos}
use Rattle.meaning.proofs.Shapes.{depends_only_if}
use Rattle.meaning.proofs.Horizons.{ends_left, ends_right, ends_sooner, ends_now, ends_inside}
use Rattle.meaning.proofs.Horizons.{ends_moved, horizons_low, horizons_new}

module _ (rule : List Node) (m : ℕ) where
  -- at time t, f waits only for parameters that are over by time b
  abbrev pub Waits : (t b : ℕ) → Form m → Type 0
  Waits t b f = DependsOn (By rule t b) m f

  -- at time u, f waits no longer than record k's parameter of shift n does at time t
  abbrev pub Keep : (t u k n : ℕ) → Form m → Type 0
  Keep t u k n f = (b : ℕ) → Ends (parameter_horizon rule k n) t b → Waits u b f

  -- so does the row of each parameter of the first K records
  abbrev pub Keeps : List (Form m) → (K t u : ℕ) → Type 0
  Keeps rows K t u = Rows rule (constant m false) (Keep t u) rows K

  -- the form of each of the first k records waits no longer than the record's horizon
  abbrev pub FormsKeep : ℕ → Type 0
  FormsKeep k =
      (r t b : ℕ) → r < k → Ends (get_or (horizons rule k) r never) t b → Waits t b (form_in m (forms_of m rule k) r)

  -- what is known of the derived rows of the record before, at time u: nothing at the first
  unfoldable pub Before : Neighbour → List (Form m) → ℕ → ℕ → Type 0
  Before none derived K u = Unit {0}
  Before (at t) derived K u = (t ≤ u) × (length derived ≡ first_of rule K) × Keeps derived K t u

  constant_waits : (t b : ℕ) (x : Bool) → Waits t b (constant m x)
  constant_waits t b x = depends_constant (By rule t b) m x

  -- every row of a table, also past its end
  keeps_all : (rows : List (Form m)) (K t u : ℕ) → length rows ≡ first_of rule K → Keeps rows K t u
      → (b q : ℕ) → By rule t b q → Waits u b (form_in m rows q)
  keeps_all rows K t u len keep b q d = subst (λ x. Waits u b (form_in m rows x)) d.here (go (dec_lt d.node K))
    where
      go : Dec (d.node < K) → Waits u b (form_in m rows (first_of rule d.node + d.shift))
      go (yes l) = keep d.node d.shift l d.less b d.ends
      go (no l) =
          let past : length rows ≤ first_of rule d.node + d.shift =
          omega (arith, first_of_mono rule K d.node (omega arith)) in
          subst (Waits u b) (sym (get_or-eq_default rows (constant m false) past)) (constant_waits u b false)

  pub put_waits : (f : Form m) (rows : List (Form m)) (K t u b : ℕ) → length rows ≡ first_of rule K → Keeps rows K t u
      → Waits t b f → Waits u b (put m f rows)
  unfolding put
  put_waits f rows K t u b len keep d =
      depends_put_in (By rule u b) m m (By rule t b) f (form_in m rows) d (λ q s. keeps_all rows K t u len keep b q s)

  -- record k is d: left and right are earlier, and its parameters are below m, each over when its horizon is
  record Placed (k : ℕ) (d : Node) : Type 0 where
    earlier : Earlier k d
    room : (n : ℕ) → n < count d → first_of rule k + n < m
    over : (n t b : ℕ) → n < count d → Ends (horizon_of (horizons rule k) (shifted_node d n)) t b
        → By rule t b (first_of rule k + n)

  own : (k n t b : ℕ) (d : Node) → Placed k d → n < count d → Ends (horizon_of (horizons rule k) (shifted_node d n)) t b
      → Waits t b (parameter m (first_of rule k + n))
  own k n t b d w c e = depends_parameter (By rule t b) m (first_of rule k + n) (w.room n c) (w.over n t b c e)

  own_first : (k t b : ℕ) (d : Node) → Placed k d → 0 < count d → Ends (horizon_of (horizons rule k) d) t b
      → Waits t b (parameter m (first_of rule k))
  own_first k t b d w c e =
      subst (λ x. Waits t b (parameter m x)) (add-zero (first_of rule k))
      (own k 0 t b d w c (subst (λ x. Ends (horizon_of (horizons rule k) x) t b) (sym (shifted_node_zero d)) e))

  module _ (ordered : Ordered rule) (fits : (k : ℕ) → first_of rule k ≤ m) where
    placed : (k : ℕ) → Placed k (node_at rule k)
    unfolding parameter_horizon
    placed k =
        record {
          earlier = ordered k;
          room = λ n c. omega (arith, fits (suc k), first_of_more rule k);
          over = λ n t b c e. record { node = k; shift = n; less = c; here = refl; ends = e };
        }

    form_keeps : (k t b : ℕ) (d : Node) → Placed k d → FormsKeep k → Ends (horizon_of (horizons rule k) d) t b
        → Waits t b (form_of m (forms_of m rule k) (first_of rule k) d)
    unfolding form_of horizon_of count Earlier
    form_keeps k t b (fixed x) w keep e = constant_waits t b x
    form_keeps k t b (signal s) w keep e = own_first k t b (signal s) w (omega arith) e
    form_keeps k t b (both l r) w keep e =
        let hl : Horizon = get_or (horizons rule k) l never in
        let hr : Horizon = get_or (horizons rule k) r never in
        depends_and (By rule t b) m (form_in m (forms_of m rule k) l) (form_in m (forms_of m rule k) r)
        (keep l t b w.earlier.0 (ends_left hl hr t b e)) (keep r t b w.earlier.1 (ends_right hl hr t b e))
    form_keeps k t b (either l r) w keep e =
        let hl : Horizon = get_or (horizons rule k) l never in
        let hr : Horizon = get_or (horizons rule k) r never in
        depends_xor (By rule t b) m (form_in m (forms_of m rule k) l) (form_in m (forms_of m rule k) r)
        (keep l t b w.earlier.0 (ends_left hl hr t b e)) (keep r t b w.earlier.1 (ends_right hl hr t b e))
    form_keeps k t b (next l v) w keep e = own_first k t b (next l v) w (omega arith) e
    form_keeps k t b (until l r v) w keep e = own_first k t b (until l r v) w (shifts_pos v) e
    form_keeps k t b (previous l v) w keep e = own_first k t b (previous l v) w (omega arith) e
    form_keeps k t b (since l r v) w keep e = own_first k t b (since l r v) w (shifts_pos v) e

    pub forms_keep : (k : ℕ) → FormsKeep k
    unfolding forms_of
    forms_keep zero r t b h = let z : ⊥ = omega arith in absurd z
    forms_keep (suc k) r t b h = go (dec_lt r k) (forms_keep k)
      where
        Goal : ℕ → Type 0
        Goal x = Ends (get_or (horizons rule (suc k)) x never) t b → Waits t b (form_in m (forms_of m rule (suc k)) x)

        form : Form m
        form = form_of m (forms_of m rule k) (first_of rule k) (node_at rule k)

        new : FormsKeep k → Goal k
        new keep e =
            subst (Waits t b) (sym (one_new (forms_of m rule k) form k (constant m false) (length_forms_of m rule k)))
            (form_keeps k t b (node_at rule k) (placed k) keep (subst (λ x. Ends x t b) (horizons_new rule k) e))

        go : Dec (r < k) → FormsKeep k → Goal r
        go (yes l) keep = λ e.
            subst (Waits t b)
            (sym (block_low (forms_of m rule k) _ k r (constant m false) (length_forms_of m rule k) l))
            (keep r t b l (subst (λ x. Ends x t b) (horizons_low rule k r l) e))
        go (no l) keep = let q : k ≡ r = omega arith in subst Goal q (new keep)

    -- one derived row of record e of the log, with the next at time u, given those of the first k records
    module _ (u : ℕ) (past : List (Form m)) (e : Entry) (h : e.time ≤ u) (k : ℕ) (derived : List (Form m))
        (len : length derived ≡ first_of rule k) (keep : Keeps derived k e.time u) where
      derived_row_keeps : (n b : ℕ) (d : Node) → Placed k d → n < count d
          → Waits e.time b (form_in m past (first_of rule k + n))
          → Ends (horizon_of (horizons rule k) (shifted_node d n)) e.time b
          → Waits u b (derived_row m past (forms_of m rule k) derived e (at u) (first_of rule k) d n)
      unfolding derived_row horizon_of shifted_node count Earlier next_row until_later parameter_to
      derived_row_keeps n b (fixed x) w c p i = constant_waits u b false
      derived_row_keeps n b (signal s) w c p i = constant_waits u b (holds e s)
      derived_row_keeps n b (both l r) w c p i = constant_waits u b false
      derived_row_keeps n b (either l r) w c p i = constant_waits u b false
      derived_row_keeps n b (next l v) w c p i =
          depends_only_if (By rule u b) m (inside v e.time u) (form_in m (forms_of m rule k) l)
          (λ y. forms_keep k l u b w.earlier (ends_inside v (get_or (horizons rule k) l never) e.time u b h y i))
      derived_row_keeps n b (until l r v) w c p i =
          let hl : Horizon = get_or (horizons rule k) l never in
          let hr : Horizon = get_or (horizons rule k) r never in
          let left : Form m = form_in m (forms_of m rule k) l in
          let right : Form m = form_in m (forms_of m rule k) r in
          let i' : Ends (larger hl hr) e.time b = ends_now (shifted v n) (larger hl hr) e.time b i in
          let now = inside (shifted v n) e.time e.time in
          let moves = parameter_to m (first_of rule k) (moved v n e.time u) in
          depends_or (By rule u b) m (only_if m now (put m right derived)) (and m (put m left derived) moves)
          (depends_only_if (By rule u b) m now (put m right derived)
          (λ y. put_waits right derived k e.time u b len keep
          (forms_keep k r e.time b w.earlier.1 (ends_right hl hr e.time b i'))))
          (depends_and (By rule u b) m (put m left derived) moves
          (put_waits left derived k e.time u b len keep
          (forms_keep k l e.time b w.earlier.0 (ends_left hl hr e.time b i')))
          (ends_moved (λ x. Waits u b (parameter_to m (first_of rule k) x)) v n (larger hl hr) e.time u b h
          (constant_waits u b false) (λ j c y. own k j u b (until l r v) w c y) i))
      derived_row_keeps n b (previous l v) w c p i =
          put_waits (form_in m past (first_of rule k + n)) derived k e.time u b len keep p
      derived_row_keeps n b (since l r v) w c p i =
          put_waits (form_in m past (first_of rule k + n)) derived k e.time u b len keep p

    -- the derived rows keep to the horizons where the past rows do
    pub derived_rows_keep : (K u : ℕ) (past : List (Form m)) (e : Entry) → e.time ≤ u
        → Keeps past K e.time e.time → (k : ℕ) → k ≤ K
        → Keeps (derived_rows m rule past e (at u) k) k e.time u
    unfolding derived_rows parameter_horizon
    derived_rows_keep K u past e h keep zero l = rows_none rule (constant m false) (Keep e.time u)
    derived_rows_keep K u past e h keep (suc k) l =
        let derived : List (Form m) = derived_rows m rule past e (at u) k in
        let len : length derived ≡ first_of rule k = length_derived_rows m rule past e (at u) k in
        let low : Keeps derived k e.time u = derived_rows_keep K u past e h keep k (omega arith) in
        rows_more rule (constant m false) (Keep e.time u) derived
        (derived_row m past (forms_of m rule k) derived e (at u) (first_of rule k) (node_at rule k)) k len low
        (λ n c b i.
        derived_row_keeps u past e h k derived len low n b (node_at rule k) (placed k) c (keep k n l c b i) i)

    -- one past row of record e of the log, given the past rows of the first k records
    module _ (K : ℕ) (derived : List (Form m)) (e : Entry) (k : ℕ) (past : List (Form m))
        (len : length past ≡ first_of rule k) (keep : Keeps past k e.time e.time) where
      previous_row_keeps : (l b : ℕ) (v : Interval) (before : Neighbour) → Before before derived K e.time → l < k
          → Ends (get_or (horizons rule k) l never) e.time b
          → Waits e.time b (previous_row m (forms_of m rule k) derived past l v e.time before)
      unfolding Before previous_row
      previous_row_keeps l b v none known h i = constant_waits e.time b false
      previous_row_keeps l b v (at t) known h i =
          let left : Form m = form_in m (forms_of m rule k) l in
          depends_only_if (By rule e.time b) m (inside v e.time t) (put m (put m left derived) past)
          (λ y. put_waits (put m left derived) past k e.time e.time b len keep
          (put_waits left derived K t e.time b known.1 known.2
          (forms_keep k l t b h (ends_sooner (get_or (horizons rule k) l never) t e.time b known.0 i))))

      since_earlier_keeps : (l r n b : ℕ) (v : Interval) (before : Neighbour) → Before before derived K e.time
          → Placed k (since l r v)
          → Ends (larger (get_or (horizons rule k) l never) (get_or (horizons rule k) r never)) e.time b
          → Waits e.time b (since_earlier m (forms_of m rule k) derived past (first_of rule k) l v n e.time before)
      unfolding Before since_earlier row_to Earlier count horizon_of shifted_node
      since_earlier_keeps l r n b v none known w i = constant_waits e.time b false
      since_earlier_keeps l r n b v (at t) known w i =
          let hl : Horizon = get_or (horizons rule k) l never in
          let hr : Horizon = get_or (horizons rule k) r never in
          let left : Form m = form_in m (forms_of m rule k) l in
          let moves : Form m = row_to m derived (first_of rule k) (moved v n e.time t) in
          depends_and (By rule e.time b) m (put m left past) (put m moves past)
          (put_waits left past k e.time e.time b len keep
          (forms_keep k l e.time b w.earlier.0 (ends_left hl hr e.time b i)))
          (put_waits moves past k e.time e.time b len keep
          (moved_cases (λ x. Waits e.time b (row_to m derived (first_of rule k) x)) v n e.time t
          (constant_waits e.time b false)
          (λ j c. keeps_all derived K t e.time known.1 known.2 b (first_of rule k + j)
          (w.over j t b c (ends_sooner (larger hl hr) t e.time b known.0 i)))))

      past_row_keeps : (n b : ℕ) (before : Neighbour) (d : Node) → Before before derived K e.time → Placed k d
          → n < count d → Ends (horizon_of (horizons rule k) (shifted_node d n)) e.time b
          → Waits e.time b (past_row m (forms_of m rule k) derived past e before (first_of rule k) d n)
      unfolding past_row horizon_of shifted_node count Earlier
      past_row_keeps n b before (fixed x) known w c i = constant_waits e.time b false
      past_row_keeps n b before (signal s) known w c i = constant_waits e.time b (holds e s)
      past_row_keeps n b before (both l r) known w c i = constant_waits e.time b false
      past_row_keeps n b before (either l r) known w c i = constant_waits e.time b false
      past_row_keeps n b before (next l v) known w c i = own k n e.time b (next l v) w c i
      past_row_keeps n b before (until l r v) known w c i = own k n e.time b (until l r v) w c i
      past_row_keeps n b before (previous l v) known w c i = previous_row_keeps l b v before known w.earlier i
      past_row_keeps n b before (since l r v) known w c i =
          let right : Form m = form_in m (forms_of m rule k) r in
          let now = inside (shifted v n) e.time e.time in
          depends_or (By rule e.time b) m (only_if m now (put m right past))
          (since_earlier m (forms_of m rule k) derived past (first_of rule k) l v n e.time before)
          (depends_only_if (By rule e.time b) m now (put m right past)
          (λ y. put_waits right past k e.time e.time b len keep (forms_keep k r e.time b w.earlier.1
          (ends_right (get_or (horizons rule k) l never) (get_or (horizons rule k) r never) e.time b i))))
          (since_earlier_keeps l r n b v before known w i)

    -- the past rows keep to the horizons where the derived rows of the record before do
    pub past_rows_keep : (K : ℕ) (derived : List (Form m)) (e : Entry) (before : Neighbour)
        → Before before derived K e.time → (k : ℕ)
        → Keeps (past_rows m rule derived e before k) k e.time e.time
    unfolding past_rows parameter_horizon
    past_rows_keep K derived e before known zero = rows_none rule (constant m false) (Keep e.time e.time)
    past_rows_keep K derived e before known (suc k) =
        let past : List (Form m) = past_rows m rule derived e before k in
        let len : length past ≡ first_of rule k = length_past_rows m rule derived e before k in
        let low : Keeps past k e.time e.time = past_rows_keep K derived e before known k in
        rows_more rule (constant m false) (Keep e.time e.time) past
        (past_row m (forms_of m rule k) derived past e before (first_of rule k) (node_at rule k)) k len low
        (λ n c b i. past_row_keeps K derived e k past len low n b before (node_at rule k) known (placed k) c i)
