-- The shape of past rows: what the row of each record is, or which parameters it names.
-- Assumes nothing.
use mathlib.Core.Path.{◌≡◌, refl, sym, ◌∙◌, subst}
use mathlib.Core.Bool.{Bool, true, false, true≢false}
use mathlib.Core.List.{List, [], ◌∷◌}
use Prim.Native.Nat.{ℕ, zero, suc, ◌+◌, ◌≤◌, ◌<◌}
use native.Mathlib.Decide.{dec_lt}
use native.Mathlib.Omega.{arith}
use lib.ListN.{length, get_or-eq_default}
use Rattle.forms.specs.Form.{Form, constant, parameter, DependsOn, names}
use Rattle.forms.specs.Area.{form_in}
use Rattle.forms.proofs.Values.{value_agree}
use Rattle.forms.proofs.Depends.{depends_constant, depends_parameter, depends_and, depends_or, depends_put_in}
use Rattle.forms.proofs.Depends.{names_depends}
use Rattle.meaning.specs.Interval.{Interval, inside, shifted, moved}
use Rattle.meaning.specs.Rule.{Node, fixed, signal, both, either, next, until, previous, since}
use Rattle.meaning.specs.Rule.{node_at, count, first_of, Entry, holds}
use Rattle.meaning.specs.Rewriting.{Neighbour, none, at, put, only_if, row_to, forms_of}
use Rattle.meaning.specs.Rewriting.{previous_row, since_earlier, past_row, past_rows, derived_rows}
use Rattle.meaning.specs.Words.{Known, first, feed, fed, after}
use Rattle.meaning.specs.Shape.{Place, Future, FutureBefore, RowShape, Shaped, KnownShape}
use Rattle.meaning.proofs.Blocks.{first_of_more, first_of_mono, place_grows, place, node_one}
use Rattle.meaning.proofs.Blocks.{Rows, rows_none, rows_more, length_past_rows}

-- such a parameter is one of the first k records'
pub future_below : (rule : List Node) (k q : ℕ) → FutureBefore rule k q → q < first_of rule k
future_below rule k q f =
    let p = f.place in
    omega (arith, p.less, p.here, first_of_more rule p.node, first_of_mono rule (suc p.node) k p.before)

-- a form if a test passes depends on what the form does where it passes
pub depends_only_if : (S : ℕ → Type 0) (m : ℕ) (b : Bool) (f : Form m) → (b ≡ true → DependsOn S m f)
    → DependsOn S m (only_if m b f)
unfolding only_if
depends_only_if S m true f h = h refl
depends_only_if S m false f h = depends_constant S m false

-- S k are parameters of the first k records
module _ (rule : List Node) (m : ℕ) (S : ℕ → ℕ → Type 0) (grows : (k l q : ℕ) → k ≤ l → S k q → S l q) where
  pub depends_grows : (k l : ℕ) (f : Form m) → k ≤ l → DependsOn (S k) m f → DependsOn (S l) m f
  depends_grows k l f h d = λ ρ ρ' a. d ρ ρ' (λ j s. a j (grows k l j h s))

  -- a form with the rows of the first K records put in
  pub depends_put : (f : Form m) (rows : List (Form m)) (K : ℕ) → length rows ≡ first_of rule K
      → Rows rule (constant m false) (λ k n g. DependsOn (S (suc k)) m g) rows K → DependsOn (S K) m (put m f rows)
  unfolding put
  depends_put f rows K e all =
      depends_put_in (S K) m m (λ j. Unit {0}) f (form_in m rows) (λ ρ ρ' a. value_agree m f ρ ρ' (λ j l. a j tt))
      (λ q s. go q (dec_lt q (first_of rule K)))
    where
      go : (q : ℕ) → Dec (q < first_of rule K) → DependsOn (S K) m (form_in m rows q)
      go q (yes l) =
          let p = place rule K q l in
          subst (λ x. DependsOn (S K) m (form_in m rows x)) p.here
          (depends_grows (suc p.node) K (form_in m rows (first_of rule p.node + p.shift)) p.before
          (all p.node p.shift p.before p.less))
      go q (no l) =
          let h : length rows ≤ q = omega arith in
          subst (DependsOn (S K) m) (sym (get_or-eq_default rows (constant m false) h))
          (depends_constant (S K) m false)

pub future_grows : (rule : List Node) (k l q : ℕ) → k ≤ l → FutureBefore rule k q → FutureBefore rule l q
unfolding place_grows
future_grows rule k l q h f = record { place = place_grows rule k l q h f.place; future = f.future }

pub dec_future : (d : Node) → Dec (Future d)
unfolding Future
dec_future (fixed b) = no (λ u. u)
dec_future (signal s) = no (λ u. u)
dec_future (both l r) = no (λ u. u)
dec_future (either l r) = no (λ u. u)
dec_future (next l v) = yes tt
dec_future (until l r v) = yes tt
dec_future (previous l v) = no (λ u. u)
dec_future (since l r v) = no (λ u. u)

pub dec_future_before : (rule : List Node) (k q : ℕ) → Dec (FutureBefore rule k q)
dec_future_before rule k q = go (dec_lt q (first_of rule k))
  where
    at_place : (p : Place rule k q) → Dec (Future (node_at rule p.node)) → Dec (FutureBefore rule k q)
    at_place p (yes u) = yes (record { place = p; future = u })
    at_place p (no u) =
        no (λ f.
        let r = f.place in
        u (subst (λ x. Future (node_at rule x))
        (node_one rule r.node p.node r.shift p.shift r.less p.less (r.here ∙ sym p.here))
        f.future))

    go : Dec (q < first_of rule k) → Dec (FutureBefore rule k q)
    go (yes l) = let p = place rule k q l in at_place p (dec_future (node_at rule p.node))
    go (no l) = no (λ f. l (future_below rule k q f))

-- a form depends only on next and until parameters of the first k records if it names no others, and only then
module _ (rule : List Node) (k m : ℕ) (f : Form m) where
  pub names_future : DependsOn (FutureBefore rule k) m f → (j : ℕ) → names m f j ≡ true → FutureBefore rule k j
  names_future d j t = go (dec_future_before rule k j)
    where
      go : Dec (FutureBefore rule k j) → FutureBefore rule k j
      go (yes u) = u
      go (no u) = absurd (true≢false (sym t ∙ names_depends (FutureBefore rule k) m f d j u))

module _ (rule : List Node) (m : ℕ) (e : Entry) (k n : ℕ) where
  future_row : (d : Node) (f : Form m) → Future d → RowShape rule m e k n d f → f ≡ parameter m (first_of rule k + n)
  unfolding RowShape Future
  future_row (fixed b) f u s = absurd u
  future_row (signal t) f u s = absurd u
  future_row (both a b) f u s = absurd u
  future_row (either a b) f u s = absurd u
  future_row (next a v) f u s = s
  future_row (until a b v) f u s = s
  future_row (previous a v) f u s = absurd u
  future_row (since a b v) f u s = absurd u

  past_row_lem : (d : Node) (f : Form m) → n < count d → (Future d → ⊥) → RowShape rule m e k n d f
      → DependsOn (FutureBefore rule k) m f
  unfolding RowShape Future count
  past_row_lem (fixed b) f c u s = let z : ⊥ = omega arith in absurd z
  past_row_lem (signal t) f c u s = rw s (depends_constant (FutureBefore rule k) m (holds e t))
  past_row_lem (both a b) f c u s = let z : ⊥ = omega arith in absurd z
  past_row_lem (either a b) f c u s = let z : ⊥ = omega arith in absurd z
  past_row_lem (next a v) f c u s = absurd (u tt)
  past_row_lem (until a b v) f c u s = absurd (u tt)
  past_row_lem (previous a v) f c u s = s
  past_row_lem (since a b v) f c u s = s

-- each row of that shape, by its record
module _ (rule : List Node) (m : ℕ) (e : Entry) (rows : List (Form m)) (K : ℕ) (shaped : Shaped rule m e rows K)
    (k n : ℕ) (h : k < K) (c : n < count (node_at rule k)) where
  -- a next's or until's is itself
  pub shaped_future : Future (node_at rule k) → form_in m rows (first_of rule k + n) ≡ parameter m (first_of rule k + n)
  shaped_future u = future_row rule m e k n (node_at rule k) (form_in m rows (first_of rule k + n)) u (shaped k n h c)

  -- any other depends only on next and until parameters of earlier records
  pub shaped_past : (Future (node_at rule k) → ⊥)
      → DependsOn (FutureBefore rule k) m (form_in m rows (first_of rule k + n))
  shaped_past u = past_row_lem rule m e k n (node_at rule k) (form_in m rows (first_of rule k + n)) c u (shaped k n h c)

  -- so each depends only on next and until parameters, its own or of earlier records
  pub shaped_depends : first_of rule (suc k) ≤ m
      → DependsOn (FutureBefore rule (suc k)) m (form_in m rows (first_of rule k + n))
  shaped_depends l = go (dec_future (node_at rule k))
    where
      own : Place rule (suc k) (first_of rule k + n)
      own = record { node = k; shift = n; before = omega arith; less = c; here = refl }

      go : Dec (Future (node_at rule k)) → DependsOn (FutureBefore rule (suc k)) m
          (form_in m rows (first_of rule k + n))
      go (yes u) =
          subst (DependsOn (FutureBefore rule (suc k)) m) (sym (shaped_future u))
          (depends_parameter (FutureBefore rule (suc k)) m (first_of rule k + n) (omega (arith, first_of_more rule k))
          (record { place = own; future = u }))
      go (no u) =
          depends_grows rule m (FutureBefore rule) (future_grows rule) k (suc k) (form_in m rows (first_of rule k + n))
          (omega arith) (shaped_past u)

module _ (rule : List Node) (m : ℕ) (fits : (k : ℕ) → first_of rule k ≤ m) (e : Entry) where
  -- with the rows of the first K records put in, any form depends only on their next and until parameters
  pub put_shaped : (f : Form m) (rows : List (Form m)) (K : ℕ) → length rows ≡ first_of rule K → Shaped rule m e rows K
      → DependsOn (FutureBefore rule K) m (put m f rows)
  put_shaped f rows K l s =
      depends_put rule m (FutureBefore rule) (future_grows rule) f rows K l
      (λ k n h c. shaped_depends rule m e rows K s k n h c (fits (suc k)))

  module _ (forms derived past : List (Form m)) (k : ℕ) (long : length past ≡ first_of rule k)
      (shaped : Shaped rule m e past k) where
    previous_shape : (l : ℕ) (v : Interval) (here : ℕ) (before : Neighbour)
        → DependsOn (FutureBefore rule k) m (previous_row m forms derived past l v here before)
    unfolding previous_row
    previous_shape l v here none = depends_constant (FutureBefore rule k) m false
    previous_shape l v here (at other) =
        depends_only_if (FutureBefore rule k) m (inside v here other) (put m (put m (form_in m forms l) derived) past)
        (λ _. put_shaped (put m (form_in m forms l) derived) past k long shaped)

    since_shape : (first l : ℕ) (v : Interval) (n here : ℕ) (before : Neighbour)
        → DependsOn (FutureBefore rule k) m (since_earlier m forms derived past first l v n here before)
    unfolding since_earlier
    since_shape first l v n here none = depends_constant (FutureBefore rule k) m false
    since_shape first l v n here (at other) =
        let row : Form m = row_to m derived first (moved v n here other) in
        depends_and (FutureBefore rule k) m (put m (form_in m forms l) past) (put m row past)
        (put_shaped (form_in m forms l) past k long shaped) (put_shaped row past k long shaped)

    row_shape : (before : Neighbour) (n : ℕ) (d : Node)
        → RowShape rule m e k n d (past_row m forms derived past e before (first_of rule k) d n)
    unfolding RowShape past_row
    row_shape before n (fixed b) = tt
    row_shape before n (signal s) = refl
    row_shape before n (both l r) = tt
    row_shape before n (either l r) = tt
    row_shape before n (next l v) = refl
    row_shape before n (until l r v) = refl
    row_shape before n (previous l v) = previous_shape l v e.time before
    row_shape before n (since l r v) =
        let now : Bool = inside (shifted v n) e.time e.time in
        depends_or (FutureBefore rule k) m (only_if m now (put m (form_in m forms r) past))
        (since_earlier m forms derived past (first_of rule k) l v n e.time before)
        (depends_only_if (FutureBefore rule k) m now (put m (form_in m forms r) past)
        (λ _. put_shaped (form_in m forms r) past k long shaped))
        (since_shape (first_of rule k) l v n e.time before)

  -- the past rows of any number of records have that shape, whatever the derived rows of the record before are
  pub past_shape : (derived : List (Form m)) (before : Neighbour) (K : ℕ)
      → Shaped rule m e (past_rows m rule derived e before K) K
  unfolding past_rows
  past_shape derived before zero =
      rows_none rule (constant m false) (λ k n f. RowShape rule m e k n (node_at rule k) f)
  past_shape derived before (suc K) =
      let past = past_rows m rule derived e before K in
      let long = length_past_rows m rule derived e before K in
      rows_more rule (constant m false) (λ k n f. RowShape rule m e k n (node_at rule k) f) past
      (past_row m (forms_of m rule K) derived past e before (first_of rule K) (node_at rule K)) K long
      (past_shape derived before K)
      (λ n c. row_shape (forms_of m rule K) derived past K long (past_shape derived before K) before n (node_at rule K))

-- so have those that are known after each record of a log
module _ (rule : List Node) (m : ℕ) (fits : (k : ℕ) → first_of rule k ≤ m) where
  pub first_shape : (e : Entry) → KnownShape rule m (first m rule e)
  unfolding first
  first_shape e = past_shape rule m fits e [] none (length rule)

  pub feed_shape : (s : Known m) (e : Entry) → KnownShape rule m (feed m rule s e)
  unfolding feed
  feed_shape s e =
      past_shape rule m fits e (derived_rows m rule s.past s.last (at e.time) (length rule))
      (at s.last.time) (length rule)

  pub fed_shape : (s : Known m) (es : List Entry) → KnownShape rule m s → KnownShape rule m (fed m rule s es)
  unfolding fed
  fed_shape s [] h = h
  fed_shape s (e ∷ es) h = fed_shape (feed m rule s e) es (feed_shape s e)

  pub after_shape : (e : Entry) (es : List Entry) → KnownShape rule m (after m rule e es)
  unfolding after
  after_shape e es = fed_shape (first m rule e) es (first_shape e)
