-- The tables of all records meet document 01's equations as they stand, with all forms and all rows put in.
-- Assumes nothing.
use mathlib.Core.Path.{◌≡◌, refl, sym, ap, ap₂, ◌∙◌, subst}
use mathlib.Core.Bool.{false}
use mathlib.Core.List.{List}
use Prim.Native.Nat.{ℕ, suc, ◌+◌, ◌≤◌, ◌<◌}
use native.Mathlib.Decide.{le_ind}
use native.Mathlib.Omega.{arith}
use Rattle.forms.specs.Form.{Form, constant, and, or, DependsOn}
use Rattle.forms.specs.Area.{form_in}
use Rattle.forms.proofs.Depends.{put_in_constant, put_in_same}
use Rattle.meaning.specs.Interval.{Interval, inside, shifts, shifted, moved}
use Rattle.meaning.specs.Rule.{Node, fixed, signal, both, either, next, until, previous, since}
use Rattle.meaning.specs.Rule.{node_at, Earlier, Ordered, count, first_of, Entry}
use Rattle.meaning.specs.Rewriting.{Neighbour, none, at, put, only_if, forms_of, parameter_to, row_to, next_row}
use Rattle.meaning.specs.Rewriting.{until_later, derived_row, derived_rows, previous_row, since_earlier, past_row}
use Rattle.meaning.specs.Rewriting.{past_rows}
use Rattle.meaning.specs.Shape.{Future, Shaped}
use Rattle.meaning.proofs.Blocks.{block_low, block_new, first_of_more, first_of_mono}
use Rattle.meaning.proofs.Blocks.{length_forms_of, length_derived_rows, length_past_rows}
use Rattle.meaning.proofs.Intervals.{moved_cases}
use Rattle.meaning.proofs.Looking.{reach_past}
use Rattle.meaning.proofs.Shapes.{future_below, shaped_past}
use Rattle.meaning.proofs.Reach.{Below, LooksBack, forms_back, put_back_low}

module _ (m : ℕ) (rule : List Node) where
  -- the tables of more records begin with those of fewer
  pub forms_whole : (k K l : ℕ) → k ≤ K → l < k → form_in m (forms_of m rule K) l ≡ form_in m (forms_of m rule k) l
  unfolding forms_of
  forms_whole k K l h b =
      le_ind (λ x. form_in m (forms_of m rule x) l ≡ form_in m (forms_of m rule k) l) refl
      (λ x g q.
      block_low (forms_of m rule x) _ x l (constant m false) (length_forms_of m rule x) (omega arith) ∙ q) K h

  pub derived_more : (past : List (Form m)) (e : Entry) (later : Neighbour) (k K q : ℕ) → k ≤ K → Below rule k q
      → form_in m (derived_rows m rule past e later K) q ≡ form_in m (derived_rows m rule past e later k) q
  unfolding derived_rows
  derived_more past e later k K q h b =
      le_ind
      (λ x. form_in m (derived_rows m rule past e later x) q ≡ form_in m (derived_rows m rule past e later k) q) refl
      (λ x g r.
      block_low (derived_rows m rule past e later x) _ (first_of rule x) q (constant m false)
      (length_derived_rows m rule past e later x) (omega (arith, first_of_mono rule k x g))
      ∙ r) K h

  pub past_more : (derived : List (Form m)) (e : Entry) (before : Neighbour) (k K q : ℕ) → k ≤ K → Below rule k q
      → form_in m (past_rows m rule derived e before K) q ≡ form_in m (past_rows m rule derived e before k) q
  unfolding past_rows
  past_more derived e before k K q h b =
      le_ind
      (λ x. form_in m (past_rows m rule derived e before x) q ≡ form_in m (past_rows m rule derived e before k) q) refl
      (λ x g r.
      block_low (past_rows m rule derived e before x) _ (first_of rule x) q (constant m false)
      (length_past_rows m rule derived e before x) (omega (arith, first_of_mono rule k x g))
      ∙ r) K h

  -- a row is made of the forms and the rows of the earlier records
  pub derived_made : (past : List (Form m)) (e : Entry) (later : Neighbour) (k K n : ℕ) → k < K
      → n < count (node_at rule k) → form_in m (derived_rows m rule past e later K) (first_of rule k + n)
      ≡ derived_row m past (forms_of m rule k) (derived_rows m rule past e later k) e later (first_of rule k)
      (node_at rule k) n
  unfolding derived_rows
  derived_made past e later k K n h c =
      let few = derived_rows m rule past e later k in
      derived_more past e later (suc k) K (first_of rule k + n) h (omega (arith, first_of_more rule k))
      ∙ block_new few (derived_row m past (forms_of m rule k) few e later (first_of rule k) (node_at rule k))
      (count (node_at rule k)) (first_of rule k) n (constant m false) (length_derived_rows m rule past e later k) c

  pub past_made : (derived : List (Form m)) (e : Entry) (before : Neighbour) (k K n : ℕ) → k < K
      → n < count (node_at rule k) → form_in m (past_rows m rule derived e before K) (first_of rule k + n)
      ≡ past_row m (forms_of m rule k) derived (past_rows m rule derived e before k) e before (first_of rule k)
      (node_at rule k) n
  unfolding past_rows
  past_made derived e before k K n h c =
      let few = past_rows m rule derived e before k in
      past_more derived e before (suc k) K (first_of rule k + n) h (omega (arith, first_of_more rule k))
      ∙ block_new few (past_row m (forms_of m rule k) derived few e before (first_of rule k) (node_at rule k))
      (count (node_at rule k)) (first_of rule k) n (constant m false) (length_past_rows m rule derived e before k) c

  -- rows that agree on the parameters of the first k records make the same of a form that names no others
  put_same : (f : Form m) (rows rows' : List (Form m)) (k : ℕ) → DependsOn (Below rule k) m f
      → ((q : ℕ) → Below rule k q → form_in m rows q ≡ form_in m rows' q) → put m f rows ≡ put m f rows'
  unfolding put
  put_same f rows rows' k d a = put_in_same (Below rule k) m m f (form_in m rows) (form_in m rows') d a

-- a derived row with other forms and derived rows, which make the same of what the row is made of
module _ (m : ℕ) (past forms forms' derived derived' : List (Form m)) (k : ℕ)
    (known : (l : ℕ) → l < k → form_in m forms l ≡ form_in m forms' l)
    (puts : (l : ℕ) → l < k → put m (form_in m forms l) derived ≡ put m (form_in m forms' l) derived') where
  next_same : (l : ℕ) (v : Interval) (here : ℕ) (later : Neighbour) → l < k
      → next_row m forms l v here later ≡ next_row m forms' l v here later
  unfolding next_row
  next_same l v here none h = refl
  next_same l v here (at other) h = ap (only_if m (inside v here other)) (known l h)

  later_same : (first l : ℕ) (v : Interval) (n here : ℕ) (later : Neighbour) → l < k
      → until_later m forms derived first l v n here later ≡ until_later m forms' derived' first l v n here later
  unfolding until_later
  later_same first l v n here none h = refl
  later_same first l v n here (at other) h =
      ap (λ f. and m f (parameter_to m first (moved v n here other))) (puts l h)

  derived_row_same : (e : Entry) (later : Neighbour) (first n : ℕ) (d : Node) → Earlier k d
      → ((Future d → ⊥) → put m (form_in m past (first + n)) derived ≡ put m (form_in m past (first + n)) derived')
      → derived_row m past forms derived e later first d n ≡ derived_row m past forms' derived' e later first d n
  unfolding derived_row Earlier Future
  derived_row_same e later first n (fixed b) o own = refl
  derived_row_same e later first n (signal s) o own = refl
  derived_row_same e later first n (both l r) o own = refl
  derived_row_same e later first n (either l r) o own = refl
  derived_row_same e later first n (next l v) o own = next_same l v e.time later o
  derived_row_same e later first n (until l r v) o own =
      ap₂ (or m) (ap (only_if m (inside (shifted v n) e.time e.time)) (puts r o.1))
      (later_same first l v n e.time later o.0)
  derived_row_same e later first n (previous l v) o own = own (λ u. u)
  derived_row_same e later first n (since l r v) o own = own (λ u. u)

-- a past row with other forms and past rows, likewise
module _ (m : ℕ) (forms forms' derived past past' : List (Form m)) (k : ℕ)
    (puts : (l : ℕ) → l < k → put m (form_in m forms l) past ≡ put m (form_in m forms' l) past')
    (twice : (l : ℕ) → l < k
    → put m (put m (form_in m forms l) derived) past ≡ put m (put m (form_in m forms' l) derived) past') where
  previous_same : (l : ℕ) (v : Interval) (here : ℕ) (before : Neighbour) → l < k
      → previous_row m forms derived past l v here before ≡ previous_row m forms' derived past' l v here before
  unfolding previous_row
  previous_same l v here none h = refl
  previous_same l v here (at other) h = ap (only_if m (inside v here other)) (twice l h)

  earlier_same : (first l : ℕ) (v : Interval) (n here : ℕ) (before : Neighbour) → l < k
      → ((i : ℕ) → i < shifts v
      → put m (form_in m derived (first + i)) past ≡ put m (form_in m derived (first + i)) past')
      → since_earlier m forms derived past first l v n here before
      ≡ since_earlier m forms' derived past' first l v n here before
  unfolding since_earlier row_to put
  earlier_same first l v n here none h own = refl
  earlier_same first l v n here (at other) h own =
      ap₂ (and m) (puts l h)
      (moved_cases (λ s. put m (row_to m derived first s) past ≡ put m (row_to m derived first s) past') v n here other
      (put_in_constant m m false (form_in m past) ∙ sym (put_in_constant m m false (form_in m past'))) own)

  past_row_same : (e : Entry) (before : Neighbour) (first n : ℕ) (d : Node) → Earlier k d
      → ((Future d → ⊥) → (i : ℕ) → i < count d
      → put m (form_in m derived (first + i)) past ≡ put m (form_in m derived (first + i)) past')
      → past_row m forms derived past e before first d n ≡ past_row m forms' derived past' e before first d n
  unfolding past_row Earlier Future count
  past_row_same e before first n (fixed b) o own = refl
  past_row_same e before first n (signal s) o own = refl
  past_row_same e before first n (both l r) o own = refl
  past_row_same e before first n (either l r) o own = refl
  past_row_same e before first n (next l v) o own = refl
  past_row_same e before first n (until l r v) o own = refl
  past_row_same e before first n (previous l v) o own = previous_same l v e.time before o
  past_row_same e before first n (since l r v) o own =
      ap₂ (or m) (ap (only_if m (inside (shifted v n) e.time e.time)) (puts r o.1))
      (earlier_same first l v n e.time before o.0 (own (λ u. u)))

module _ (rule : List Node) (ordered : Ordered rule) (m : ℕ) (fits : (k : ℕ) → first_of rule k ≤ m) (K : ℕ) where
  -- record k's derived row is made of all forms and of any rows that begin with those of the earlier records,
  -- for all past rows of the shape
  pub derived_row_lem : (past : List (Form m)) (e : Entry) (later : Neighbour) → Shaped rule m e past K
      → (all : List (Form m)) (k n : ℕ) → k < K → n < count (node_at rule k)
      → ((q : ℕ) → Below rule k q → form_in m (derived_rows m rule past e later k) q ≡ form_in m all q)
      → derived_row m past (forms_of m rule k) (derived_rows m rule past e later k) e later (first_of rule k)
      (node_at rule k) n
      ≡ derived_row m past (forms_of m rule K) all e later (first_of rule k) (node_at rule k) n
  derived_row_lem past e later shaped all k n h c begin =
      derived_row_same m past forms (forms_of m rule K) few all k known
      (λ l b. same (form_in m forms l) (forms_back rule ordered m fits k l b) ∙ ap (λ f. put m f all) (known l b))
      e later (first_of rule k) n (node_at rule k) (ordered k)
      (λ u. same (form_in m past (first_of rule k + n)) (λ ρ ρ' a.
      shaped_past rule m e past K shaped k n h c u ρ ρ' (λ j s. a j (future_below rule k j s))))
    where
      forms : List (Form m)
      forms = forms_of m rule k

      few : List (Form m)
      few = derived_rows m rule past e later k

      known : (l : ℕ) → l < k → form_in m (forms_of m rule k) l ≡ form_in m (forms_of m rule K) l
      known l b = sym (forms_whole m rule k K l (omega arith) b)

      same : (f : Form m) → DependsOn (Below rule k) m f → put m f (derived_rows m rule past e later k) ≡ put m f all
      same f d = put_same m rule f few all k d begin

  -- record k's past row likewise, for all derived rows that look back
  pub past_row_lem : (derived : List (Form m)) (e : Entry) (before : Neighbour) → LooksBack rule m derived K
      → (all : List (Form m)) (k n : ℕ) → k < K → n < count (node_at rule k)
      → ((q : ℕ) → Below rule k q → form_in m (past_rows m rule derived e before k) q ≡ form_in m all q)
      → past_row m (forms_of m rule k) derived (past_rows m rule derived e before k) e before (first_of rule k)
      (node_at rule k) n
      ≡ past_row m (forms_of m rule K) derived all e before (first_of rule k) (node_at rule k) n
  past_row_lem derived e before back all k n h c begin =
      past_row_same m forms (forms_of m rule K) derived few all k
      (λ l b. same (form_in m forms l) (form_back l b) ∙ ap (λ f. put m f all) (known l b))
      (λ l b.
      same (put m (form_in m forms l) derived)
      (put_back_low rule m (form_in m forms l) derived k K (omega arith) back (form_back l b))
      ∙ ap (λ f. put m (put m f derived) all) (known l b))
      e before (first_of rule k) n (node_at rule k) (ordered k)
      (λ u i b.
      let row : Form m = form_in m derived (first_of rule k + i) in
      same row (subst (λ x. DependsOn (Below rule x) m row) (reach_past (node_at rule k) k u) (back k i h b)))
    where
      forms : List (Form m)
      forms = forms_of m rule k

      few : List (Form m)
      few = past_rows m rule derived e before k

      form_back : (l : ℕ) → l < k → DependsOn (Below rule k) m (form_in m (forms_of m rule k) l)
      form_back l b = forms_back rule ordered m fits k l b

      known : (l : ℕ) → l < k → form_in m (forms_of m rule k) l ≡ form_in m (forms_of m rule K) l
      known l b = sym (forms_whole m rule k K l (omega arith) b)

      same : (f : Form m) → DependsOn (Below rule k) m f → put m f (past_rows m rule derived e before k) ≡ put m f all
      same f d = put_same m rule f few all k d begin

  -- each derived row is made of all forms and all derived rows
  pub derived_whole : (past : List (Form m)) (e : Entry) (later : Neighbour) → Shaped rule m e past K → (k n : ℕ)
      → k < K → n < count (node_at rule k) → form_in m (derived_rows m rule past e later K) (first_of rule k + n)
      ≡ derived_row m past (forms_of m rule K) (derived_rows m rule past e later K) e later (first_of rule k)
      (node_at rule k) n
  derived_whole past e later shaped k n h c =
      derived_made m rule past e later k K n h c
      ∙ derived_row_lem past e later shaped (derived_rows m rule past e later K) k n h c
      (λ q b. sym (derived_more m rule past e later k K q (omega arith) b))

  -- each past row is made of all forms and all past rows
  pub past_whole : (derived : List (Form m)) (e : Entry) (before : Neighbour) → LooksBack rule m derived K → (k n : ℕ)
      → k < K → n < count (node_at rule k) → form_in m (past_rows m rule derived e before K) (first_of rule k + n)
      ≡ past_row m (forms_of m rule K) derived (past_rows m rule derived e before K) e before (first_of rule k)
      (node_at rule k) n
  past_whole derived e before back k n h c =
      past_made m rule derived e before k K n h c
      ∙ past_row_lem derived e before back (past_rows m rule derived e before K) k n h c
      (λ q b. sym (past_more m rule derived e before k K q (omega arith) b))
