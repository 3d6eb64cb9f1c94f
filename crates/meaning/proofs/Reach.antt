-- Forms and derived rows look back: which records' parameters they name.
-- Assumes nothing.
use mathlib.Core.Path.{◌≡◌, sym, subst}
use mathlib.Core.Bool.{Bool, false}
use mathlib.Core.List.{List, [], ◌∷◌, ◌++◌}
use Prim.Native.Nat.{ℕ, zero, suc, ◌+◌, ◌≤◌, ◌<◌}
use native.Mathlib.Nat.{add-zero}
use native.Mathlib.Decide.{dec_lt}
use native.Mathlib.Omega.{arith}
use lib.ListN.{length}
use Rattle.forms.specs.Form.{Form, constant, parameter, DependsOn}
use Rattle.forms.specs.Area.{form_in}
use Rattle.forms.proofs.Depends.{depends_constant, depends_parameter, depends_xor, depends_and, depends_or}
use Rattle.forms.proofs.Depends.{depends_put_in}
use Rattle.meaning.specs.Interval.{Interval, inside, shifts, shifted, moved}
use Rattle.meaning.specs.Rule.{Node, fixed, signal, both, either, next, until, previous, since}
use Rattle.meaning.specs.Rule.{node_at, Earlier, Ordered, count, first_of, Entry, holds}
use Rattle.meaning.specs.Rewriting.{Neighbour, none, at, put, only_if, form_of, forms_of, parameter_to}
use Rattle.meaning.specs.Rewriting.{next_row, until_later, derived_row, derived_rows}
use Rattle.meaning.specs.Shape.{Place}
use Rattle.meaning.proofs.Blocks.{block_low, one_new, first_of_more, first_of_mono, place}
use Rattle.meaning.proofs.Blocks.{Rows, rows_none, rows_more, length_forms_of, length_derived_rows}
use Rattle.meaning.proofs.Intervals.{moved_cases, shifts_pos}
use Rattle.meaning.proofs.Looking.{reach, reach_most}
use Rattle.meaning.proofs.Shapes.{depends_only_if, depends_grows, depends_put}

-- q is a parameter of one of the first k records
abbrev pub Below : List Node → ℕ → ℕ → Type 0
Below rule k q = q < first_of rule k

pub below_grows : (rule : List Node) (k l q : ℕ) → k ≤ l → Below rule k q → Below rule l q
below_grows rule k l q h b = omega (arith, first_of_mono rule k l h)

-- each row of the first K records keeps to that
abbrev pub LooksBack : List Node → (m : ℕ) → List (Form m) → ℕ → Type 0
LooksBack rule m rows K =
    Rows rule (constant m false) (λ k n f. DependsOn (Below rule (reach (node_at rule k) k)) m f) rows K

-- where there are no rows each is false
pub none_back : (rule : List Node) (m K : ℕ) → LooksBack rule m [] K
none_back rule m K k n h c = depends_constant (Below rule (reach (node_at rule k) k)) m false

-- a record's form depends on what the forms that it is made of do, and on its first parameter
form_depends : (S : ℕ → Type 0) (m : ℕ) (forms : List (Form m)) (first k : ℕ) (d : Node) → Earlier k d
    → ((l : ℕ) → l < k → DependsOn S m (form_in m forms l)) → (0 < count d → DependsOn S m (parameter m first))
    → DependsOn S m (form_of m forms first d)
unfolding form_of Earlier count
form_depends S m forms first k (fixed b) o all own = depends_constant S m b
form_depends S m forms first k (signal s) o all own = own (omega arith)
form_depends S m forms first k (both l r) o all own =
    depends_and S m (form_in m forms l) (form_in m forms r) (all l o.0) (all r o.1)
form_depends S m forms first k (either l r) o all own =
    depends_xor S m (form_in m forms l) (form_in m forms r) (all l o.0) (all r o.1)
form_depends S m forms first k (next l v) o all own = own (omega arith)
form_depends S m forms first k (until l r v) o all own = own (shifts_pos v)
form_depends S m forms first k (previous l v) o all own = own (omega arith)
form_depends S m forms first k (since l r v) o all own = own (shifts_pos v)

module _ (rule : List Node) (m : ℕ) where
  back_grows : (k l : ℕ) (f : Form m) → k ≤ l → DependsOn (Below rule k) m f → DependsOn (Below rule l) m f
  back_grows = depends_grows rule m (Below rule) (below_grows rule)

  -- with the rows of the first K records put in, any form names parameters of those records only
  pub put_back : (f : Form m) (rows : List (Form m)) (K : ℕ) → length rows ≡ first_of rule K → LooksBack rule m rows K
      → DependsOn (Below rule K) m (put m f rows)
  put_back f rows K long back =
      depends_put rule m (Below rule) (below_grows rule) f rows K long
      (λ k n h c.
      back_grows (reach (node_at rule k) k) (suc k) (form_in m rows (first_of rule k + n))
      (reach_most (node_at rule k) k)
      (back k n h c))

  -- and a form that names only parameters of the first k of them still names no others
  pub put_back_low : (f : Form m) (rows : List (Form m)) (k K : ℕ) → k ≤ K → LooksBack rule m rows K
      → DependsOn (Below rule k) m f → DependsOn (Below rule k) m (put m f rows)
  unfolding put
  put_back_low f rows k K h back d =
      depends_put_in (Below rule k) m m (Below rule k) f (form_in m rows) d (λ q l. go q (place rule k q l))
    where
      go : (q : ℕ) → Place rule k q → DependsOn (Below rule k) m (form_in m rows q)
      go q p =
          let j = p.node in
          subst (λ x. DependsOn (Below rule k) m (form_in m rows x)) p.here
          (back_grows (reach (node_at rule j) j) k (form_in m rows (first_of rule j + p.shift))
          (omega (arith, p.before, reach_most (node_at rule j) j))
          (back j p.shift (omega (arith, p.before)) p.less))

module _ (rule : List Node) (ordered : Ordered rule) (m : ℕ) (fits : (k : ℕ) → first_of rule k ≤ m) where
  own_back : (k n : ℕ) → n < count (node_at rule k)
      → DependsOn (Below rule (suc k)) m (parameter m (first_of rule k + n))
  own_back k n c =
      depends_parameter (Below rule (suc k)) m (first_of rule k + n) (omega (arith, fits (suc k), first_of_more rule k))
      (omega (arith, first_of_more rule k))

  -- the forms of the first k records name parameters of those records
  pub forms_back : (k l : ℕ) → l < k → DependsOn (Below rule k) m (form_in m (forms_of m rule k) l)
  unfolding forms_of
  forms_back zero l h = let z : ⊥ = omega arith in absurd z
  forms_back (suc k) l h =
      go (λ x b. back_grows rule m k (suc k) (form_in m forms x) (omega arith) (forms_back k x b)) (dec_lt l k)
    where
      forms : List (Form m)
      forms = forms_of m rule k

      new : Form m
      new = form_of m forms (first_of rule k) (node_at rule k)

      go : ((x : ℕ) → x < k → DependsOn (Below rule (suc k)) m (form_in m (forms_of m rule k) x)) → Dec (l < k)
          → DependsOn (Below rule (suc k)) m (form_in m (forms ++ (new ∷ [])) l)
      go old (yes b) =
          subst (DependsOn (Below rule (suc k)) m)
          (sym (block_low forms _ k l (constant m false) (length_forms_of m rule k) b)) (old l b)
      go old (no b) =
          let q : k ≡ l = omega arith in
          subst (λ x. DependsOn (Below rule (suc k)) m (form_in m (forms ++ (new ∷ [])) x)) q
          (subst (DependsOn (Below rule (suc k)) m)
          (sym (one_new forms new k (constant m false) (length_forms_of m rule k)))
          (form_depends (Below rule (suc k)) m forms (first_of rule k) k (node_at rule k) (ordered k) old
          (λ c. rw add-zero at (own_back k 0 c))))

  module _ (past derived : List (Form m)) (e : Entry) (k : ℕ) (long : length derived ≡ first_of rule k)
      (back : LooksBack rule m derived k) where
    next_back : (l : ℕ) (v : Interval) (here : ℕ) (later : Neighbour) → l < k
        → DependsOn (Below rule (suc k)) m (next_row m (forms_of m rule k) l v here later)
    unfolding next_row
    next_back l v here none h = depends_constant (Below rule (suc k)) m false
    next_back l v here (at other) h =
        depends_only_if (Below rule (suc k)) m (inside v here other) (form_in m (forms_of m rule k) l)
        (λ _. back_grows rule m k (suc k) (form_in m (forms_of m rule k) l) (omega arith) (forms_back k l h))

    put_now : (f : Form m) → DependsOn (Below rule (suc k)) m (put m f derived)
    put_now f = back_grows rule m k (suc k) (put m f derived) (omega arith) (put_back rule m f derived k long back)

    later_back : (l : ℕ) (v : Interval) (n here : ℕ) (later : Neighbour)
        → ((i : ℕ) → i < shifts v → DependsOn (Below rule (suc k)) m (parameter m (first_of rule k + i)))
        → DependsOn (Below rule (suc k)) m (until_later m (forms_of m rule k) derived
        (first_of rule k) l v n here later)
    unfolding until_later parameter_to
    later_back l v n here none own = depends_constant (Below rule (suc k)) m false
    later_back l v n here (at other) own =
        depends_and (Below rule (suc k)) m (put m (form_in m (forms_of m rule k) l) derived)
        (parameter_to m (first_of rule k) (moved v n here other)) (put_now (form_in m (forms_of m rule k) l))
        (moved_cases (λ s. DependsOn (Below rule (suc k)) m (parameter_to m (first_of rule k) s)) v n here other
        (depends_constant (Below rule (suc k)) m false) own)

    row_back : (later : Neighbour) (n : ℕ) (d : Node) → Earlier k d
        → ((i : ℕ) → i < count d → DependsOn (Below rule (suc k)) m (parameter m (first_of rule k + i)))
        → DependsOn (Below rule (reach d k)) m
        (derived_row m past (forms_of m rule k) derived e later (first_of rule k) d n)
    unfolding derived_row reach Earlier count
    row_back later n (fixed b) o own = depends_constant (Below rule k) m false
    row_back later n (signal s) o own = depends_constant (Below rule k) m (holds e s)
    row_back later n (both l r) o own = depends_constant (Below rule k) m false
    row_back later n (either l r) o own = depends_constant (Below rule k) m false
    row_back later n (next l v) o own = next_back l v e.time later o
    row_back later n (until l r v) o own =
        let now : Bool = inside (shifted v n) e.time e.time in
        let right : Form m = put m (form_in m (forms_of m rule k) r) derived in
        depends_or (Below rule (suc k)) m (only_if m now right)
        (until_later m (forms_of m rule k) derived (first_of rule k) l v n e.time later)
        (depends_only_if (Below rule (suc k)) m now right (λ _. put_now (form_in m (forms_of m rule k) r)))
        (later_back l v n e.time later own)
    row_back later n (previous l v) o own = put_back rule m (form_in m past (first_of rule k + n)) derived k long back
    row_back later n (since l r v) o own = put_back rule m (form_in m past (first_of rule k + n)) derived k long back

  -- derived rows look back, whatever the past rows are
  pub derived_back : (past : List (Form m)) (e : Entry) (later : Neighbour) (K : ℕ)
      → LooksBack rule m (derived_rows m rule past e later K) K
  unfolding derived_rows
  derived_back past e later zero =
      rows_none rule (constant m false) (λ k n f. DependsOn (Below rule (reach (node_at rule k) k)) m f)
  derived_back past e later (suc K) =
      let derived = derived_rows m rule past e later K in
      let long = length_derived_rows m rule past e later K in
      rows_more rule (constant m false) (λ k n f. DependsOn (Below rule (reach (node_at rule k) k)) m f) derived
      (derived_row m past (forms_of m rule K) derived e later (first_of rule K) (node_at rule K)) K long
      (derived_back past e later K)
      (λ n c.
      row_back past derived e K long (derived_back past e later K) later n (node_at rule K) (ordered K)
      (λ i h. own_back K i h))
