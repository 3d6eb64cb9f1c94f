-- Document 01's equations leave one outcome for each record of a log: what `first`, `feed` and `close` give.
-- Assumes nothing.
use mathlib.Core.Path.{◌≡◌, sym, ap, ◌∙◌, subst}
use mathlib.Core.Bool.{false}
use mathlib.Core.List.{List, []}
use Prim.Native.Nat.{ℕ, zero, suc, ◌+◌, ◌-◌, ◌≤◌, ◌<◌}
use native.Mathlib.Nat.{le_refl}
use native.Mathlib.Decide.{dec_lt}
use native.Mathlib.Omega.{arith}
use lib.ListN.{length}
use lib.Seq.{ext_get_or}
use Rattle.forms.specs.Form.{Form, constant}
use Rattle.forms.specs.Area.{form_in}
use Rattle.meaning.specs.Rule.{Node, node_at, Ordered, count, first_of, parameters, Entry}
use Rattle.meaning.specs.Rewriting.{Neighbour, none, at, put, derived_rows, past_rows}
use Rattle.meaning.specs.Words.{Known, leave, feed, close, after}
use Rattle.meaning.specs.Shape.{KnownShape}
use Rattle.meaning.specs.Whole.{PastEquations, DerivedEquations, FirstRecord, LaterRecord, End}
use Rattle.meaning.proofs.Blocks.{length_derived_rows, length_past_rows}
use Rattle.meaning.proofs.Shapes.{after_shape}
use Rattle.meaning.proofs.Reach.{Below, LooksBack, none_back, derived_back}
use Rattle.meaning.proofs.Whole.{derived_more, derived_made, derived_row_lem, past_more, past_made, past_row_lem}
use Rattle.meaning.proofs.EveryRecord.{fits_each}

-- rows that are made like those of a table, record after record, begin with it
module _ (rule : List Node) (m : ℕ) (table : ℕ → List (Form m)) (all : List (Form m)) (K : ℕ)
    (more : (k q : ℕ) → k < K → Below rule k q → form_in m (table (suc k)) q ≡ form_in m (table k) q)
    (made : (k n : ℕ) → k < K → n < count (node_at rule k)
    → ((q : ℕ) → Below rule k q → form_in m (table k) q ≡ form_in m all q)
    → form_in m (table (suc k)) (first_of rule k + n) ≡ form_in m all (first_of rule k + n)) where
  begins : (k : ℕ) → k ≤ K → (q : ℕ) → Below rule k q → form_in m (table k) q ≡ form_in m all q
  unfolding first_of
  begins zero h q b = let z : ⊥ = omega arith in absurd z
  begins (suc k) h q b = go (dec_lt q (first_of rule k)) (begins k (omega arith))
    where
      go : Dec (q < first_of rule k) → ((q : ℕ) → Below rule k q → form_in m (table k) q ≡ form_in m all q)
          → form_in m (table (suc k)) q ≡ form_in m all q
      go (yes l) old = more k q (omega arith) l ∙ old q l
      go (no l) old =
          let here : first_of rule k + (q - first_of rule k) ≡ q = omega arith in
          subst (λ x. form_in m (table (suc k)) x ≡ form_in m all x) here
          (made k (q - first_of rule k) (omega arith) (omega arith) old)

  -- and are the table, where they are as many
  same_rows : length all ≡ first_of rule K → length (table K) ≡ first_of rule K → all ≡ table K
  same_rows a t =
      sym (ext_get_or (constant m false) (table K) all (t ∙ sym a)
      (λ q l. begins K (le_refl K) q (let b : q < first_of rule K = omega arith in b)))

module _ (rule : List Node) (ordered : Ordered rule) (m : ℕ) (fits : parameters rule ≤ m) where
  only_derived : (s : Known m) (later : Neighbour) (derived : List (Form m)) → KnownShape rule m s
      → DerivedEquations m rule s.past derived s.last later
      → derived ≡ derived_rows m rule s.past s.last later (length rule)
  unfolding parameters
  only_derived s later derived shape equations =
      let past : List (Form m) = s.past in
      let e : Entry = s.last in
      same_rows rule m (derived_rows m rule past e later) derived (length rule)
      (λ k q h b. derived_more m rule past e later k (suc k) q (omega arith) b)
      (λ k n h c old.
      derived_made m rule past e later k (suc k) n (omega arith) c
      ∙ derived_row_lem rule ordered m (fits_each rule m fits) (length rule) past e later shape derived k n h c old
      ∙ sym (equations.row k n h c))
      equations.long (length_derived_rows m rule past e later (length rule))

  only_past : (derived past : List (Form m)) (e : Entry) (before : Neighbour) → LooksBack rule m derived (length rule)
      → PastEquations m rule derived past e before → past ≡ past_rows m rule derived e before (length rule)
  unfolding parameters
  only_past derived past e before back equations =
      same_rows rule m (past_rows m rule derived e before) past (length rule)
      (λ k q h b. past_more m rule derived e before k (suc k) q (omega arith) b)
      (λ k n h c old.
      past_made m rule derived e before k (suc k) n (omega arith) c
      ∙ past_row_lem rule ordered m (fits_each rule m fits) (length rule) derived e before back past k n h c old
      ∙ sym (equations.row k n h c))
      equations.long (length_past_rows m rule derived e before (length rule))

  -- record 1
  pub only_first : (f : Form m) (e : Entry) (now : Known m) → FirstRecord m rule f e now → now ≡ leave m rule f e
  only_first f e now is = λ i. record {
    past = only_past [] now.past e none (none_back rule m (length rule)) is.past i;
    remainder = is.remainder i;
    last = is.last i;
  }

  module _ (e : Entry) (es : List Entry) where
    shape : KnownShape rule m (after m rule e es)
    shape = after_shape rule m (fits_each rule m fits) e es

    -- a later record
    pub only_later : (x : Entry) (now : Known m) → LaterRecord m rule (after m rule e es) x now
        → now ≡ feed m rule (after m rule e es) x
    unfolding feed
    only_later x now is = λ i. record {
      past = (before_past ∙ ap (λ d. past_rows m rule d x (at s.last.time) (length rule)) one) i;
      remainder = (is.remainder ∙ ap (put m s.remainder) one) i;
      last = is.last i;
    }
      where
        s : Known m
        s = after m rule e es

        one : is.derived ≡ derived_rows m rule s.past s.last (at x.time) (length rule)
        one = only_derived s (at x.time) is.derived shape is.derives

        before_past : now.past ≡ past_rows m rule is.derived x (at s.last.time) (length rule)
        before_past =
            only_past is.derived now.past x (at s.last.time)
            (subst (λ d. LooksBack rule m d (length rule)) (sym one)
            (derived_back rule ordered m (fits_each rule m fits) s.past s.last (at x.time) (length rule)))
            is.past

    -- the end
    pub only_end : (f : Form m) → End m rule (after m rule e es) f → f ≡ close m rule (after m rule e es)
    unfolding close
    only_end f is =
        let s : Known m = after m rule e es in
        is.remainder ∙ ap (put m s.remainder) (only_derived s none is.derived shape is.derives)
