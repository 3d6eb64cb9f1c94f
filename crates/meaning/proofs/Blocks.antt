-- Tables that are filled record by record: where a row stands, and a fact of every row.
-- Assumes nothing.
use mathlib.Core.Path.{◌≡◌, refl, sym, ap, ◌∙◌, subst}
use mathlib.Core.Bool.{true}
use mathlib.Core.List.{List, [], ◌∷◌, ◌++◌}
use Prim.Native.Nat.{ℕ, zero, suc, ◌+◌, ◌-◌, ◌≤◌, ◌<◌}
use native.Mathlib.Nat.{add-zero, le_refl}
use native.Mathlib.Decide.{dec_lt, le_ind}
use native.Mathlib.Omega.{arith}
use lib.ListN.{length, get_or, length-append, get_or-append, get_or-eq_default}
use lib.Seq.{get_or-append-add}
use Rattle.ground.specs.Fold.{tab}
use Rattle.ground.proofs.Tabs.{length_tab, get_d_tab}
use Rattle.forms.specs.Form.{Form}
use Rattle.meaning.specs.Rule.{Node, fixed, node_at, count, first_of, parameters, shifted_node, Entry}
use Rattle.meaning.specs.Meaning.{meaning, values, parameter_values}
use Rattle.meaning.specs.Rewriting.{Neighbour, form_of, forms_of, derived_row, derived_rows, past_row, past_rows}
use Rattle.meaning.specs.Shape.{Place}

module _ {A : Type 0} where
  -- what stands in a list still stands there with more after it
  pub block_low : (xs ys : List A) (o p : ℕ) (d : A) → length xs ≡ o → p < o → get_or (xs ++ ys) p d ≡ get_or xs p d
  block_low xs ys o p d e h = get_or-append xs ys d p (omega arith)

  -- a list with one element more
  pub length_one : (xs : List A) (y : A) (o : ℕ) → length xs ≡ o → length (xs ++ (y ∷ [])) ≡ suc o
  length_one xs y o e = length-append xs (y ∷ []) ∙ omega arith

  pub one_new : (xs : List A) (y : A) (o : ℕ) (d : A) → length xs ≡ o → get_or (xs ++ (y ∷ [])) o d ≡ y
  one_new xs y o d e =
      ap (λ q. get_or (xs ++ (y ∷ [])) q d) (sym e ∙ sym (add-zero (length xs))) ∙ get_or-append-add xs (y ∷ []) 0 d

  -- a list with a block more
  pub length_block : (xs : List A) (f : ℕ → A) (c o : ℕ) → length xs ≡ o → length (xs ++ tab c f) ≡ o + c
  length_block xs f c o e = length-append xs (tab c f) ∙ omega (arith, length_tab c f)

  pub block_new : (xs : List A) (f : ℕ → A) (c o n : ℕ) (d : A) → length xs ≡ o → n < c
      → get_or (xs ++ tab c f) (o + n) d ≡ f n
  block_new xs f c o n d e h =
      ap (λ q. get_or (xs ++ tab c f) (q + n) d) (sym e) ∙ get_or-append-add xs (tab c f) n d ∙ get_d_tab c f n d h

module _ (rule : List Node) where
  pub first_of_more : (k : ℕ) → first_of rule (suc k) ≡ first_of rule k + count (node_at rule k)
  unfolding first_of
  first_of_more k = refl

  pub first_of_mono : (k l : ℕ) → k ≤ l → first_of rule k ≤ first_of rule l
  first_of_mono k l h =
      le_ind (λ x. first_of rule k ≤ first_of rule x) (le_refl (first_of rule k))
      (λ x _ e. omega (arith, first_of_more x)) l h

  -- every parameter is below the rule's number of them
  pub first_of_fits : (k : ℕ) → first_of rule k ≤ parameters rule
  unfolding parameters node_at count
  first_of_fits k = go (dec_lt k (length rule))
    where
      none : (x : ℕ) → length rule ≤ x → count (node_at rule x) ≡ 0
      none x h = ap count (get_or-eq_default rule (fixed true) h)

      go : Dec (k < length rule) → first_of rule k ≤ first_of rule (length rule)
      go (yes h) = first_of_mono k (length rule) (omega arith)
      go (no h) =
          le_ind (λ x. first_of rule x ≤ first_of rule (length rule)) (le_refl (first_of rule (length rule)))
          (λ x l e. omega (arith, first_of_more x, none x l)) k (omega arith)

  -- the record and the shift of parameter q
  unfoldable pub place_grows : (k l q : ℕ) → k ≤ l → Place rule k q → Place rule l q
  place_grows k l q h p =
      record { node = p.node; shift = p.shift; before = omega (arith, p.before); less = p.less; here = p.here }

  pub place : (k q : ℕ) → q < first_of rule k → Place rule k q
  unfolding first_of
  place zero q h = let z : ⊥ = omega arith in absurd z
  place (suc k) q h = go (dec_lt q (first_of rule k)) (place k q)
    where
      go : Dec (q < first_of rule k) → (q < first_of rule k → Place rule k q) → Place rule (suc k) q
      go (yes l) r = place_grows k (suc k) q (omega arith) (r l)
      go (no l) r =
          record {
            node = k;
            shift = q - first_of rule k;
            before = omega arith;
            less = omega arith;
            here = omega arith;
          }

  -- a parameter has one record
  pub node_one : (j k i n : ℕ) → i < count (node_at rule j) → n < count (node_at rule k)
      → first_of rule j + i ≡ first_of rule k + n → j ≡ k
  node_one j k i n a b e = go (dec_lt j k) (dec_lt k j)
    where
      go : Dec (j < k) → Dec (k < j) → j ≡ k
      go (yes l) y = let z : ⊥ = omega (arith, first_of_mono (suc j) k l, first_of_more j) in absurd z
      go (no x) (yes l) = let z : ⊥ = omega (arith, first_of_mono (suc k) j l, first_of_more k) in absurd z
      go (no x) (no y) = omega arith

  -- P holds of the row of each shift n of each of the first K records
  module _ {A : Type 0} (none : A) (P : ℕ → ℕ → A → Type 0) where
    abbrev pub Rows : List A → ℕ → Type 0
    Rows rows K = (k n : ℕ) → k < K → n < count (node_at rule k) → P k n (get_or rows (first_of rule k + n) none)

    pub rows_none : Rows [] 0
    rows_none k n h c = let z : ⊥ = omega arith in absurd z

    pub rows_more : (rows : List A) (f : ℕ → A) (K : ℕ) → length rows ≡ first_of rule K → Rows rows K
        → ((n : ℕ) → n < count (node_at rule K) → P K n (f n)) → Rows (rows ++ tab (count (node_at rule K)) f) (suc K)
    rows_more rows f K e old new k n h c = go (dec_lt k K)
      where
        more : List A
        more = rows ++ tab (count (node_at rule K)) f

        top : (n : ℕ) → n < count (node_at rule K) → P K n (get_or more (first_of rule K + n) none)
        top n c = subst (P K n) (sym (block_new rows f (count (node_at rule K)) (first_of rule K) n none e c)) (new n c)

        go : Dec (k < K) → P k n (get_or more (first_of rule k + n) none)
        go (yes l) =
            subst (P k n)
            (sym (block_low rows (tab (count (node_at rule K)) f) (first_of rule K) (first_of rule k + n) none e
            (omega (arith, first_of_mono (suc k) K l, first_of_more k))))
            (old k n l c)
        go (no l) =
            let q : K ≡ k = omega arith in
            subst (λ x. (n : ℕ) → n < count (node_at rule x) → P x n (get_or more (first_of rule x + n) none)) q top n c

-- the lengths of the tables
pub length_values : (log : List Entry) (rule : List Node) (k : ℕ) → length (values log rule k) ≡ k
unfolding values
length_values log rule zero = refl
length_values log rule (suc k) =
    length_one (values log rule k) (meaning log (values log rule k) (node_at rule k)) k (length_values log rule k)

pub length_parameter_values : (log : List Entry) (rule : List Node) (k : ℕ)
    → length (parameter_values log rule k) ≡ first_of rule k
unfolding parameter_values first_of
length_parameter_values log rule zero = refl
length_parameter_values log rule (suc k) =
    length_block (parameter_values log rule k) (λ n. meaning log (values log rule k) (shifted_node (node_at rule k) n))
    (count (node_at rule k)) (first_of rule k) (length_parameter_values log rule k)

pub length_forms_of : (m : ℕ) (rule : List Node) (k : ℕ) → length (forms_of m rule k) ≡ k
unfolding forms_of
length_forms_of m rule zero = refl
length_forms_of m rule (suc k) =
    length_one (forms_of m rule k) (form_of m (forms_of m rule k) (first_of rule k) (node_at rule k)) k
    (length_forms_of m rule k)

pub length_derived_rows : (m : ℕ) (rule : List Node) (past : List (Form m)) (e : Entry) (later : Neighbour) (k : ℕ)
    → length (derived_rows m rule past e later k) ≡ first_of rule k
unfolding derived_rows first_of
length_derived_rows m rule past e later zero = refl
length_derived_rows m rule past e later (suc k) =
    let derived = derived_rows m rule past e later k in
    length_block derived (derived_row m past (forms_of m rule k) derived e later (first_of rule k) (node_at rule k))
    (count (node_at rule k)) (first_of rule k) (length_derived_rows m rule past e later k)

pub length_past_rows : (m : ℕ) (rule : List Node) (derived : List (Form m)) (e : Entry) (before : Neighbour) (k : ℕ)
    → length (past_rows m rule derived e before k) ≡ first_of rule k
unfolding past_rows first_of
length_past_rows m rule derived e before zero = refl
length_past_rows m rule derived e before (suc k) =
    let past = past_rows m rule derived e before k in
    length_block past (past_row m (forms_of m rule k) derived past e before (first_of rule k) (node_at rule k))
    (count (node_at rule k)) (first_of rule k) (length_past_rows m rule derived e before k)
