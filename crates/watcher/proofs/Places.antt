-- What a search finds: the first place where its test holds, and nothing exactly where there is none.
-- Assumes nothing.
use Rattle.std.specs.Option.{option_or, MatchOption}
use Rattle.std.proofs.Common.{Option, Some, None, is_some}
use Rattle.std.specs.List.{find, range_with_len}
use mathlib.Core.Path.{◌≡◌, refl, sym, ap, ◌∙◌, subst}
use mathlib.Core.Bool.{Bool, true, false, ◌||◌, cond, true≢false}
use mathlib.Core.Logic.{◌↔◌, ⊎_elim}
use Prim.Native.Nat.{ℕ, zero, suc, ◌+◌, ◌≤◌, ◌<◌}
use native.Mathlib.Nat.{eq-or-lt_of_le}
use native.Mathlib.Omega.{arith}
use Rattle.ground.specs.Fold.{fold, some}
use Rattle.ground.proofs.Folds.{last_or_less, fold_none, fold_cong, fold_through, some_none, none_at}
use Rattle.watcher.specs.declared.state.Place.{Place}
use Rattle.watcher.specs.Places.{at, first_where, Clear, First}

-- what is not found is nowhere, and what is found is not
pub not_found : (p : Option Place) → is_some p ≡ false → p ≡ None
not_found None e = refl
not_found (Some p) e = absurd (true≢false e)

somewhere : (p : Place) → None ≡ Some p → ⊥
somewhere p e = true≢false (sym (ap is_some e))

found_either : (p q : Option Place) → is_some (option_or p q) ≡ (is_some p || is_some q)
found_either None q = refl
found_either (Some p) q = refl

-- what a search of the m numbers from a on finds: the first that passes the test
abbrev Finds : (test : ℕ → Bool) (a m : ℕ) → Option ℕ → Type 0
Finds test a m r =
    MatchOption r ((j : ℕ) → a ≤ j → j < a + m → test j ≡ false)
    (λ i. (a ≤ i) × (i < a + m) × (test i ≡ true) × ((j : ℕ) → a ≤ j → j < i → test j ≡ false))

from_next : (test : ℕ → Bool) (a : ℕ) → test a ≡ false → (j : ℕ) → a ≤ j → (a + 1 ≤ j → test j ≡ false)
    → test j ≡ false
from_next test a e j l h = ⊎_elim (λ q. ap test (sym q) ∙ e) (λ n. h (omega (arith, n))) (eq-or-lt_of_le l)

finds_more : (test : ℕ → Bool) (a m : ℕ) (b : Bool) (r : Option ℕ) → test a ≡ b → Finds test (a + 1) m r
    → Finds test a (suc m) (cond b (Some a) r)
finds_more test a m true r e h =
    (omega arith, omega arith, e, λ j l k. let z : ⊥ = omega arith in absurd z)
finds_more test a m false None e h = λ j l k. from_next test a e j l (λ n. h j n (omega arith))
finds_more test a m false (Some i) e h = (
  omega (arith, h.0),
  omega (arith, h.1),
  h.2,
  λ j l k. from_next test a e j l (λ n. h.3 j n k),
)

finds_from : (test : ℕ → Bool) (m a : ℕ) → Finds test a m (find test (range_with_len a m))
finds_from test zero a = λ j l k. let z : ⊥ = omega arith in absurd z
finds_from test (suc m) a = finds_more test a m (test a) _ refl (finds_from test m (a + 1))

-- places joined from-- places joined from the first on
module _ (g : ℕ → Option Place) where
  abbrev joined : ℕ → Option Place
  joined n = fold option_or None n g

  joined_found : (n : ℕ) → is_some (joined n) ≡ some n (λ i. is_some (g i))
  joined_found n = fold_through is_some option_or None ◌||◌ false refl found_either n g

  joined_none : (n : ℕ) → joined n ≡ None → (i : ℕ) → i < n → g i ≡ None
  joined_none n e i h =
      not_found (g i) (none_at n (λ k. is_some (g k)) (sym (joined_found n) ∙ ap is_some e) i h)

  joined_first : (n i a b : ℕ) → i < n → ((k : ℕ) → k < i → g k ≡ None) → g i ≡ at a b → joined n ≡ at a b
  unfolding fold
  joined_first zero i a b h before e = let z : ⊥ = omega arith in absurd z
  joined_first (suc n) i a b h before e =
      ⊎_elim
      (λ q.
      ap (λ p. option_or p (g n)) (fold_none option_or None refl n g (λ k l. before k (omega arith)))
      ∙ ap g (sym q) ∙ e)
      (λ l. ap (λ p. option_or p (g n)) (joined_first n i a b l before e)) (last_or_less h)

  abbrev Comes : (n a b : ℕ) → Type 0
  Comes n a b = (i : ℕ) × (i < n) × (g i ≡ at a b) × ((k : ℕ) → k < i → g k ≡ None)

  joined_at : (n a b : ℕ) → joined n ≡ at a b → Comes n a b
  unfolding fold
  joined_at zero a b e = absurd (somewhere _ e)
  joined_at (suc n) a b e = go (joined n) refl (joined_at n a b) e
    where
      go : (p : Option Place) → joined n ≡ p → (joined n ≡ at a b → Comes n a b) → option_or p (g n) ≡ at a b
          → Comes (suc n) a b
      go None q before e = (n, omega arith, e, joined_none n q)
      go (Some p) q before e = let c = before (q ∙ e) in (c.0, omega (arith, c.1), c.2, c.3)

-- one place of the search
module _ (i j : ℕ) where
  cell_found : (t : Bool) → is_some (cond t (at i j) None) ≡ t
  cell_found true = refl
  cell_found false = refl

  cell_at : (t : Bool) (a b : ℕ) → cond t (at i j) None ≡ at a b → (t ≡ true) × (at i j ≡ at a b)
  cell_at true a b e = (refl, e)
  cell_at false a b e = absurd (somewhere _ e)

module _ (n : ℕ) (bound : ℕ → ℕ) (test : ℕ → ℕ → Bool) where
  abbrev cell : ℕ → ℕ → Option Place
  cell i j = cond (test i j) (at i j) None

  row_some : (i m : ℕ) → is_some (joined (cell i) m) ≡ some m (test i)
  row_some i m = joined_found (cell i) m ∙ fold_cong ◌||◌ false m _ (test i) (λ j h. cell_found i j (test i j))

  pub where_some : is_some (first_where n bound test) ≡ some n (λ i. some (bound i) (test i))
  unfolding first_where
  where_some = joined_found _ n ∙ fold_cong ◌||◌ false n _ _ (λ i h. row_some i (bound i))

  -- nothing is found exactly where no place passes the test
  pub where_none : (first_where n bound test ≡ None) ↔ Clear bound test n
  where_none = (
    λ e i h j l. none_at (bound i) (test i) (none_at n _ (sym where_some ∙ ap is_some e) i h) j l,
    λ clear. not_found _ (where_some ∙ some_none n _ (λ i h. some_none (bound i) (test i) (clear i h))),
  )

  -- what is found is the first
  row_none : (i m : ℕ) → joined (cell i) m ≡ None → (j : ℕ) → j < m → test i j ≡ false
  row_none i m e = none_at m (test i) (sym (row_some i m) ∙ ap is_some e)

  none_row : (i m : ℕ) → ((j : ℕ) → j < m → test i j ≡ false) → joined (cell i) m ≡ None
  none_row i m f = not_found _ (row_some i m ∙ some_none m (test i) f)

  at_first : (i j : ℕ) → First n bound test i j → first_where n bound test ≡ at i j
  unfolding first_where
  at_first i j f =
      joined_first _ n i i j f.inside.0 (λ k h. none_row k (bound k) (f.clear k h))
      (joined_first (cell i) (bound i) j i j f.inside.1
      (λ b l. ap (λ t. cond t (at i b) None) (f.lower b l)) (ap (λ t. cond t (at i j) None) f.holds))

  abbrev Firstat : Option Place → Type 0
  Firstat None = ⊥
  Firstat (Some p) = First n bound test p.record p.second

  first_at : (i j : ℕ) → first_where n bound test ≡ at i j → First n bound test i j
  unfolding first_where
  first_at i j e =
      let outer = joined_at _ n i j e in
      let inner = joined_at (cell outer.0) (bound outer.0) i j outer.2 in
      let here = cell_at outer.0 inner.0 _ i j inner.2 in
      subst Firstat here.1
      (record {
        inside = (outer.1, inner.1);
        holds = here.0;
        clear = λ a h. row_none a (bound a) (outer.3 a h);
        lower = λ b l. sym (cell_found outer.0 b _) ∙ ap is_some (inner.3 b l);
      })

  pub where_at : (i j : ℕ) → (first_where n bound test ≡ at i j) ↔ First n bound test i j
  where_at i j = (first_at i j, at_first i j)

  -- a search record by record: what is found in a record, and nothing before it, is the first; or it goes on
  pub found : (i j : ℕ) → i < n → Clear bound test i → Some j ≡ find (test i) (range_with_len 0 (bound i))
      → at i j ≡ first_where n bound test
  found i j l clear e =
      let here = subst (Finds (test i) 0 (bound i)) (sym e) (finds_from (test i) (bound i) 0) in
      sym
      (at_first i j
      (record {
        inside = (l, omega (arith, here.1));
        holds = here.2;
        clear = clear;
        lower = λ b k. here.3 b (omega arith) k;
      }))

  pub found_nothing : Clear bound test n → None ≡ find (test n) (range_with_len 0 (bound n)) → Clear bound test (n + 1)
  found_nothing clear e i h j k =
      let here = subst (Finds (test n) 0 (bound n)) (sym e) (finds_from (test n) (bound n) 0) in
      let l : i < suc n = omega (arith, h) in
      ⊎_elim
      (λ q. subst (λ a. j < bound a → test a j ≡ false) (sym q) (λ b. here j (omega arith) (omega (arith, b))) k)
      (λ b. clear i b j k) (last_or_less l)
