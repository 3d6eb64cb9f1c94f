-- What until and since have in common: a test at some number of a range, and another at every number of a part.
-- Assumes nothing.
use mathlib.Core.Path.{◌≡◌, refl, sym, ap, ◌∙◌}
use mathlib.Core.Bool.{Bool, true, false, not, cond, ◌&&◌, ◌||◌, or_self, or-false, false≢true, and-eq-true_iff}
use mathlib.Core.Logic.{◌⊎◌, inl, inr}
use Prim.Native.Nat.{ℕ, zero, suc, ◌+◌, ◌-◌, ◌≤◌, ◌<◌}
use native.Mathlib.Omega.{arith}
use Rattle.ground.specs.Fold.{fold, some, every_in, some_in}
use Rattle.ground.proofs.Folds.{fold_through}
use Rattle.meaning.proofs.Ranges.{same_truth, every_in_all, every_in_at, every_in_cong, every_in_and}
use Rattle.meaning.proofs.Ranges.{some_in_at, some_in_cong, some_in_or}

-- truth values
absorbed : (x y : Bool) → (x ≡ true → y ≡ true) → (x && y) ≡ x
absorbed true y f = f refl
absorbed false y f = refl

not_or : (x y : Bool) → not (x || y) ≡ (not x && not y)
not_or true y = refl
not_or false y = refl

spread : (x y z w : Bool) → (x && ((y || z) && w)) ≡ (x && (y && w) || x && (z && w))
spread true true true w = sym (or_self w)
spread true true false w = sym (or-false w)
spread true false z w = refl
spread false y z w = refl

denied : (x y w : Bool) → w ≡ true → not (x && (not y && w)) ≡ cond x y true
denied true true w e = refl
denied true false w e = ap not e
denied false y w e = refl

-- a number from a on below b at which a test passes
pub record Found (a b : ℕ) (g : ℕ → Bool) : Type 0 where
  pub place : ℕ
  pub reached : a ≤ place
  pub below : place < b
  pub passes : g place ≡ true

some_found : (n : ℕ) (g : ℕ → Bool) → some n g ≡ true → Found 0 n g
unfolding fold
some_found zero g e = absurd (false≢true e)
some_found (suc n) g e = go (g n) refl (some_found n g)
  where
    go : (x : Bool) → g n ≡ x → (some n g ≡ true → Found 0 n g) → Found 0 (suc n) g
    go true q r = record { place = n; reached = omega arith; below = omega arith; passes = q }
    go false q r =
        let f : Found 0 n g = r (sym (or-false (some n g)) ∙ ap (λ x. some n g || x) (sym q) ∙ e) in
        record { place = f.place; reached = f.reached; below = omega arith; passes = f.passes }

module _ (a b : ℕ) (g : ℕ → Bool) where
  pub some_in_found : some_in a b g ≡ true → Found a b g
  unfolding some_in
  some_in_found e =
      let f : Found 0 (b - a) (λ i. g (a + i)) = some_found (b - a) (λ i. g (a + i)) e in
      record { place = a + f.place; reached = omega arith; below = omega arith; passes = f.passes }

  pub not_some_in : not (some_in a b g) ≡ every_in a b (λ i. not (g i))
  unfolding some_in every_in
  not_some_in = fold_through not ◌||◌ false ◌&&◌ true refl not_or (b - a) (λ i. g (a + i))

  pub every_in_part : (c d : ℕ) → a ≤ c → d ≤ b → every_in a b g ≡ true → every_in c d g ≡ true
  every_in_part c d h k e = every_in_all c d g (λ i l m. every_in_at a b g e i (omega arith) (omega arith))

-- right at some j that passes the test, and left at every number from low j on below high j
module _ (from to : ℕ) (low high : ℕ → ℕ) where
  abbrev pub waits : (test left right : ℕ → Bool) → Bool
  waits test left right = some_in from to (λ j. test j && (right j && every_in (low j) (high j) left))

  pub record Wait (test left right : ℕ → Bool) : Type 0 where
    pub end : ℕ
    pub reached : from ≤ end
    pub below : end < to
    pub tested : test end ≡ true
    pub ended : right end ≡ true
    pub kept : every_in (low end) (high end) left ≡ true

  pub waits_found : (test left right : ℕ → Bool) → waits test left right ≡ true → Wait test left right
  waits_found test left right e =
      let f : Found from to (λ j. test j && (right j && every_in (low j) (high j) left)) = some_in_found from to _ e in
      let t = (and-eq-true_iff (test f.place) _).0 f.passes in
      let r = (and-eq-true_iff (right f.place) _).0 t.1 in
      record { end = f.place; reached = f.reached; below = f.below; tested = t.0; ended = r.0; kept = r.1 }

  pub waits_made : (test left right : ℕ → Bool) (j : ℕ) → from ≤ j → j < to → test j ≡ true → right j ≡ true
      → every_in (low j) (high j) left ≡ true → waits test left right ≡ true
  waits_made test left right j h k p q r =
      some_in_at from to _ j h k ((and-eq-true_iff (test j) _).1 (p, (and-eq-true_iff (right j) _).1 (q, r)))

  pub waits_within : (test other left right : ℕ → Bool) → ((j : ℕ) → test j ≡ true → other j ≡ true)
      → (waits test left right && waits other left right) ≡ waits test left right
  waits_within test other left right p =
      absorbed (waits test left right) (waits other left right) (λ e. wider (waits_found test left right e))
    where
      wider : Wait test left right → waits other left right ≡ true
      wider w =
          waits_made other left right w.end w.reached w.below (p w.end w.tested) w.ended w.kept

  pub waits_or : (test left p q : ℕ → Bool)
      → waits test left (λ j. p j || q j) ≡ (waits test left p || waits test left q)
  waits_or test left p q =
      some_in_cong from to _ _ (λ j h k. spread (test j) (p j) (q j) (every_in (low j) (high j) left))
      ∙ some_in_or from to _ _

  pub waits_not : (test p : ℕ → Bool)
      → not (waits test (λ k. true) (λ j. not (p j))) ≡ every_in from to (λ j. cond (test j) (p j) true)
  waits_not test p =
      not_some_in from to _
      ∙ every_in_cong from to _ _
      (λ j h k. denied (test j) (p j) _ (every_in_all (low j) (high j) (λ i. true) (λ i l m. refl)))

  -- of two parts one lies in the other
  abbrev pub Part : ℕ → ℕ → Type 0
  Part j k = (low j ≤ low k) × (high k ≤ high j)

  pub waits_and : ((j k : ℕ) → Part j k ⊎ Part k j) → (test p q right : ℕ → Bool)
      → waits test (λ k. p k && q k) right ≡ (waits test p right && waits test q right)
  waits_and nested test p q right =
      same_truth (waits test (λ k. p k && q k) right) (waits test p right && waits test q right)
      (λ e. apart (waits_found test _ right e))
      (λ e. let h = (and-eq-true_iff (waits test p right) _).0 e in
      let v = waits_found test p right h.0 in let w = waits_found test q right h.1 in
      together v w (nested v.end w.end))
    where
      apart : Wait test (λ k. p k && q k) right → (waits test p right && waits test q right) ≡ true
      apart w =
          let j = w.end in
          let all = sym (every_in_and (low j) (high j) p q) ∙ w.kept in
          let h = (and-eq-true_iff (every_in (low j) (high j) p) _).0 all in
          (and-eq-true_iff (waits test p right) (waits test q right)).1 (
            waits_made test p right j w.reached w.below w.tested w.ended h.0,
            waits_made test q right j w.reached w.below w.tested w.ended h.1,
          )

      kept_part : (g : ℕ → Bool) (j k : ℕ) → Part j k → every_in (low j) (high j) g ≡ true
          → every_in (low k) (high k) g ≡ true
      kept_part g j k h e = every_in_part (low j) (high j) g (low k) (high k) h.0 h.1 e

      kept_both : (j : ℕ) → every_in (low j) (high j) p ≡ true → every_in (low j) (high j) q ≡ true
          → every_in (low j) (high j) (λ k. p k && q k) ≡ true
      kept_both j h k = every_in_and (low j) (high j) p q ∙ (and-eq-true_iff (every_in (low j) (high j) p) _).1 (h, k)

      together : (v : Wait test p right) (w : Wait test q right) → Part v.end w.end ⊎ Part w.end v.end
          → waits test (λ k. p k && q k) right ≡ true
      together v w (inl h) =
          waits_made test (λ k. p k && q k) right w.end w.reached w.below w.tested w.ended
          (kept_both w.end (kept_part p v.end w.end h v.kept) w.kept)
      together v w (inr h) =
          waits_made test (λ k. p k && q k) right v.end v.reached v.below v.tested v.ended
          (kept_both v.end v.kept (kept_part q w.end v.end h w.kept))
