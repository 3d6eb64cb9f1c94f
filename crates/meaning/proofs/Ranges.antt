-- Laws of a test at every number from a on below b, and at some of them.
-- Assumes nothing.
use mathlib.Core.Path.{◌≡◌, refl, sym, ap, ◌∙◌}
use mathlib.Core.Bool.{Bool, true, false, ◌&&◌, ◌||◌}
use mathlib.Core.Bool.{and-true, true-and, and-false, and_assoc, or-true, or-false, false-or, or_assoc}
use Prim.Native.Nat.{ℕ, suc, ◌+◌, ◌-◌, ◌≤◌, ◌<◌}
use native.Mathlib.Omega.{arith}
use Rattle.ground.specs.Fold.{fold, every_in, some_in}
use Rattle.ground.proofs.Folds.{fold_cong, fold_add, fold_both, every_all, every_at, some_none, some_at}

-- for any operation; every_in and some_in are two of these
module _ {A : Type 0} (op : A → A → A) (e : A) where
  abbrev fold_in : ℕ → ℕ → (ℕ → A) → A
  fold_in a b g = fold op e (b - a) (λ i. g (a + i))

  fold_in_none : (a b : ℕ) (g : ℕ → A) → b ≤ a → fold_in a b g ≡ e
  unfolding fold
  fold_in_none a b g h = let q : b - a ≡ 0 = omega arith in ap (λ n. fold op e n (λ i. g (a + i))) q

  fold_in_cong : (a b : ℕ) (g h : ℕ → A) → ((i : ℕ) → a ≤ i → i < b → g i ≡ h i) → fold_in a b g ≡ fold_in a b h
  fold_in_cong a b g h p =
      fold_cong op e (b - a) (λ i. g (a + i)) (λ i. h (a + i)) (λ i l. p (a + i) (omega arith) (omega arith))

  fold_in_last : (a b : ℕ) (g : ℕ → A) → a ≤ b → fold_in a (suc b) g ≡ op (fold_in a b g) (g b)
  unfolding fold
  fold_in_last a b g h =
      let q : suc b - a ≡ suc (b - a) = omega arith in
      let r : a + (b - a) ≡ b = omega arith in
      ap (λ n. fold op e n (λ i. g (a + i))) q ∙ ap (λ n. op (fold op e (b - a) (λ i. g (a + i))) (g n)) r

  module _ (right : (x : A) → op x e ≡ x) (left : (x : A) → op e x ≡ x)
      (assoc : (x y z : A) → op (op x y) z ≡ op x (op y z)) where
    -- in two parts, cut at m
    fold_in_cut : (a m b : ℕ) (g : ℕ → A) → a ≤ m → m ≤ b → fold_in a b g ≡ op (fold_in a m g) (fold_in m b g)
    fold_in_cut a m b g h k =
        let q : b - a ≡ (m - a) + (b - m) = omega arith in
        ap (λ n. fold op e n (λ i. g (a + i))) q
        ∙ fold_add op e right assoc (m - a) (b - m) (λ i. g (a + i))
        ∙ ap (op (fold_in a m g))
        (fold_cong op e (b - m) (λ i. g (a + (m - a + i))) (λ i. g (m + i))
        (λ i l. let r : a + (m - a + i) ≡ m + i = omega arith in ap g r))

    fold_in_first : (a b : ℕ) (g : ℕ → A) → a < b → fold_in a b g ≡ op (g a) (fold_in (suc a) b g)
    fold_in_first a b g h =
        fold_in_cut a (suc a) b g (omega arith) h
        ∙ ap (λ x. op x (fold_in (suc a) b g))
        (fold_in_last a a g (omega arith) ∙ ap (λ x. op x (g a)) (fold_in_none a a g (omega arith)) ∙ left (g a))

-- two truth values that are true together are equal
pub same_truth : (x y : Bool) → (x ≡ true → y ≡ true) → (y ≡ true → x ≡ true) → x ≡ y
same_truth true y f g = sym (f refl)
same_truth false true f g = g refl
same_truth false false f g = refl

&&_mid : (a b c d : Bool) → (a && b && (c && d)) ≡ (a && c && (b && d))
&&_mid true true c d = refl
&&_mid true false c d = sym (and-false c)
&&_mid false b c d = refl

||_mid : (a b c d : Bool) → (a || b || (c || d)) ≡ (a || c || (b || d))
||_mid true b c d = refl
||_mid false true c d = sym (or-true c)
||_mid false false c d = refl

module _ (a b : ℕ) (g : ℕ → Bool) where
  -- no number is from a on below b
  pub every_in_none : b ≤ a → every_in a b g ≡ true
  unfolding every_in
  every_in_none h = fold_in_none ◌&&◌ true a b g h

  pub some_in_none : b ≤ a → some_in a b g ≡ false
  unfolding some_in
  some_in_none h = fold_in_none ◌||◌ false a b g h

  -- the first apart
  pub every_in_first : a < b → every_in a b g ≡ (g a && every_in (suc a) b g)
  unfolding every_in
  every_in_first h = fold_in_first ◌&&◌ true and-true true-and and_assoc a b g h

  pub some_in_first : a < b → some_in a b g ≡ (g a || some_in (suc a) b g)
  unfolding some_in
  some_in_first h = fold_in_first ◌||◌ false or-false false-or or_assoc a b g h

  -- the last apart
  pub every_in_last : a ≤ b → every_in a (suc b) g ≡ (every_in a b g && g b)
  unfolding every_in
  every_in_last h = fold_in_last ◌&&◌ true a b g h

  pub some_in_last : a ≤ b → some_in a (suc b) g ≡ (some_in a b g || g b)
  unfolding some_in
  some_in_last h = fold_in_last ◌||◌ false a b g h

  -- one number at which the test passes
  pub some_in_at : (i : ℕ) → a ≤ i → i < b → g i ≡ true → some_in a b g ≡ true
  unfolding some_in
  some_in_at i h k p =
      let q : a + (i - a) ≡ i = omega arith in
      some_at (b - a) (λ n. g (a + n)) (i - a) (omega arith) (ap g q ∙ p)

  -- the test passes at all numbers, or at none
  pub every_in_all : ((i : ℕ) → a ≤ i → i < b → g i ≡ true) → every_in a b g ≡ true
  unfolding every_in
  every_in_all p = every_all (b - a) (λ n. g (a + n)) (λ n l. p (a + n) (omega arith) (omega arith))

  pub some_in_never : ((i : ℕ) → a ≤ i → i < b → g i ≡ false) → some_in a b g ≡ false
  unfolding some_in
  some_in_never p = some_none (b - a) (λ n. g (a + n)) (λ n l. p (a + n) (omega arith) (omega arith))

  pub every_in_at : every_in a b g ≡ true → (i : ℕ) → a ≤ i → i < b → g i ≡ true
  unfolding every_in
  every_in_at p i h k =
      let q : i ≡ a + (i - a) = omega arith in
      ap g q ∙ every_at (b - a) (λ n. g (a + n)) p (i - a) (omega arith)

  -- another test
  module _ (h : ℕ → Bool) where
    pub every_in_cong : ((i : ℕ) → a ≤ i → i < b → g i ≡ h i) → every_in a b g ≡ every_in a b h
    unfolding every_in
    every_in_cong p = fold_in_cong ◌&&◌ true a b g h p

    pub some_in_cong : ((i : ℕ) → a ≤ i → i < b → g i ≡ h i) → some_in a b g ≡ some_in a b h
    unfolding some_in
    some_in_cong p = fold_in_cong ◌||◌ false a b g h p

    pub every_in_and : every_in a b (λ i. g i && h i) ≡ (every_in a b g && every_in a b h)
    unfolding every_in
    every_in_and = fold_both ◌&&◌ true and-true &&_mid (b - a) (λ i. g (a + i)) (λ i. h (a + i))

    pub some_in_or : some_in a b (λ i. g i || h i) ≡ (some_in a b g || some_in a b h)
    unfolding some_in
    some_in_or = fold_both ◌||◌ false or-false ||_mid (b - a) (λ i. g (a + i)) (λ i. h (a + i))

-- a factor that all share goes out
pub some_in_factor : (a b : ℕ) (x : Bool) (g : ℕ → Bool) → some_in a b (λ j. x && g j) ≡ (x && some_in a b g)
some_in_factor a b true g = refl
some_in_factor a b false g = some_in_never a b (λ j. false) (λ i h l. refl)
