-- Laws of a fold over the numbers below n, for any operation.
-- Assumes nothing.
use mathlib.Core.Path.{◌≡◌, refl, sym, ap, ap₂, ◌∙◌}
use mathlib.Core.Bool.{Bool, true, false, ◌&&◌, ◌||◌, and-false, or-true, true≢false}
use mathlib.Core.Logic.{◌⊎◌, inl, inr, ⊎_elim, ◌≢◌}
use Prim.Native.Nat.{ℕ, zero, suc, ◌+◌, ◌^◌, ◌≤◌, ◌<◌}
use native.Mathlib.Nat.{add-zero, add-suc, eq-or-lt_of_le, le_of_suc-le-suc, two-pow-succ}
use native.Mathlib.Decide.{dec_lt}
use native.Mathlib.Omega.{arith}
use Rattle.ground.specs.Fold.{◌⊕◌, fold, every, some, parity}
use Rattle.ground.proofs.Xor.{⊕_false, ⊕_assoc, ⊕_comm, &&_⊕}

-- of i below n + 1, i is n or below n
pub last_or_less : {i n : ℕ} → i < suc n → (i ≡ n) ⊎ (i < n)
last_or_less h = eq-or-lt_of_le (le_of_suc-le-suc h)

-- i is below n, or not
pub less_or_not : (i n : ℕ) → (i < n) ⊎ (n ≤ i)
less_or_not i n = go (dec_lt i n)
  where
    go : Dec (i < n) → (i < n) ⊎ (n ≤ i)
    go (yes l) = inl l
    go (no l) = inr (omega arith)

module _ {A : Type 0} (op : A → A → A) (e : A) where
  pub fold_cong : (n : ℕ) (g h : ℕ → A) → ((i : ℕ) → i < n → g i ≡ h i) → fold op e n g ≡ fold op e n h
  unfolding fold
  fold_cong zero g h p = refl
  fold_cong (suc n) g h p = ap₂ op (fold_cong n g h (λ i l. p i (omega arith))) (p n (omega arith))

  -- joined by the unit alone
  pub fold_none : op e e ≡ e → (n : ℕ) (g : ℕ → A) → ((i : ℕ) → i < n → g i ≡ e) → fold op e n g ≡ e
  unfolding fold
  fold_none u zero g p = refl
  fold_none u (suc n) g p = ap₂ op (fold_none u n g (λ i l. p i (omega arith))) (p n (omega arith)) ∙ u

  -- a zero anywhere makes all zero
  pub fold_zero : (z : A) → ((x : A) → op x z ≡ z) → ((x : A) → op z x ≡ z) → (n : ℕ) (g : ℕ → A) (i : ℕ) → i < n
      → g i ≡ z → fold op e n g ≡ z
  unfolding fold
  fold_zero z r l zero g i h p = let y : ⊥ = omega arith in absurd y
  fold_zero z r l (suc n) g i h p =
      ⊎_elim (λ q. ap (op (fold op e n g)) (ap g (sym q) ∙ p) ∙ r (fold op e n g))
      (λ k. ap (λ x. op x (g n)) (fold_zero z r l n g i k p) ∙ l (g n)) (last_or_less h)

  module _ (unit : (x : A) → op x e ≡ x) where
    -- what only adds the unit may be left out
    pub fold_skip : (n : ℕ) (g : ℕ → A) (k : ℕ) → k ≤ n → ((i : ℕ) → k ≤ i → i < n → g i ≡ e)
        → fold op e n g ≡ fold op e k g
    unfolding fold
    fold_skip zero g k h p = let q : k ≡ 0 = omega arith in ap (λ x. fold op e x g) (sym q)
    fold_skip (suc n) g k h p =
        ⊎_elim (λ l. let q : suc n ≡ k = omega arith in ap (λ x. fold op e x g) q)
        (λ l.
        ap (op (fold op e n g)) (p n l (omega arith)) ∙ unit (fold op e n g)
        ∙ fold_skip n g k l (λ i a b. p i a (omega arith)))
        (less_or_not n k)

    pub fold_add : ((x y z : A) → op (op x y) z ≡ op x (op y z)) → (a b : ℕ) (g : ℕ → A)
        → fold op e (a + b) g ≡ op (fold op e a g) (fold op e b (λ i. g (a + i)))
    unfolding fold
    fold_add assoc a zero g = ap (λ x. fold op e x g) (add-zero a) ∙ sym (unit (fold op e a g))
    fold_add assoc a (suc b) g =
        ap (λ x. fold op e x g) (add-suc a b)
        ∙ ap (λ x. op x (g (a + b))) (fold_add assoc a b g)
        ∙ assoc (fold op e a g) (fold op e b (λ i. g (a + i))) (g (a + b))

    -- term by term, and one fold in another
    module _ (mid : (a b c d : A) → op (op a b) (op c d) ≡ op (op a c) (op b d)) where
      pub fold_both : (n : ℕ) (g h : ℕ → A) → fold op e n (λ i. op (g i) (h i)) ≡ op (fold op e n g) (fold op e n h)
      unfolding fold
      fold_both zero g h = sym (unit e)
      fold_both (suc n) g h =
          ap (λ x. op x (op (g n) (h n))) (fold_both n g h) ∙ mid (fold op e n g) (fold op e n h) (g n) (h n)

      pub fold_swap : (n k : ℕ) (g : ℕ → ℕ → A)
          → fold op e n (λ i. fold op e k (g i)) ≡ fold op e k (λ j. fold op e n (λ i. g i j))
      unfolding fold
      fold_swap zero k g = sym (fold_none (unit e) k (λ j. e) (λ j h. refl))
      fold_swap (suc n) k g =
          ap (λ x. op x (fold op e k (g n))) (fold_swap n k g)
          ∙ sym (fold_both k (λ j. fold op e n (λ i. g i j)) (g n))

-- what goes through the operation goes through its fold
pub fold_through : {A B : Type 0} (φ : A → B) (op : A → A → A) (e : A) (op' : B → B → B) (e' : B) → φ e ≡ e'
    → ((x y : A) → φ (op x y) ≡ op' (φ x) (φ y)) → (n : ℕ) (g : ℕ → A)
    → φ (fold op e n g) ≡ fold op' e' n (λ i. φ (g i))
unfolding fold
fold_through φ op e op' e' u p zero g = u
fold_through φ op e op' e' u p (suc n) g =
    p (fold op e n g) (g n) ∙ ap (λ x. op' x (φ (g n))) (fold_through φ op e op' e' u p n g)

pub ⊕_mid : (a b c d : Bool) → a ⊕ b ⊕ (c ⊕ d) ≡ a ⊕ c ⊕ (b ⊕ d)
⊕_mid a b c d =
    ⊕_assoc a b (c ⊕ d) ∙ ap (λ x. a ⊕ x) (sym (⊕_assoc b c d) ∙ ap (λ x. x ⊕ d) (⊕_comm b c) ∙ ⊕_assoc c b d)
    ∙ sym (⊕_assoc a c (b ⊕ d))

-- parity: a factor goes in, a double sum turns round, 2 ^ (m + 1) numbers are two halves
pub parity_and : (x : Bool) (n : ℕ) (g : ℕ → Bool) → (x && parity n g) ≡ parity n (λ i. x && g i)
parity_and x n g = fold_through (λ y. x && y) ◌⊕◌ false ◌⊕◌ false (and-false x) (&&_⊕ x) n g

pub parity_swap : (n k : ℕ) (g : ℕ → ℕ → Bool)
    → parity n (λ i. parity k (g i)) ≡ parity k (λ j. parity n (λ i. g i j))
parity_swap n k g = fold_swap ◌⊕◌ false ⊕_false ⊕_mid n k g

pub parity_halves : (m : ℕ) (g : ℕ → Bool)
    → parity (2 ^ suc m) g ≡ parity (2 ^ m) g ⊕ parity (2 ^ m) (λ i. g (2 ^ m + i))
parity_halves m g = ap (λ n. parity n g) (two-pow-succ m) ∙ fold_add ◌⊕◌ false ⊕_false ⊕_assoc (2 ^ m) (2 ^ m) g

pub parity_cong : (n : ℕ) (g h : ℕ → Bool) → ((i : ℕ) → i < n → g i ≡ h i) → parity n g ≡ parity n h
parity_cong n g h p = fold_cong ◌⊕◌ false n g h p

-- tests
pub every_all : (n : ℕ) (g : ℕ → Bool) → ((i : ℕ) → i < n → g i ≡ true) → every n g ≡ true
every_all n g p = fold_none ◌&&◌ true refl n g p

pub every_not : (n : ℕ) (g : ℕ → Bool) (i : ℕ) → i < n → g i ≡ false → every n g ≡ false
every_not n g i h p = fold_zero ◌&&◌ true false and-false (λ x. refl) n g i h p

pub every_at : (n : ℕ) (g : ℕ → Bool) → every n g ≡ true → (i : ℕ) → i < n → g i ≡ true
every_at n g p i h = go (g i) refl
  where
    go : (b : Bool) → g i ≡ b → g i ≡ true
    go true q = q
    go false q = absurd (true≢false (sym p ∙ every_not n g i h q))

pub some_none : (n : ℕ) (g : ℕ → Bool) → ((i : ℕ) → i < n → g i ≡ false) → some n g ≡ false
some_none n g p = fold_none ◌||◌ false refl n g p

pub some_at : (n : ℕ) (g : ℕ → Bool) (i : ℕ) → i < n → g i ≡ true → some n g ≡ true
some_at n g i h p = fold_zero ◌||◌ false true or-true (λ x. refl) n g i h p

pub none_at : (n : ℕ) (g : ℕ → Bool) → some n g ≡ false → (i : ℕ) → i < n → g i ≡ false
none_at n g p i h = go (g i) refl
  where
    go : (b : Bool) → g i ≡ b → g i ≡ false
    go true q = absurd (true≢false (sym (some_at n g i h q) ∙ p))
    go false q = q

-- the one number at which a test is not false
pub parity_one : (n : ℕ) (g : ℕ → Bool) (i : ℕ) → i < n → ((j : ℕ) → j < n → j ≢ i → g j ≡ false) → parity n g ≡ g i
unfolding fold
parity_one zero g i h p = let z : ⊥ = omega arith in absurd z
parity_one (suc n) g i h p =
    ⊎_elim
    (λ q.
    ap₂ ◌⊕◌ (fold_none ◌⊕◌ false refl n g (λ j l. p j (omega arith) (λ r. let z : ⊥ = omega arith in z)))
    (ap g (sym q)))
    (λ l.
    ap₂ ◌⊕◌ (parity_one n g i l (λ j k r. p j (omega arith) r))
    (p n (omega arith) (λ r. let z : ⊥ = omega arith in z))
    ∙ ⊕_false (g i))
    (last_or_less h)
