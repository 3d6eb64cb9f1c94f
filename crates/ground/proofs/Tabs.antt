-- Laws of tables, and of loops that fill a list from the front.
-- Assumes nothing.
use mathlib.Core.Path.{◌≡◌, refl, sym, ap, ap₂, ◌∙◌, subst}
use mathlib.Core.Logic.{◌⊎◌, inl, inr, ⊎_elim}
use mathlib.Core.List.{List, [], ◌∷◌, ◌++◌}
use Prim.Native.Nat.{ℕ, zero, suc, ◌+◌, ◌-◌, ◌≤◌, ◌<◌}
use native.Mathlib.Numerals.{add-one}
use native.Mathlib.Omega.{arith}
use native.Mathlib.Nat.{eq-or-lt_of_le}
use Rattle.std.specs.Array.{IsFromFnResultFrom, IsFromFnResult}
use Rattle.std.specs.Fn.{Mut, Called}
use lib.ListN.{length, get_or, set, take, drop, length-append, get_or-append, get_or-eq_default}
use Rattle.std.proofs.lemmas.List.{length-take-le, length-drop, get_or-take, get_or-drop, get_or-append_right}
use lib.Seq.{ext_get_or, get_or_at, get_or-set_same, get_or-set_other}
use Rattle.ground.specs.Fold.{tab}
use Rattle.ground.proofs.Folds.{last_or_less}

module _ {A : Type 0} where
  pub length_tab : (n : ℕ) (g : ℕ → A) → length (tab n g) ≡ n
  unfolding tab
  length_tab zero g = refl
  length_tab (suc n) g = length-append (tab n g) (g n ∷ []) ∙ ap (λ k. k + 1) (length_tab n g) ∙ add-one n

  pub get_d_tab : (n : ℕ) (g : ℕ → A) (i : ℕ) (d : A) → i < n → get_or (tab n g) i d ≡ g i
  unfolding tab
  get_d_tab zero g i d h = let z : ⊥ = omega arith in absurd z
  get_d_tab (suc n) g i d h =
      ⊎_elim (λ e. rw e (get_or_at (tab n g) (g n) [] d n (length_tab n g)))
      (λ l.
      get_or-append (tab n g) (g n ∷ []) d i (subst (λ k. i < k) (sym (length_tab n g)) l) ∙ get_d_tab n g i d l)
      (last_or_less h)

  -- past its end
  pub get_d_tab_out : (n : ℕ) (g : ℕ → A) (i : ℕ) (d : A) → n ≤ i → get_or (tab n g) i d ≡ d
  get_d_tab_out n g i d h = get_or-eq_default (tab n g) d (subst (λ k. k ≤ i) (sym (length_tab n g)) h)

  -- a list is the table of its elements
  pub tab_is : (n : ℕ) (g : ℕ → A) (r : List A) (d : A) → length r ≡ n → ((i : ℕ) → i < n → get_or r i d ≡ g i)
      → r ≡ tab n g
  tab_is n g r d l p =
      ext_get_or d r (tab n g) (l ∙ sym (length_tab n g))
      (λ i h. let k : i < n = subst (λ x. i < x) l h in p i k ∙ sym (get_d_tab n g i d k))

  pub tab_cong : (n : ℕ) (g h : ℕ → A) → ((i : ℕ) → i < n → g i ≡ h i) → tab n g ≡ tab n h
  unfolding tab
  tab_cong zero g h p = refl
  tab_cong (suc n) g h p = ap₂ (λ l x. l ++ (x ∷ [])) (tab_cong n g h (λ i l. p i (omega arith))) (p n (omega arith))

  -- one turn of a loop that fills: what stood below i stands below i + 1
  pub filled_more : (r : List A) (i : ℕ) (x d : A) (g : ℕ → A) → i < length r → x ≡ g i
      → ((j : ℕ) → j < i → get_or r j d ≡ g j) → (j : ℕ) → j < i + 1 → get_or (set r i x) j d ≡ g j
  filled_more r i x d g h e p j l =
      ⊎_elim (λ q. ap (λ k. get_or (set r i x) k d) q ∙ get_or-set_same r i x d h ∙ e ∙ ap g (sym q))
      (λ k. get_or-set_other r i j x d (λ q. let z : ⊥ = omega arith in z) ∙ p j k)
      (last_or_less (subst (λ k. j < k) (add-one i) l))

-- what an array is filled with by a closure that stays as it is: P of each place and its element
module _ {F A : Type 0} {g : Mut F (ℕ × Unit {0}) A} {f : F} (P : ℕ → A → Type 0)
    (turn : (i : ℕ) (x : A) (f' : F) → Called g f (i, tt) x f' → (f' ≡ f) × P i x) where
  filled_from : (xs : List A) (i n : ℕ) → IsFromFnResultFrom g f xs i n → (k : ℕ) (d : A) → i ≤ k → k < i + n
      → P k (get_or xs k d)
  filled_from xs i zero e k d h l = let z : ⊥ = omega arith in absurd z
  filled_from xs i (suc n) e k d h l =
      let now = turn i e.1 e.0 e.3 in
      ⊎_elim (λ q. subst (λ j. P j (get_or xs j d)) q (subst (P i) (sym (e.2.1 d)) now.1))
      (λ u.
      filled_from xs (i + 1) n (subst (λ s. IsFromFnResultFrom g s xs (i + 1) n) now.0 e.4) k d (omega arith)
      (omega arith))
      (eq-or-lt_of_le h)

  pub filled_each : {xs : List A} {n : ℕ} → IsFromFnResult g f xs n → (k : ℕ) (d : A) → k < n → P k (get_or xs k d)
  filled_each {xs} {n} e k d h = filled_from xs 0 n e.each k d (omega arith) (omega arith)

-- the elements from `from` on up to `to`, exchanged
abbrev pub parted : {A : Type 0} → (xs new : List A) (from to : ℕ) → List A
parted xs new from to = take from xs ++ (new ++ drop (to - from) (drop from xs))

module _ {A : Type 0} (xs new : List A) (from to : ℕ) (low : from ≤ to) (high : to ≤ length xs)
    (long : length new ≡ to - from) where
  front : length (take from xs) ≡ from
  front = length-take-le from xs (omega arith)

  pub length_parted : length (parted xs new from to) ≡ length xs
  length_parted =
      omega (
        arith,
        front,
        long,
        length-append (take from xs) (new ++ drop (to - from) (drop from xs)),
        length-append new (drop (to - from) (drop from xs)),
        length-drop (to - from) (drop from xs),
        length-drop from xs,
      )

  pub parted_new : (k : ℕ) (d : A) → from ≤ k → k < to → get_or (parted xs new from to) k d ≡ get_or new (k - from) d
  parted_new k d h l =
      get_or-append_right (take from xs) (new ++ drop (to - from) (drop from xs)) from k d front h
      ∙ get_or-append new (drop (to - from) (drop from xs)) d (k - from) (omega arith)

  pub parted_old : (k : ℕ) (d : A) → (k < from) ⊎ (to ≤ k) → get_or (parted xs new from to) k d ≡ get_or xs k d
  parted_old k d (inl h) =
      get_or-append (take from xs) (new ++ drop (to - from) (drop from xs)) d k (omega (arith, front))
      ∙ get_or-take from xs k d h
  parted_old k d (inr h) =
      let e : from + (to - from + (k - from - (to - from))) ≡ k = omega arith in
      get_or-append_right (take from xs) (new ++ drop (to - from) (drop from xs)) from k d front (omega arith)
      ∙ get_or-append_right new (drop (to - from) (drop from xs)) (to - from) (k - from) d long (omega arith)
      ∙ get_or-drop (to - from) (drop from xs) (k - from - (to - from)) d
      ∙ get_or-drop from xs (to - from + (k - from - (to - from))) d
      ∙ ap (λ j. get_or xs j d) e
