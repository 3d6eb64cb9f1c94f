-- Ten laws by which a rule may be rewritten, at every record of every log; NotRewriteable says where each one ends.
-- Assumes nothing.
use mathlib.Core.Path.{◌≡◌, refl, sym, ap, ap₂, ◌∙◌}
use mathlib.Core.Bool.{Bool, true, false, not, cond, ◌&&◌, ◌||◌, and-true, and-false, or-false}
use mathlib.Core.Logic.{◌⊎◌, inl, inr}
use mathlib.Core.List.{List}
use Prim.Native.Nat.{ℕ, zero, suc, ◌+◌, ◌≤◌, ◌<◌}
use native.Mathlib.Decide.{dec_lt}
use native.Mathlib.Omega.{arith}
use lib.Dec.{leb, leb-zero, ltb}
use lib.ListN.{length}
use borrow.Author.Tests.{leb-true, le-leb, lt-leb, lt-ltb}
use Rattle.ground.specs.Fold.{◌⊕◌, every_in}
use Rattle.meaning.specs.Interval.{Interval, between, onward, distance, inside, Within}
use Rattle.meaning.specs.Rule.{Entry, time_at, Rising}
use Rattle.meaning.specs.Meaning.{next_at, until_at, previous_at, since_at}
use Rattle.meaning.proofs.Intervals.{distance_same, between_gives, between_made, distance_amid}
use Rattle.meaning.proofs.Ranges.{every_in_none, every_in_first, every_in_all}
use Rattle.meaning.proofs.Ranges.{some_in_first, some_in_never, some_in_cong, some_in_factor}
use Rattle.meaning.proofs.Waits.{waits_found, waits_made, waits_within, waits_or, waits_not, waits_and}

pub within_between : (low high low' high' : ℕ) → low' ≤ low → high ≤ high'
    → Within (between low high) (between low' high')
within_between low high low' high' l h here other e =
    let d = between_gives low high here other e in
    between_made low' high' here other (omega (arith, d.0)) (omega (arith, d.1))

pub within_onward : (low high low' : ℕ) → low' ≤ low → Within (between low high) (onward low')
unfolding inside
within_onward low high low' l here other e =
    let d = between_gives low high here other e in
    le-leb low' (distance here other) (omega (arith, d.0))

pub within_later : (low low' : ℕ) → low' ≤ low → Within (onward low) (onward low')
unfolding inside
within_later low low' l here other e =
    le-leb low' (distance here other) (omega (arith, leb-true low (distance here other) e))

-- how a rule writes "not" and "or"
pub not_written : (p : Bool) → (true ⊕ p) ≡ not p
not_written true = refl
not_written false = refl

pub or_written : (p q : Bool) → ((p ⊕ q) ⊕ (p && q)) ≡ (p || q)
or_written true true = refl
or_written true false = refl
or_written false true = refl
or_written false false = refl

inside_now : (high t : ℕ) → inside (between 0 high) t t ≡ true
inside_now high t = between_made 0 high t t (omega arith) (omega (arith, distance_same t))

inside_onward : (here other : ℕ) → inside (onward 0) here other ≡ true
unfolding inside
inside_onward here other = leb-zero (distance here other)

inside_far : (high here other : ℕ) → here + high < other → inside (between 0 high) here other ≡ false
unfolding inside distance
inside_far high here other h =
    ap (λ x. leb 0 (distance here other) && x) (lt-leb (distance here other) high (omega arith))
    ∙ and-false (leb 0 (distance here other))

share : (x y p q : Bool) → (x && (y && (p && q))) ≡ (x && (y && p) && (x && (y && q)))
share true true p q = refl
share true false p q = refl
share false y p q = refl

turn : (x y z : Bool) → (x && (y && z)) ≡ (y && (x && z))
turn true y z = refl
turn false y z = sym (and-false y)

module _ (log : List Entry) where
  -- record j, seen from record i, is in the interval
  abbrev seen : Interval → ℕ → ℕ → Bool
  seen v i j = inside v (time_at log i) (time_at log j)

  -- of an until at i, the record i itself
  here : (a b : ℕ → Bool) (v : Interval) (i : ℕ) → seen v i i ≡ true → (seen v i i && (b i && every_in i i a)) ≡ b i
  here a b v i e = ap₂ (λ x y. x && (b i && y)) e (every_in_none i i a (omega arith)) ∙ and-true (b i)

  -- 1. a wait that ends in the shorter time ends in the longer: to ask for both is to ask for the shorter
  pub until_within : (a b : ℕ → Bool) (v w : Interval) (i : ℕ) → Within v w
      → (until_at log a b v i && until_at log a b w i) ≡ until_at log a b v i
  unfolding until_at
  until_within a b v w i h =
      waits_within i (length log) (λ j. i) (λ j. j) (seen v i) (seen w i) a b (λ j. h (time_at log i) (time_at log j))

  pub since_within : (a b : ℕ → Bool) (v w : Interval) (i : ℕ) → Within v w
      → (since_at log a b v i && since_at log a b w i) ≡ since_at log a b v i
  unfolding since_at
  since_within a b v w i h =
      waits_within 0 (suc i) suc (λ j. suc i) (seen v i) (seen w i) a b (λ j. h (time_at log i) (time_at log j))

  -- 2. where every later record stands more than high minutes off, an until up to high is what it waits for, now
  pub until_alone : (a b : ℕ → Bool) (high i : ℕ) → i < length log
      → ((j : ℕ) → i < j → j < length log → time_at log i + high < time_at log j)
      → until_at log a b (between 0 high) i ≡ b i
  unfolding until_at
  until_alone a b high i h far =
      some_in_first i (length log) _ h
      ∙ ap₂ ◌||◌ (here a b (between 0 high) i (inside_now high (time_at log i)))
      (some_in_never (suc i) (length log) _
      (λ j k l. ap (λ x. x && (b j && every_in i j a)) (inside_far high (time_at log i) (time_at log j) (far j k l))))
      ∙ or-false (b i)

  -- 3. an eventually within an eventually is one within the sum of the times; but not the other way round
  pub eventually_twice : Rising log → (p : ℕ → Bool) (low high low' high' i : ℕ)
      → until_at log (λ k. true) (λ j. until_at log (λ k. true) p (between low' high') j) (between low high) i ≡ true
      → until_at log (λ k. true) p (between (low + low') (high + high')) i ≡ true
  unfolding until_at
  eventually_twice rising p low high low' high' i e =
      let soon : ℕ → Bool = until_at log (λ k. true) p (between low' high') in
      let v = waits_found i (length log) (λ j. i) (λ j. j) (seen (between low high) i) (λ k. true) soon e in
      let j = v.end in
      let w = waits_found j (length log) (λ k. j) (λ k. k) (seen (between low' high') j) (λ k. true) p v.ended in
      let k = w.end in
      let d = between_gives low high (time_at log i) (time_at log j) v.tested in
      let f = between_gives low' high' (time_at log j) (time_at log k) w.tested in
      let g = distance_amid (time_at log i) (time_at log j) (time_at log k)
      (inl (rising i j v.reached v.below, rising j k w.reached w.below)) in
      waits_made i (length log) (λ j. i) (λ j. j) (seen (between (low + low') (high + high')) i) (λ k. true) p k
      (omega (arith, v.reached, w.reached)) w.below
      (between_made (low + low') (high + high') (time_at log i) (time_at log k)
      (omega (arith, d.0, f.0)) (omega (arith, d.1, f.1)))
      w.ended (every_in_all i k (λ k. true) (λ x y z. refl))

  -- 4. what holds now need not be waited for
  pub until_now : (a b : ℕ → Bool) (high i : ℕ) → i < length log → b i ≡ true
      → until_at log a b (between 0 high) i ≡ true
  unfolding until_at
  until_now a b high i h e =
      waits_made i (length log) (λ j. i) (λ j. j) (seen (between 0 high) i) a b i (omega arith) h
      (inside_now high (time_at log i)) e (every_in_none i i a (omega arith))

  pub since_now : (a b : ℕ → Bool) (high i : ℕ) → b i ≡ true → since_at log a b (between 0 high) i ≡ true
  unfolding since_at
  since_now a b high i e =
      waits_made 0 (suc i) suc (λ j. suc i) (seen (between 0 high) i) a b i (omega arith) (omega arith)
      (inside_now high (time_at log i)) e (every_in_none (suc i) (suc i) a (omega arith))

  -- 5. until with no limit: it ends now, or a holds now and it ends from the next record on, whatever the times
  pub until_onward : (a b : ℕ → Bool) (i : ℕ) → i < length log
      → until_at log a b (onward 0) i ≡ (b i || a i && until_at log a b (onward 0) (suc i))
  unfolding until_at
  until_onward a b i h =
      some_in_first i (length log) _ h
      ∙ ap₂ ◌||◌ (here a b (onward 0) i (inside_onward (time_at log i) (time_at log i)))
      (some_in_cong (suc i) (length log) _ _ later ∙ some_in_factor (suc i) (length log) (a i) _)
    where
      later : (j : ℕ) → suc i ≤ j → j < length log
          → (seen (onward 0) i j && (b j && every_in i j a))
          ≡ (a i && (seen (onward 0) (suc i) j && (b j && every_in (suc i) j a)))
      later j k l =
          ap₂ (λ x y. x && (b j && y)) (inside_onward (time_at log i) (time_at log j)) (every_in_first i j a k)
          ∙ turn (b j) (a i) (every_in (suc i) j a)
          ∙ ap (λ x. a i && (x && (b j && every_in (suc i) j a))) (sym (inside_onward _ (time_at log j)))

  -- 6. to wait for one thing or another is to wait for the one or to wait for the other
  pub until_or : (a b c : ℕ → Bool) (v : Interval) (i : ℕ)
      → until_at log a (λ j. b j || c j) v i ≡ (until_at log a b v i || until_at log a c v i)
  unfolding until_at
  until_or a b c v i = waits_or i (length log) (λ j. i) (λ j. j) (seen v i) a b c

  pub since_or : (a b c : ℕ → Bool) (v : Interval) (i : ℕ)
      → since_at log a (λ j. b j || c j) v i ≡ (since_at log a b v i || since_at log a c v i)
  unfolding since_at
  since_or a b c v i = waits_or 0 (suc i) suc (λ j. suc i) (seen v i) a b c

  -- 7. two things kept until a third are each kept until it: of two ends the earlier serves both
  pub until_and : (a b c : ℕ → Bool) (v : Interval) (i : ℕ)
      → until_at log (λ k. a k && b k) c v i ≡ (until_at log a c v i && until_at log b c v i)
  unfolding until_at
  until_and a b c v i = waits_and i (length log) (λ j. i) (λ j. j) (λ j k. nested j k (dec_lt k j)) (seen v i) a b c
    where
      nested : (j k : ℕ) → Dec (k < j) → ((i ≤ i) × (k ≤ j)) ⊎ ((i ≤ i) × (j ≤ k))
      nested j k (yes h) = inl (omega arith)
      nested j k (no h) = inr (omega arith)

  pub since_and : (a b c : ℕ → Bool) (v : Interval) (i : ℕ)
      → since_at log (λ k. a k && b k) c v i ≡ (since_at log a c v i && since_at log b c v i)
  unfolding since_at
  since_and a b c v i = waits_and 0 (suc i) suc (λ j. suc i) (λ j k. nested j k (dec_lt k j)) (seen v i) a b c
    where
      nested : (j k : ℕ) → Dec (k < j) → ((suc j ≤ suc k) × (suc i ≤ suc i)) ⊎ ((suc k ≤ suc j) × (suc i ≤ suc i))
      nested j k (yes h) = inr (omega arith)
      nested j k (no h) = inl (omega arith)

  -- 8. two things at the next record are the one there and the other there; so at the record before
  pub next_and : (a b : ℕ → Bool) (v : Interval) (i : ℕ)
      → next_at log (λ j. a j && b j) v i ≡ (next_at log a v i && next_at log b v i)
  unfolding next_at
  next_and a b v i = share (ltb (suc i) (length log)) (seen v i (suc i)) (a (suc i)) (b (suc i))

  pub previous_and : (a b : ℕ → Bool) (v : Interval) (i : ℕ)
      → previous_at log (λ j. a j && b j) v i ≡ (previous_at log a v i && previous_at log b v i)
  unfolding previous_at
  previous_and a b v zero = refl
  previous_and a b v (suc i) = share true (seen v (suc i) i) (a i) (b i)

  -- 9. there and back: where there is a next record, what was before it is what is now
  pub next_previous : (p : ℕ → Bool) (i : ℕ) → suc i < length log
      → next_at log (previous_at log p (onward 0)) (onward 0) i ≡ p i
  unfolding next_at previous_at
  next_previous p i h =
      ap₂ ◌&&◌ (lt-ltb (suc i) (length log) h)
      (ap₂ ◌&&◌ (inside_onward (time_at log i) (time_at log (suc i)))
      (ap (λ x. x && p i) (inside_onward (time_at log (suc i)) (time_at log i))))

  pub previous_next : (p : ℕ → Bool) (i : ℕ) → suc i < length log
      → previous_at log (next_at log p (onward 0)) (onward 0) (suc i) ≡ p (suc i)
  unfolding next_at previous_at
  previous_next p i h =
      ap₂ ◌&&◌ (inside_onward (time_at log (suc i)) (time_at log i))
      (ap₂ (λ x y. x && (y && p (suc i))) (lt-ltb (suc i) (length log) h)
      (inside_onward (time_at log i) (time_at log (suc i))))

  -- 10. not eventually not is always: p at every record from here on that is in the interval
  pub not_until_not : (p : ℕ → Bool) (v : Interval) (i : ℕ)
      → not (until_at log (λ k. true) (λ j. not (p j)) v i)
      ≡ every_in i (length log) (λ j. cond (inside v (time_at log i) (time_at log j)) (p j) true)
  unfolding until_at
  not_until_not p v i = waits_not i (length log) (λ j. i) (λ j. j) (seen v i) p

  pub not_since_not : (p : ℕ → Bool) (v : Interval) (i : ℕ)
      → not (since_at log (λ k. true) (λ j. not (p j)) v i)
      ≡ every_in 0 (suc i) (λ j. cond (inside v (time_at log i) (time_at log j)) (p j) true)
  unfolding since_at
  not_since_not p v i = waits_not 0 (suc i) suc (λ j. suc i) (seen v i) p
