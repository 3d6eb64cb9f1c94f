-- The first test that holds, in a list of tests, refuses as document 01's table says.
-- Assumes nothing.
use Rattle.std.proofs.Common.{Ok, Err}
use mathlib.Core.Path.{◌≡◌, refl, sym, ◌∙◌, ap}
use mathlib.Core.Bool.{Bool, true, false, cond, true≢false, false≢true}
use mathlib.Core.Logic.{◌⊎◌, inl, inr}
use mathlib.Core.List.{List, [], ◌∷◌, map}
use Prim.Native.Nat.{ℕ}
use native.Mathlib.Omega.{arith}
use Rattle.watcher.specs.declared.state.Refusal.{Refusal}
use Rattle.watcher.specs.Answers.{Found}
use Rattle.watcher.specs.Lists.{Test, first_refusal}
use Rattle.watcher.specs.Numbers.{refusal_number}
use Rattle.demands.specs.Tables.{Line, Given, NoneHolds, Carries, AsTable}

-- the line of a test
abbrev pub line_of : Test → Line
line_of t = record { number = refusal_number t.gives; holds = t.holds }

-- a refusal is not none
refused_not : (r : Refusal) → ◌≡◌ {A = Found} (Err r) (Ok tt) → ⊥
refused_not r e = let z : ◌≡◌ {A = ℕ} 0 1 = cc in omega arith

given : (ts : List Test) (n : ℕ) → Carries (first_refusal ts) n → Given (map line_of ts) n
unfolding first_refusal Carries Given
given [] n c = c
given (t ∷ ts) n c = go t.holds refl (given ts n) c
  where
    go : (b : Bool) → t.holds ≡ b → (Carries (first_refusal ts) n → Given (map line_of ts) n)
        → Carries (cond b (Err t.gives) (first_refusal ts)) n
        → ((t.holds ≡ true) × (refusal_number t.gives ≡ n)) ⊎ ((t.holds ≡ false) × Given (map line_of ts) n)
    go true e rest c = inl (e, c)
    go false e rest c = inr (e, rest c)

carried : (ts : List Test) (n : ℕ) → Given (map line_of ts) n → Carries (first_refusal ts) n
unfolding first_refusal Carries Given
carried [] n c = c
carried (t ∷ ts) n c = go t.holds refl (carried ts n) c
  where
    go : (b : Bool) → t.holds ≡ b → (Given (map line_of ts) n → Carries (first_refusal ts) n)
        → ((t.holds ≡ true) × (refusal_number t.gives ≡ n)) ⊎ ((t.holds ≡ false) × Given (map line_of ts) n)
        → Carries (cond b (Err t.gives) (first_refusal ts)) n
    go true e rest (inl c) = c.1
    go true e rest (inr c) = absurd (true≢false (sym e ∙ c.0))
    go false e rest (inl c) = absurd (false≢true (sym e ∙ c.0))
    go false e rest (inr c) = rest c.1

none_holds : (ts : List Test) → first_refusal ts ≡ Ok tt → NoneHolds (map line_of ts)
unfolding first_refusal NoneHolds
none_holds [] e = tt
none_holds (t ∷ ts) e = go t.holds refl (none_holds ts) e
  where
    go : (b : Bool) → t.holds ≡ b → (first_refusal ts ≡ Ok tt → NoneHolds (map line_of ts))
        → cond b (Err t.gives) (first_refusal ts) ≡ Ok tt → (t.holds ≡ false) × NoneHolds (map line_of ts)
    go true e rest c = absurd (refused_not t.gives c)
    go false e rest c = (e, rest c)

all_fine : (ts : List Test) → NoneHolds (map line_of ts) → first_refusal ts ≡ Ok tt
unfolding first_refusal NoneHolds
all_fine [] e = refl
all_fine (t ∷ ts) e = ap (λ b. cond b (Err t.gives) (first_refusal ts)) e.0 ∙ all_fine ts e.1

either_way : (f : Found) → (f ≡ Ok tt) ⊎ ((n : ℕ) × Carries f n)
unfolding Carries
either_way (Ok tt) = inl refl
either_way (Err r) = inr (refusal_number r, refl)

pub as_table : (ts : List Test) → AsTable (map line_of ts) (first_refusal ts)
as_table ts =
    record {
      answered = either_way (first_refusal ts);
      refused = λ n. (given ts n, carried ts n);
      fine = (none_holds ts, all_fine ts);
    }
