-- Where a search of a list first finds something: by record, then by a second number, its byte or an earlier record.
use Rattle.std.specs.Prelude.{◌≡◌, Bool, true, false, cond, ℕ, ◌<◌, Option, Some, None}
use Rattle.std.specs.Option.{option_or}
use Rattle.ground.specs.Fold.{fold}
use Rattle.watcher.specs.declared.state.Place.{Place}

-- the place at a record and a second number
abbrev pub at : (i j : ℕ) → Option Place
at i j = Some (record { «record» = i; second = j })

-- the first i below n, and with it the first j below i's bound, where the test holds
unfoldable pub first_where : (n : ℕ) (bound : ℕ → ℕ) (test : ℕ → ℕ → Bool) → Option Place
first_where n bound test =
    fold option_or None n (λ i. fold option_or None (bound i) (λ j. cond (test i j) (at i j) None))

-- no place before record n passes the test
abbrev pub Clear : (bound : ℕ → ℕ) (test : ℕ → ℕ → Bool) → ℕ → Type 0
Clear bound test n = (i : ℕ) → i < n → (j : ℕ) → j < bound i → test i j ≡ false

-- the test holds at record i and second number j, and nowhere before: at no earlier record, at no lower number here
pub record First (n : ℕ) (bound : ℕ → ℕ) (test : ℕ → ℕ → Bool) (i j : ℕ) : Type 0 where
  pub inside : (i < n) × (j < bound i)
  pub holds : test i j ≡ true
  pub clear : Clear bound test i
  pub lower : (b : ℕ) → b < j → test i b ≡ false
