-- What the numbers below n make: joined by an operation, tested, listed.
use Rattle.std.specs.Prelude.{Bool, true, false, not, ◌&&◌, ◌||◌, List, [], ◌∷◌, ◌++◌, ℕ, zero, suc, ◌+◌, ◌-◌}

-- exclusive or, as document 000 writes it
infixl 32 ◌⊕◌
abbrev pub ◌⊕◌ : Bool → Bool → Bool
true ⊕ b = not b
false ⊕ b = b

-- g 0, g 1, .. g (n - 1), joined by op from e on
unfoldable pub fold : {A : Type 0} → (A → A → A) → A → ℕ → (ℕ → A) → A
fold op e zero g = e
fold op e (suc n) g = op (fold op e n g) (g n)

-- the test passes at every number below n
abbrev pub every : ℕ → (ℕ → Bool) → Bool
every n g = fold ◌&&◌ true n g

-- the test passes at some number below n
abbrev pub some : ℕ → (ℕ → Bool) → Bool
some n g = fold ◌||◌ false n g

-- the test passes at every number from a on below b, and at some of them
unfoldable pub every_in : ℕ → ℕ → (ℕ → Bool) → Bool
every_in a b g = every (b - a) (λ i. g (a + i))

unfoldable pub some_in : ℕ → ℕ → (ℕ → Bool) → Bool
some_in a b g = some (b - a) (λ i. g (a + i))

-- the test passes at an odd count of the numbers below n
abbrev pub parity : ℕ → (ℕ → Bool) → Bool
parity n g = fold ◌⊕◌ false n g

-- the list g 0, g 1, .. g (n - 1)
unfoldable pub tab : {A : Type 0} → ℕ → (ℕ → A) → List A
tab zero g = []
tab (suc n) g = tab n g ++ (g n ∷ [])
