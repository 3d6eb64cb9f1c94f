-- The clause of the public function that neither reads a file nor writes one.
use Rattle.std.specs.Prelude.{◌≡◌, Bool, true, List, ℕ}

-- whether a text is a word: true exactly where the two are the same
abbrev pub SameClause : (text word : List ℕ) → Bool → Type 0
SameClause text word o = (o ≡ true → text ≡ word) × (text ≡ word → o ≡ true)
