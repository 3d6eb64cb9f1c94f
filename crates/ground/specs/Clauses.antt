-- The clause of each public function: of what is handed in, and the answer.
use Rattle.std.specs.Prelude.{◌≡◌, Bool, List, ℕ, min, get_or}
use Rattle.ground.specs.Bytes.{little, zeros_from}

-- the byte at a place
abbrev pub ByteClause : (bytes : List ℕ) (at : ℕ) → ℕ → Type 0
ByteClause bytes at o = o ≡ get_or bytes at 0

-- the number of n bytes, the lowest first; of the first 8 where there are more
abbrev pub LittleClause : (n : ℕ) (bytes : List ℕ) (at : ℕ) → ℕ → Type 0
LittleClause n bytes at o = o ≡ little bytes at (min n 8)

-- whether every byte from a place on is zero
abbrev pub ZerosFromClause : (bytes : List ℕ) (from : ℕ) → Bool → Type 0
ZerosFromClause bytes from o = o ≡ zeros_from bytes from
