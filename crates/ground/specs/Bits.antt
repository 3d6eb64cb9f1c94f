-- The bits of a number, and of a list of words of 64 bits.
use Rattle.std.specs.Prelude.{◌≡◌, Bool, cond, List, ℕ, zero, suc, ◌+◌, ◌/◌, ◌%◌, ◌^◌, ◌<◌, eqb, length, get_or}

-- bit t of a number
unfoldable pub bit : ℕ → ℕ → Bool
bit x t = eqb (x / 2 ^ t % 2) 1

-- the number below 2 ^ n whose bit t is g t
unfoldable pub of_bits : ℕ → (ℕ → Bool) → ℕ
of_bits zero g = 0
of_bits (suc n) g = cond (g n) (2 ^ n) 0 + of_bits n g

-- bit k of a list of words: bit k mod 64 of word k div 64
unfoldable pub bit_at : List ℕ → ℕ → Bool
bit_at ws k = bit (get_or ws (k / 64) 0) (k % 64)

-- n words of 64 bits
pub record Words (n : ℕ) (ws : List ℕ) : Type 0 where
  pub long : length ws ≡ n
  pub small : (i : ℕ) → get_or ws i 0 < 2 ^ 64
