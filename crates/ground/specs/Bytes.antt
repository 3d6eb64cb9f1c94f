-- Bytes as numbers, lowest first, and zeros behind a prefix.
use Rattle.std.specs.Prelude.{Bool, List, ℕ, zero, suc, ◌+◌, ◌*◌, ◌==◌, drop, get_or}
use Rattle.std.specs.List.{list_all}

-- the number of the n bytes from `at` on, lowest first, with zeros past the end
unfoldable pub little : List ℕ → ℕ → ℕ → ℕ
little bytes at zero = 0
little bytes at (suc n) = get_or bytes at 0 + 256 * little bytes (at + 1) n

-- every byte from `from` on is zero
abbrev pub zeros_from : List ℕ → ℕ → Bool
zeros_from bytes from = list_all (λ byte. byte == 0) (drop from bytes)
