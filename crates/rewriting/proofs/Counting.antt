-- How many parameters the rule in a list has, counted over its records.
-- Assumes nothing.
use mathlib.Core.Path.{◌≡◌, ap, sym, ◌∙◌}
use mathlib.Core.List.{List}
use Prim.Native.Nat.{ℕ, ◌+◌, ◌≤◌, ◌<◌, min}
use native.Mathlib.Nat.{le_antisymm}
use native.Mathlib.Numerals.{add-one}
use native.Mathlib.Omega.{arith}
use Rattle.meaning.specs.Rule.{count, first_of, parameters}
use Rattle.rewriting.specs.Decode.{node_in, rule_in}
use Rattle.rewriting.proofs.Rules.{length_rule_in, node_in_lem}

-- counted up to record k of the rule in the first n records
pub first_of_rule : (list : List ℕ) (n k : ℕ) → k < n
    → first_of (rule_in list n) (k + 1) ≡ first_of (rule_in list n) k + count (node_in list k)
unfolding first_of
first_of_rule list n k h = rw (add-one, node_in_lem list n k h)

-- counted to the last record
pub parameters_done : (list : List ℕ) (n k sum : ℕ) → sum ≡ first_of (rule_in list n) k → k ≤ n → n ≤ k
    → sum ≡ parameters (rule_in list n)
unfolding parameters
parameters_done list n k sum e h l = e ∙ ap (first_of (rule_in list n)) (le_antisymm h l ∙ sym (length_rule_in list n))

-- as many records have as many; of no more than 64 records all count
pub counts_same : (list : List ℕ) (n l r : ℕ) → n ≡ l → r ≡ parameters (rule_in list n)
    → r ≡ parameters (rule_in list l)
counts_same list n l r h e = e ∙ ap (λ x. parameters (rule_in list x)) h

pub counts_all : (list : List ℕ) (n r : ℕ) → n ≤ 64 → r ≡ parameters (rule_in list (min n 64))
    → r ≡ parameters (rule_in list n)
counts_all list n r h e = counts_same list (min n 64) n r (omega arith) e
