-- What the records of a rule's list are, one after another, each with where its parameters begin.
use Rattle.std.specs.Prelude.{◌≡◌, List, Option, MatchOption, ℕ, ◌+◌, ◌*◌, ◌≤◌, ◌<◌}
use Rattle.meaning.specs.Rule.{first_of}
use Rattle.rewriting.specs.declared.step.Record.{Record}
use Rattle.rewriting.specs.Decode.{record_in, rule_in}

-- counted up to record k of a list's first records: its parameters begin at first
pub record Counted (list : List ℕ) (records k first : ℕ) : Type 0 where
  pub most : records ≤ 64
  pub reached : k ≤ records
  pub begins : first ≡ first_of (rule_in list records) k
  pub small : first ≤ 256 * k

-- record k of a list's first records is d, and its parameters begin at first
pub record Given (list : List ℕ) (records k : ℕ) (d : Record) (first : ℕ) : Type 0 where
  pub less : k < records
  pub read : d ≡ record_in list k
  pub begins : first ≡ first_of (rule_in list records) k

-- all records are left
abbrev pub Starts : List ℕ → ℕ → List ℕ → ℕ → ℕ → Type 0
Starts list records list' records' k = (list' ≡ list) × (records' ≡ records) × (k ≡ 0)

-- r is record k with its number and where its parameters begin, if there is one, and those behind it are left
abbrev pub Gives : List ℕ → ℕ → ℕ → Option (ℕ × Record × ℕ) → List ℕ → ℕ → ℕ → Type 0
Gives list records k r list' records' k' =
    (list' ≡ list) × (records' ≡ records)
    × MatchOption r (records ≤ k)
    (λ x. (k ≡ x.0) × Given list records x.0 x.1 x.2 × (k' ≡ x.0 + 1))
