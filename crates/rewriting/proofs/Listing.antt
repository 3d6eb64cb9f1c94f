-- The records of a rule's list, one after another.
-- Assumes nothing.
use mathlib.Core.Path.{◌≡◌, refl, sym, subst}
use mathlib.Core.List.{List}
use Prim.Native.Nat.{ℕ, ◌+◌, ◌≤◌, ◌<◌}
use native.Mathlib.Omega.{arith}
use Rattle.std.specs.Prelude.{Some}
use Rattle.meaning.specs.Rule.{count, first_of}
use Rattle.rewriting.specs.declared.rule.Records.{Records}
use Rattle.rewriting.specs.declared.step.Record.{Record}
use Rattle.rewriting.specs.Decode.{node_in}
use Rattle.rewriting.specs.inside.Listed.{Counted, Starts, Gives}
use Rattle.rewriting.proofs.Counting.{first_of_rule}

-- counted up to the first record, and over one more
pub counted_none : (list : List ℕ) (records : ℕ) → records ≤ 64 → Counted list records 0 0
unfolding first_of
counted_none list records h = record { most = h; reached = omega arith; begins = refl; small = omega arith }

pub counted_more : (list : List ℕ) (records k first n : ℕ) → Counted list records k first → k < records
    → n ≡ count (node_in list k) → n ≤ 256 → Counted list records (k + 1) (first + n)
counted_more list records k first n sofar h e few =
    record {
      most = sofar.most;
      reached = omega (arith, h);
      begins = omega (arith, sofar.begins, e, first_of_rule list records k h);
      small = omega (arith, sofar.small, few);
    }

-- all records of an iterator are those of the one that it was made from
pub started : (list : List ℕ) (records : ℕ) (s t : Records) → t ≡ s
    → Starts list records s.list.now s.records s.k → Starts list records t.list.now t.records t.k
started list records s t e = subst (λ (x : Records). Starts list records x.list.now x.records x.k) (sym e)

-- what is given of the list and of as many records
module _ (list at : List ℕ) (records n k : ℕ) (same : at ≡ list) (many : n ≡ records) where
  pub gave : (number : ℕ) (d : Record) (first : ℕ) (list' : List ℕ) (n' k' : ℕ)
      → Gives at n k (Some (number, d, first)) list' n' k' → Gives list records k (Some (number, d, first)) list' n' k'
  gave number d first list' n' k' g =
      subst (λ x. Gives list x k (Some (number, d, first)) list' n' k') many
      (subst (λ x. Gives x n k (Some (number, d, first)) list' n' k') same g)
