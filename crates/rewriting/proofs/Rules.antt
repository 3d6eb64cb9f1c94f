-- The bytes of a list's records, and the rule in the first of them.
-- Assumes nothing.
use mathlib.Core.Path.{◌≡◌, ap, ◌∙◌}
use mathlib.Core.Bool.{true}
use mathlib.Core.List.{List}
use Prim.Native.Nat.{ℕ, ◌≤◌, ◌<◌}
use native.Mathlib.Omega.{arith}
use lib.ListN.{length}
use Rattle.ground.proofs.Tabs.{length_tab, get_d_tab, get_d_tab_out}
use Rattle.meaning.specs.Rule.{fixed, node_at, count}
use Rattle.rewriting.specs.Decode.{record_bytes, byte_of, node_in, rule_in, node_for, record_in, node_of, kind_number}
use Rattle.rewriting.specs.Decode.{interval_of, interval_for}
use Rattle.rewriting.proofs.ByKind.{number_of_kind}
use Rattle.rewriting.specs.declared.step.Record.{Record}

module _ (list : List ℕ) (n : ℕ) where
  pub length_rule_in : length (rule_in list n) ≡ n
  unfolding rule_in
  length_rule_in = length_tab n (node_in list)

  pub node_in_lem : (k : ℕ) → k < n → node_at (rule_in list n) k ≡ node_in list k
  unfolding rule_in node_at
  node_in_lem k h = get_d_tab n (node_in list) k (fixed true) h

  pub node_past : (k : ℕ) → n ≤ k → node_at (rule_in list n) k ≡ fixed true
  unfolding rule_in node_at
  node_past k h = get_d_tab_out n (node_in list) k (fixed true) h

-- record k of a list is its node, with its parameters, and has its bytes
module _ (list : List ℕ) (k : ℕ) (r : Record) (is : r ≡ record_in list k) where
  pub record_node : node_for r ≡ node_in list k
  unfolding node_in node_for record_in interval_for
  record_node =
      ap node_for is
      ∙ ap (λ kind. node_of kind (byte_of list k 1) (byte_of list k 2)
      (interval_of (byte_of list k 3) (byte_of list k 4) (byte_of list k 5))) (number_of_kind (byte_of list k 0))

  pub record_count : (n : ℕ) → n ≡ count (node_for r) → n ≡ count (node_in list k)
  record_count n e = e ∙ ap count record_node

  pub record_kind : kind_number r.kind ≡ byte_of list k 0
  unfolding record_in
  record_kind = ap (λ (d : Record). kind_number d.kind) is ∙ number_of_kind (byte_of list k 0)

  pub record_left : r.left ≡ byte_of list k 1
  unfolding record_in
  record_left = ap (λ (d : Record). d.left) is

-- where the bytes are the same, the record is
pub node_same : (list list' : List ℕ) (k : ℕ) → ((i : ℕ) → i < record_bytes → byte_of list k i ≡ byte_of list' k i)
    → node_in list k ≡ node_in list' k
unfolding node_in
node_same list list' k e =
    cc (
      e 0 (omega arith),
      e 1 (omega arith),
      e 2 (omega arith),
      e 3 (omega arith),
      e 4 (omega arith),
      e 5 (omega arith),
    )
