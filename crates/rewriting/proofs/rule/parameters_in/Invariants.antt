-- `rule::parameters_in` meets its contract: the sum is where the parameters of record `k` begin.
use mathlib.Core.Path.{◌≡◌}
use Prim.Native.Nat.{◌*◌, ◌≤◌, min}
use Rattle.meaning.specs.Rule.{first_of}
use Rattle.rewriting.specs.Decode.{rule_in}
use Rattle.rewriting.proofs.rule.parameters_in.Given as goal

abbrev pub invariant-loop-k : goal.invariant-loop-k
invariant-loop-k l =
    (l.last ≡ min l.n 64) × (l.k ≤ l.last) × (l.sum ≡ first_of (rule_in l.list l.last) l.k) × (l.sum ≤ 256 * l.k)
