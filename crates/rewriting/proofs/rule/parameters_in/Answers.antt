-- `rule::parameters_in` meets its contract: the sum is where the parameters of record `k` begin.
use native.Mathlib.Omega.{arith}
use borrow.Author.Rules.{rules}
use Rattle.meaning.specs.Rule.{first_of}
use Rattle.rewriting.proofs.Counting.{first_of_rule, parameters_done, counts_same}
use Rattle.rewriting.proofs.Rules.{record_count}
use Rattle.rewriting.proofs.rule.parameters_in.Goals as goal

pub loop-k-init : goal.loop-k-init
unfolding first_of
loop-k-init c = (search rules, search rules, search rules, search rules)

pub loop-k-preserved : goal.loop-k-preserved
loop-k-preserved c =
    let list = c.args.list.now in
    let here = c.loop-k.k in
    let more = first_of_rule list _ here c.loop-k-test.true in
    let counted = record_count list here _ c.record_at.ensures _ c.count_of-sum.ensures.0 in
    (search rules, search rules, omega arith, search rules)

pub returns : goal.returns
returns c =
    let p = c.loop-k.invariant in
    counts_same _ _ _ _ p.0 (parameters_done _ _ _ _ p.2 p.1 c.loop-k-test.false)
