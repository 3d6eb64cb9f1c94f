-- `horizon::horizon_in` fills the table record by record and reads its last entry.
use native.Mathlib.Omega.{arith}
use borrow.Author.Rules.{rules}
use Rattle.watcher.specs.Limits.{most_records}
use Rattle.watcher.proofs.Horizons.{told_none, told_more, last_told, small_none, small_more}
use Rattle.rewriting.proofs.Rules.{record_node}
use Rattle.watcher.proofs.horizon.horizon_in.Goals as goal

pub loop-k-init : goal.loop-k-init
loop-k-init c =
    (search rules, small_none most_records 0, told_none c.args.rule.now c.args.records most_records)

pub loop-k-preserved : goal.loop-k-preserved
loop-k-preserved c =
    let a = c.args in
    let loop = c.loop-k in
    let inv = loop.invariant in
    let here = c.loop-k-test.true in
    let made = c.record_entry.ensures in (
      search rules,
      small_more loop.minutes loop.k _ (omega arith) inv.1 made.small,
      told_more a.rule.now a.records loop.minutes _ loop.k _ here (omega arith)
          (record_node _ _ _ c.record_at.ensures) made.same inv.2,
    )

pub returns : goal.returns
returns c =
    last_told c.args.rule.now c.args.records c.loop-k.minutes c.loop-k.k (omega arith) c.loop-k-test.false
    c.loop-k.invariant.2
