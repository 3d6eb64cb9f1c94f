-- `walk::forms_of` meets its contract: the forms of the first `k` records are in the table.
use Rattle.std.proofs.Common.{refl, sym, arith, rules}
use Rattle.rewriting.proofs.Listing.{started, gave}
use Rattle.rewriting.proofs.Tables.{forms_row}
use Rattle.rewriting.proofs.Written.{wrote_none, wrote_as, wrote_more}
use Rattle.rewriting.proofs.Rules.{record_node}
use Rattle.rewriting.proofs.walk.forms_of.Goals as goal

pub loop-k-init : goal.loop-k-init
loop-k-init c =
    let all =
    started _ _ _ _ c.into_iter-k-iterator.ensures.into_iter_gives c.of-k-items.ensures in (
      tt,
      tt,
      all.0,
      all.1,
      refl,
      wrote_as _ _ _ 0 _ _ (sym all.2) (wrote_none _ _ _),
    )

pub loop-k-preserved : goal.loop-k-preserved
loop-k-preserved c =
    let a = c.args in
    let p = c.loop-k.invariant in
    let g =
    gave _ _ _ _ _ p.2 p.3 _ _ _ _ _ _ c.in-Some.ensures.steps in
    let given = g.2.1 in
    let sofar = wrote_as _ _ _ _ _ _ g.2.0 p.5 in (
      tt,
      tt,
      g.0,
      g.1,
      search rules,
      wrote_as _ _ _ _ _ _ (sym g.2.2)
          (wrote_more _ _ _ _ _ _ _ _ sofar (omega arith) c.store.ensures
          (forms_row a.m a.list.now a.records _ _ _ _ _ _ given.less c.requires.2 given.begins
          (record_node _ _ _ given.read) sofar
          c.form_row-row.ensures)),
    )
