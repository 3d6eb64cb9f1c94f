-- `lists::first_twins` meets its contract: no record before `i` has an earlier twin, and `i` none before `j`.
use mathlib.Core.Path.{sym, ◌∙◌}
use native.Mathlib.Nat.{div-le_self}
use native.Mathlib.Omega.{arith}
use borrow.Author.Count.{below_none, below_more}
use borrow.Author.Rules.{rules}
use Rattle.watcher.specs.Rules.{first_twins}
use Rattle.watcher.proofs.Places.{where_at, where_none}
use Rattle.watcher.proofs.Checking.{record_inside}
use Rattle.watcher.proofs.lists.first_twins.Goals as goal

pub pairs-init : goal.pairs-init
pairs-init c = (search rules, div-le_self _ _, search rules, below_none _)

pub loop-j-init : goal.loop-j-init
loop-j-init c = (search rules, search rules, below_none _)

pub same_record-requires : goal.same_record-requires
same_record-requires c = (record_inside _ _ _ (omega arith), record_inside _ _ _ (omega arith))

pub loop-j-preserved : goal.loop-j-preserved
loop-j-preserved c = (
  search rules,
  search rules,
  below_more _ _ c.loop-j.invariant.2 (sym c.same_record.ensures ∙ c.if-same_record.false),
)

pub pairs-preserved : goal.pairs-preserved
pairs-preserved c = (
  search rules,
  c.pairs.invariant.1,
  search rules,
  below_more _ _ c.pairs.invariant.3 (λ b h. c.loop-j.invariant.2 b (omega arith)),
)

pub returns-after-pairs : goal.returns-after-pairs
unfolding first_twins
returns-after-pairs c =
    let p = c.pairs.invariant in
    p.2 ∙ sym ((where_none _ _ _).1 (λ a h. p.3 a (omega arith)))

pub returns-then-same_record : goal.returns-then-same_record
unfolding first_twins
returns-then-same_record c =
    sym ((where_at _ _ _ _ _).1
    (record {
      inside = (omega arith, omega arith);
      holds = sym c.same_record.ensures ∙ c.if-same_record.true;
      clear = c.pairs.invariant.3;
      lower = c.loop-j.invariant.2;
    }))
