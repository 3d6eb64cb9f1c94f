-- `tables` puts the tables of twelve rows one behind the other.
use Prim.Native.Nat.{◌<◌}
use native.Mathlib.Omega.{arith}
use borrow.Author.Rules.{rules}
use Rattle.forms.specs.Words.{most}
use Rattle.forms.specs.Area.{form_in}
use Rattle.forms.specs.inside.Steps.{only_named}
use Rattle.forms.proofs.Widening.{tables_more}
use Rattle.forms.proofs.table.tables.Goals as goal

pub loop-j-preserved : goal.loop-j-preserved
loop-j-preserved c =
    let at = c.loop-j in
    let sofar = at.invariant in
    let less : at.j < 12 = omega arith in (
      omega arith,
      search rules,
      λ rows h.
          tables_more _ _ _ _ (only_named _ (form_in most rows)) sofar.1 less (c.table_at-t.ensures rows h)
          c.store.ensures (sofar.2 rows h),
    )
