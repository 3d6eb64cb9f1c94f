-- `table_at` goes to truth values where row j is named, and is false where it is not.
use Rattle.forms.proofs.Widening.{table_none, table_here}
use Rattle.forms.proofs.table.table_at.Goals as goal

pub returns-then-named-j-eq0 : goal.returns-then-named-j-eq0
returns-then-named-j-eq0 c = table_none _ _ _ _ _ c.if-named-j-eq0.true

pub returns : goal.returns
returns c =
    table_here _ _ _ _ _ _ _ c.if-named-j-eq0.false c.row.ensures c.truth_of.ensures
