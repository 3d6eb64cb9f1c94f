-- `Rows::row` takes row j, and is false where there is none.
use Rattle.forms.proofs.Widening.{row_none}
use Rattle.forms.proofs.area.Rows.row.Goals as goal

pub returns-else-j-self : goal.returns-else-j-self
returns-else-j-self c = row_none _ _ _ _ c.if-j-self.false
