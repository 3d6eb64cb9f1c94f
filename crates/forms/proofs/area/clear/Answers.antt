-- `area::clear` puts zeros in rows. Assumes nothing.
use Rattle.forms.proofs.Areas.{cleared}
use Rattle.forms.proofs.area.clear.Goals as goal

pub returns : goal.returns
returns c = cleared _ _ _ _ _ _ c.edge-from.ensures c.edge-to.ensures (c.fill.ensures.after (λ y h. h))
