-- `area::store` puts a row at a place. Assumes nothing.
use Rattle.std.proofs.Common.{rules}
use Rattle.forms.proofs.Areas.{stored}
use Rattle.forms.proofs.area.store.Goals as goal

pub returns : goal.returns
returns c =
    stored _ _ _ _ _ c.args.row (search rules) c.edge-from.ensures c.edge-to.ensures c.copy_from_slice.ensures.after
