-- `area::row_from` gives a row, with zeros past the area's end. Assumes nothing.
use Rattle.forms.proofs.Areas.{loaded}
use Rattle.forms.proofs.area.row_from.Goals as goal

pub returns : goal.returns
returns c = loaded _ _ _ _ _ c.edge.ensures c.min-words.ensures c.copy_from_slice.ensures.after
