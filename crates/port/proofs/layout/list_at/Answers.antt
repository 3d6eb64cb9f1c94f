-- `layout::list_at` copies the list from its place.
use Rattle.std.proofs.Common.{◌∙◌}
use Rattle.port.proofs.Layouts.{list_there}
use Rattle.port.proofs.layout.list_at.Goals as goal

pub returns : goal.returns
returns c = c.copy_from_slice.ensures.after ∙ list_there _ _ c.requires
