-- `shape::names_other` joins the named parameters to the allowed ones.
use Rattle.rewriting.proofs.ShapeLaws.{names_other_lem}
use Rattle.rewriting.proofs.shape.names_other.Goals as goal

pub returns : goal.returns
returns c m f few e = names_other_lem m f _ _ few c.requires (c.names-named.ensures m f few e)
