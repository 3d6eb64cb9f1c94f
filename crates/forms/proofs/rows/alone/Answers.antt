-- `alone` stores one bit into zeros.
use Rattle.forms.proofs.Making.{alone_row}
use Rattle.forms.proofs.rows.alone.Goals as goal

pub returns : goal.returns
returns c = alone_row c.args.k c.requires
