-- `or` is made of the exclusive or and the conjunction, as the disjunction of forms is.
use Rattle.forms.specs.Form.{xor, and, or}
use Rattle.forms.proofs.rows.or.Goals as goal

pub returns : goal.returns
unfolding or
returns c m f g few ea eb =
    c.xor.ensures m (xor m f g) (and m f g) few (c.xor-either.ensures m f g few ea eb)
    (c.and-both.ensures m f g few ea eb)
