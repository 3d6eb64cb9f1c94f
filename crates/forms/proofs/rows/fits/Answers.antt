-- `fits` looks for a term from 2 ^ m on.
use Rattle.std.proofs.Common.{rules, arith, ◌∙◌}
use borrow.Author.Tests.{le-leb}
use Rattle.forms.proofs.Reading.{fits_wide, fits_next}
use Rattle.forms.proofs.rows.fits.Goals as goal

pub returns-then-m-ge12 : goal.returns-then-m-ge12
returns-then-m-ge12 c = le-leb _ _ c.if-m-ge12.true ∙ fits_wide _ _ (search rules) c.if-m-ge12.true

pub returns-else-m-ge12 : goal.returns-else-m-ge12
returns-else-m-ge12 c =
    fits_next _ _ (search rules) (omega (arith, c.if-m-ge12.false)) _ _ c.next_term.ensures c.is_none.ensures
