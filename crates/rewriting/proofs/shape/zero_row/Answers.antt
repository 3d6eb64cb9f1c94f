-- `shape::zero_row` compares the row with zeros.
use mathlib.Core.Path.{◌∙◌}
use borrow.Author.Rules.{rules}
use Rattle.rewriting.proofs.TidyRows.{zero_row_equal}
use Rattle.rewriting.proofs.shape.zero_row.Goals as goal

pub returns : goal.returns
returns c = c.eq.ensures ∙ zero_row_equal c.args.row (search rules)
