-- `shape::not_zero_from` looks at each row.
use mathlib.Core.Path.{refl}
use mathlib.Core.Bool.{not, ◌&&◌}
use borrow.Author.Rules.{rules}
use lib.Dec.{leb}
use Rattle.forms.specs.Area.{row_at}
use Rattle.rewriting.specs.Shape.{zero_row, not_zero_from}
use Rattle.rewriting.proofs.Ranges.{any_range}
use Rattle.rewriting.proofs.shape.not_zero_from.Goals as goal

pub returns : goal.returns
unfolding not_zero_from
returns c =
    let a = c.args in
    any_range (λ j. leb a.from j && not (zero_row (row_at a.area.now j))) a.places _ _ _ _ refl c.any.ensures.ran
    (λ x b q k. search rules)
