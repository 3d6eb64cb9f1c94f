-- `shape::bits_above` looks at each row, and at the remainder last.
use mathlib.Core.Path.{refl}
use mathlib.Core.Bool.{not}
use borrow.Author.Rules.{rules}
use Rattle.forms.specs.Words.{fits}
use Rattle.forms.specs.Area.{row_at}
use Rattle.rewriting.specs.Shape.{bits_above}
use Rattle.rewriting.proofs.Ranges.{any_range}
use Rattle.rewriting.proofs.shape.bits_above.Goals as goal

pub returns-then-any : goal.returns-then-any
unfolding bits_above
returns-then-any c =
    let a = c.args in
    let is = any_range (λ j. not (fits a.m (row_at a.area.now j))) a.places _ _ _ _ refl c.any.ensures.ran
    (λ x b q k. search rules) in
    rw (← is, c.if-any.true)

pub returns-else-any : goal.returns-else-any
unfolding bits_above
returns-else-any c =
    let a = c.args in
    let is = any_range (λ j. not (fits a.m (row_at a.area.now j))) a.places _ _ _ _ refl c.any.ensures.ran
    (λ x b q k. search rules) in
    rw (← is, c.if-any.false) c.row_above.ensures
