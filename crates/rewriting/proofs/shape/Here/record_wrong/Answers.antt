-- `shape::Here::record_wrong` looks at the row of each shift.
use mathlib.Core.Path.{refl, ap, ◌∙◌}
use borrow.Author.Rules.{rules}
use Prim.Native.Nat.{ℕ, ◌+◌}
use Rattle.ground.specs.Fold.{some}
use Rattle.forms.specs.Area.{form_in}
use Rattle.meaning.specs.Rule.{node_at, first_of}
use Rattle.rewriting.specs.Known.{past_in}
use Rattle.rewriting.specs.Plans.{entry_for}
use Rattle.rewriting.specs.Shape.{wrong_row}
use Rattle.rewriting.proofs.Ranges.{any_range}
use Rattle.rewriting.proofs.shape.Here.record_wrong.Goals as goal

pub returns : goal.returns
returns c rule k t =
    let a = c.args in
    let test = λ (n : ℕ). wrong_row rule a.self.m (entry_for a.last) k n (node_at rule k)
    (form_in a.self.m (past_in a.self.m a.area.now) (first_of rule k + n)) in
    any_range test a.self.count _ _ _ _ refl c.any.ensures.ran (λ x b q call. search rules)
    ∙ ap (λ n. some n test) t.counts
