-- `names_missing` looks at each record of the rule.
use mathlib.Core.Path.{refl, ap, ◌∙◌}
use borrow.Author.Rules.{rules}
use Rattle.ground.specs.Fold.{some}
use Rattle.rewriting.proofs.Ranges.{any_range}
use Rattle.watcher.specs.Signals.{names_missing_at, names_missing}
use Rattle.watcher.proofs.signals.names_missing.Goals as goal

pub returns : goal.returns
unfolding names_missing
returns c =
    let test = names_missing_at c.args.rule.now c.args.signals in
    any_range test c.records_of.result _ _ _ _ refl c.any.ensures.ran (λ x b q k. search rules)
    ∙ ap (λ n. some n test) c.records_of.ensures
