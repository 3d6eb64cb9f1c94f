-- `bad_signals` looks at each record of the list.
use mathlib.Core.Path.{refl, ap, ◌∙◌}
use borrow.Author.Rules.{rules}
use Rattle.ground.specs.Fold.{some}
use Rattle.rewriting.proofs.Ranges.{any_range}
use Rattle.watcher.specs.Signals.{signal_breaks}
use Rattle.watcher.proofs.signals.bad_signals.Goals as goal

pub returns : goal.returns
returns c =
    let test = signal_breaks c.args.list.now in
    any_range test c.records_of.result _ _ _ _ refl c.any.ensures.ran (λ x b q k. search rules)
    ∙ ap (λ n. some n test) c.records_of.ensures
