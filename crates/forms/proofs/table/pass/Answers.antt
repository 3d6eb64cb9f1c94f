-- `pass` makes each word of the row after the pass of parameter p.
use Rattle.std.proofs.Common.{rules, ◌<◌, ◌^◌}
use Rattle.forms.specs.inside.Steps.{PassedWord}
use Rattle.ground.proofs.Tabs.{filled_each}
use Rattle.forms.proofs.Passing.{passed_row}
use Rattle.forms.proofs.table.pass.Goals as goal

pub returns : goal.returns
returns c =
    let filled = c.from_fn.ensures.items in
    passed_row _ c.from_fn.result _ filled.long
    (λ i h.
    filled_each (λ i x. (x < 2 ^ 64) × PassedWord c.args.row c.args.p i x) (λ i x q e. search rules) filled i 0 h)
