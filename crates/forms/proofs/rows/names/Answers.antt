-- `names` is the union of the row's terms.
use Rattle.std.proofs.Common.{ap, ◌∙◌}
use Rattle.forms.proofs.Reading.{naming_first, naming_more, naming_done}
use Rattle.forms.proofs.rows.names.Goals as goal

pub loop-k-init : goal.loop-k-init
loop-k-init c =
    let start = ap (λ s. s.row.now) c.into_iter-k-iterator.ensures.into_iter_gives in
    let from = ap (λ s. s.from) c.into_iter-k-iterator.ensures.into_iter_gives in
    (tt, tt, start ∙ c.of-k-items.ensures.0, naming_first _ _ (from ∙ c.of-k-items.ensures.1))

pub loop-k-preserved : goal.loop-k-preserved
loop-k-preserved c =
    let sofar = c.loop-k.invariant in
    let gave = c.in-Some.ensures.steps in
    (tt, tt, gave.0 ∙ sofar.2, naming_more _ _ _ _ _ _ sofar.2 sofar.3 gave.1)

pub returns : goal.returns
returns c m f few e =
    let all = c.loop-k.invariant in
    naming_done m f _ _ _ _ few e all.2 all.3 c.in-None.ensures.steps.1
