-- `past::since_earlier` moves the shift by the gap to the record beside.
use mathlib.Core.Path.{ap, ◌∙◌}
use Rattle.forms.specs.Words.{pack}
use Rattle.meaning.specs.Rewriting.{put}
use Rattle.rewriting.specs.inside.Steps.{earlier_of}
use Rattle.rewriting.proofs.Shifts.{nothing}
use Rattle.rewriting.proofs.Neighbours.{earlier_gone, earlier_to}
use Rattle.rewriting.proofs.past.since_earlier.Goals as goal

pub returns-in_default : goal.returns-in_default
unfolding earlier_of
returns-in_default c forms derived past e hm ht =
    let step = c.args.step in
    c.constant.ensures _
    ∙ ap (pack step.m) (earlier_gone _ forms _ _ _ derived step.first _ _ _ c.moved.ensures.0 past
    (nothing _ c.in_default.not-Some))

pub returns : goal.returns
unfolding earlier_of put
returns c forms derived past e hm ht =
    let step = c.args.step in
    let few = c.args.step.few in
    c.and.ensures step.m _ _ few (c.put_in-kept.ensures step.m _ past few e hm)
    (c.put_in-before.ensures step.m _ past few (c.row-moved.ensures step.m derived ht) hm)
    ∙ ap (pack step.m) (earlier_to _ forms _ _ _ derived step.first _ _ _ c.moved.ensures.0 past _ c.in-Some.is)
