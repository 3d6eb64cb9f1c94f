-- `derived::until_later` moves the shift by the gap to the record beside.
use mathlib.Core.Path.{ap, ◌∙◌}
use Rattle.forms.specs.Words.{pack}
use Rattle.meaning.specs.Rewriting.{put}
use Rattle.rewriting.specs.inside.Steps.{later_of}
use Rattle.rewriting.proofs.Shifts.{nothing}
use Rattle.rewriting.proofs.Neighbours.{later_gone, later_to}
use Rattle.rewriting.proofs.derived.until_later.Goals as goal

pub returns-in_default : goal.returns-in_default
unfolding later_of
returns-in_default c forms derived e h =
    let step = c.args.step in
    c.constant.ensures _
    ∙ ap (pack step.m) (later_gone _ forms _ _ _ derived step.first _ _ _ c.moved.ensures.0
    (nothing _ c.in_default.not-Some))

pub returns : goal.returns
unfolding later_of put
returns c forms derived e h =
    let step = c.args.step in
    let few = c.args.step.few in
    c.and.ensures step.m _ _ few (c.put_in-kept.ensures step.m _ derived few e h) c.parameter.ensures
    ∙ ap (pack step.m) (later_to _ forms _ _ _ derived step.first _ _ _ c.moved.ensures.0 _ c.in-Some.is)
