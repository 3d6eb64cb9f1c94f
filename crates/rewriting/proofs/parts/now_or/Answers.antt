-- `parts::now_or` joins both parts of an until or a since.
use Rattle.meaning.specs.Rewriting.{put, only_if}
use Rattle.rewriting.specs.inside.Steps.{now_or}
use Rattle.rewriting.proofs.Shifts.{nothing_or}
use Rattle.rewriting.proofs.parts.now_or.Goals as goal

pub returns-then-sees_itself : goal.returns-then-sees_itself
unfolding now_or only_if put
returns-then-sees_itself c f g rows ef eg h =
    let few = c.args.step.few in
    rw (← c.sees_itself.ensures, c.if-sees_itself.true)
    (c.or.ensures _ _ _ few (c.put_in.ensures _ _ rows few ef h) eg)

pub returns-else-sees_itself : goal.returns-else-sees_itself
unfolding now_or only_if
returns-else-sees_itself c f g rows ef eg h =
    rw (← c.sees_itself.ensures, c.if-sees_itself.false, nothing_or) eg
