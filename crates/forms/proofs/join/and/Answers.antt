-- `and` joins each term of a with each term of b: document 000's conjunction.
use Rattle.std.proofs.Common.{ap, ◌∙◌}
use Rattle.ground.proofs.Numbers.{zero_words, zero_bit}
use Rattle.forms.proofs.Joining.{adding_first, adding_more, adding_done, joined_and}
use Rattle.forms.proofs.join.and.Goals as goal

pub loop-i-init : goal.loop-i-init
loop-i-init c =
    let start = ap (λ s. s.row.now) c.into_iter-i-iterator.ensures.into_iter_gives in
    let from = ap (λ s. s.from) c.into_iter-i-iterator.ensures.into_iter_gives in (
      tt,
      tt,
      start ∙ c.of-i-items.ensures.0,
      adding_first _ _ _ _ _ (from ∙ c.of-i-items.ensures.1) (zero_words 64) (λ l k. zero_bit 64 l),
    )

pub join_term-requires : goal.join_term-requires
join_term-requires c = (c.in-Some.ensures.steps.1.0.high, c.loop-i.invariant.3.words)

pub loop-i-preserved : goal.loop-i-preserved
loop-i-preserved c =
    let sofar = c.loop-i.invariant in
    let gave = c.in-Some.ensures.steps in
    let joined = c.join_term.ensures in
    (tt, tt, gave.0 ∙ sofar.2, adding_more _ _ _ _ _ _ _ _ _ sofar.2 sofar.3 gave.1 joined.words joined.bits)

pub returns : goal.returns
returns c m f g few ea eb =
    let all = c.loop-i.invariant in
    joined_and m f g _ _ few ea eb _ all.3.words (adding_done _ _ _ _ _ _ all.2 all.3 c.in-None.ensures.steps.1)
