-- `join_term` turns over, for each term of b, its union with term i.
use Rattle.std.proofs.Common.{arith, refl, ap, ◌∙◌}
use Rattle.forms.proofs.Joining.{flip_words, flip_bit, union_lt, adding_first, adding_more, adding_done}
use Rattle.forms.proofs.join.join_term.Goals as goal

pub loop-j-init : goal.loop-j-init
loop-j-init c =
    let start = ap (λ s. s.row.now) c.into_iter-j-iterator.ensures.into_iter_gives in
    let from = ap (λ s. s.from) c.into_iter-j-iterator.ensures.into_iter_gives in (
      tt,
      tt,
      start ∙ c.of-j-items.ensures.0,
      adding_first _ _ _ _ _ (from ∙ c.of-j-items.ensures.1) c.requires.1 (λ l k. refl),
    )

pub bounds-r-k : goal.bounds-r-k
bounds-r-k c = omega (arith, union_lt _ _ c.requires.0 c.in-Some.ensures.steps.1.0.high)

pub bounds-r-k-in-loop-j : goal.bounds-r-k-in-loop-j
bounds-r-k-in-loop-j c = omega (arith, union_lt _ _ c.requires.0 c.in-Some.ensures.steps.1.0.high)

pub loop-j-preserved : goal.loop-j-preserved
loop-j-preserved c =
    let sofar = c.loop-j.invariant in
    let gave = c.in-Some.ensures.steps in
    let less = union_lt _ _ c.requires.0 gave.1.0.high in (
      tt,
      tt,
      gave.0 ∙ sofar.2,
      adding_more _ _ _ _ _ _ _ _ _ sofar.2 sofar.3 gave.1 (flip_words _ _ less sofar.3.words)
          (λ l k. flip_bit _ _ l less sofar.3.words),
    )

pub returns : goal.returns
returns c =
    let all = c.loop-j.invariant in
    record { words = all.3.words; bits = adding_done _ _ _ _ _ _ all.2 all.3 c.in-None.ensures.steps.1 }
