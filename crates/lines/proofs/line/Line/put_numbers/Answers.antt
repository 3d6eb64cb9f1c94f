-- `Line::put_numbers` puts the numbers below k that pass, for k from 0 on.
use native.Mathlib.Omega.{arith}
use mathlib.Core.Path.{◌≡◌, refl, sym, ◌∙◌}
use mathlib.Core.Bool.{true, false}
use Rattle.ground.specs.Fold.{fold}
use Rattle.lines.specs.Text.{listed_text, numbers_text}
use Rattle.lines.proofs.Texts.{puts_none, puts_then, from_same}
use Rattle.lines.proofs.Numbers.{numbers_more, numbers_none}
use Rattle.lines.proofs.line.Line.put_numbers.Goals.{then-test, then-any, else-any, else-test}
use Rattle.lines.proofs.line.Line.put_numbers.Goals as goal

pub loop-k-init : goal.loop-k-init
unfolding fold numbers_text
loop-k-init g c = (omega arith, λ is_put h. (puts_none _, refl))

pub loop-k-preserved : goal.loop-k-preserved
unfolding listed_text
loop-k-preserved g c =
    let k = c.loop-k.k in (
      omega arith,
      λ is_put h.
          let p = c.loop-k.invariant.1 is_put h in
          let here = h k c.test.result c.loop-k-test.true c.test.ensures in
          elim c.if-test.branch [
            | then-test w ↦
                rw (w.self-is, w.any-is)
                (elim w.if-any.branch [
                  | then-any v ↦
                      numbers_more is_put k true (sym v.if-any.true ∙ p.1) p.0 true (sym w.if-test.true ∙ here)
                      (puts_then v.put.ensures (from_same v.self-is w.put_number.ensures))
                  | else-any v ↦
                      numbers_more is_put k false (sym v.if-any.false ∙ p.1) p.0 true (sym w.if-test.true ∙ here)
                      (from_same v.self-is w.put_number.ensures)
                ])
            | else-test w ↦
                rw (w.self-is, w.any-is) (numbers_none is_put k _ p.1 p.0 (sym w.if-test.false ∙ here))
          ],
    )

pub returns : goal.returns
returns g c =
    λ is_put h. let e : c.loop-k.k ≡ c.args.end = omega arith in rw (← e) (c.loop-k.invariant.1 is_put h)
