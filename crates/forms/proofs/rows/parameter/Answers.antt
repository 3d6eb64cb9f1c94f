-- `parameter` is the row of the term of p alone, or zeros.
use Rattle.std.proofs.Common.{arith, sym, subst, ◌<◌}
use Rattle.ground.proofs.Bits.{one_shl}
use Rattle.forms.specs.inside.Steps.{Alone}
use Rattle.forms.proofs.Packing.{term_room}
use Rattle.forms.proofs.Making.{parameter_row, parameter_far, parameter_past}
use Rattle.forms.proofs.rows.parameter.Goals as goal
use Rattle.forms.proofs.rows.parameter.Goals.{else-p-m-via-then-p-m+else-p-lt12, else-p-m-via-else-p-m}

pub alone-requires : goal.alone-requires
alone-requires c =
    subst (λ x. x < 4096) (sym (one_shl c.args.p (omega arith)))
    (term_room _ c.if-p-lt12.true)

pub returns-then-p-lt12 : goal.returns-then-p-lt12
returns-then-p-lt12 c =
    parameter_row _ _ _ c.if-p-m.true
    (subst (λ x. Alone x c.alone.result) (one_shl c.args.p (omega arith))
    c.alone.ensures)

pub returns-else-p-m : goal.returns-else-p-m
returns-else-p-m c =
    elim c.else-p-m.branch [
      | else-p-m-via-then-p-m+else-p-lt12 w ↦ parameter_far _ _ w.if-p-m.true w.if-p-lt12.false
      | else-p-m-via-else-p-m w ↦ parameter_past _ _ w.if-p-m.false
    ]
