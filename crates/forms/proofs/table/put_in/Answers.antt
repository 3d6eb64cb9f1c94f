-- `put_in` leaves a constant, takes the row of a parameter, negated or not, and else goes by truth values.
use Rattle.std.proofs.Common.{sym}
use Rattle.forms.proofs.Scanning.{unseen}
use Rattle.forms.proofs.Widening.{put_constant, put_lone}
use Rattle.forms.proofs.table.put_in.Goals as goal

pub returns-then-is_none : goal.returns-then-is_none
returns-then-is_none c =
    put_constant _ _ _ _ (unseen _ _ _ _ (sym c.if-is_none.ensures) c.next_term.ensures)

pub returns-in-Some : goal.returns-in-Some
returns-in-Some c = put_lone _ _ _ _ _ _ c.in-Some.ensures c.row-r.ensures
