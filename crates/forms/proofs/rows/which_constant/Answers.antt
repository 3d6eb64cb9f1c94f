-- `which_constant` looks for a term that is not the empty one, and then for the empty one.
use Rattle.forms.proofs.Scanning.{seen, unseen}
use Rattle.forms.proofs.Reading.{read_open, read_true, read_false}
use Rattle.forms.proofs.rows.which_constant.Goals as goal

pub returns-then-is_some : goal.returns-then-is_some
returns-then-is_some c m f few e =
    let other = seen _ _ _ _ c.if-is_some.ensures c.next_term.ensures in
    read_open m f _ few e _ other.1

pub returns-then-is_some-2 : goal.returns-then-is_some-2
returns-then-is_some-2 c m f few e =
    let empty = seen _ _ _ _ c.if-is_some-2.ensures c.next_term-2.ensures in
    read_true m f _ few e (unseen _ _ _ _ c.if-is_some.ensures c.next_term.ensures) _ empty.1

pub returns-else-is_some-2 : goal.returns-else-is_some-2
returns-else-is_some-2 c m f few e =
    read_false m f _ few e (unseen _ _ _ _ c.if-is_some.ensures c.next_term.ensures)
    (unseen _ _ _ _ c.if-is_some-2.ensures c.next_term-2.ensures)
