-- `walk::forms_of` meets its contract: the forms of the first `k` records are in the table.
use mathlib.Core.Path.{◌≡◌}
use lib.ListN.{length}
use Rattle.forms.specs.Area.{put_rows}
use Rattle.meaning.specs.Rewriting.{forms_of}
use Rattle.rewriting.specs.Decode.{rule_in}
use Rattle.rewriting.specs.Plans.{form_row}
use Rattle.rewriting.proofs.walk.forms_of.Given as goal

abbrev pub invariant-loop-k : goal.invariant-loop-k
invariant-loop-k l =
    let left = l.k-iterator in
    (goal.iterator-loop-k).can_next left × (goal.iterator-loop-k).is_finite left
    × (left.list.now ≡ l.list) × (left.records ≡ l.records)
    × (length l.table ≡ length l.initial.table)
    × (l.table ≡ put_rows l.initial.table 0 left.k (form_row l.m (forms_of l.m (rule_in l.list l.records) l.records)))
