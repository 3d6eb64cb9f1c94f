-- `put_by_values` goes to the truth values of the named rows, puts in, and comes back.
use Rattle.forms.proofs.Widening.{put_rows_lem}
use Rattle.forms.proofs.table.put_by_values.Goals as goal

pub returns : goal.returns
returns c =
    put_rows_lem _ _ _ _ _ _ _ _ c.names.ensures c.tables-ts.ensures c.put_terms-v.ensures
    c.truth_of.ensures
