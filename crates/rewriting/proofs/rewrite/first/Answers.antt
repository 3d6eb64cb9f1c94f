-- `rewrite::first` meets its contract: past rows with no derived rows, and the scratch cleared.
use Rattle.rewriting.proofs.Rewritten.{first_done}
use Rattle.rewriting.proofs.rewrite.first.Goals as goal

pub returns : goal.returns
returns c =
    first_done _ _ c.requires.0 _ c.requires.2 _ _ _ c.rule_rows.ensures
    c.clear.ensures
