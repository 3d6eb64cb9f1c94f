-- `rewrite::feed` meets its contract: derived rows, the remainder, past rows, and the scratch cleared.
use Rattle.rewriting.proofs.Rewritten.{feed_done}
use Rattle.rewriting.proofs.rewrite.feed.Goals as goal

pub returns : goal.returns
returns c =
    feed_done _ _ c.requires.0 _ c.requires.2 _ _ _ _ _ _ _ _ c.rule_rows.ensures c.load.ensures
    c.put_in-rest.ensures c.store.ensures c.rule_rows-2.ensures c.clear.ensures
