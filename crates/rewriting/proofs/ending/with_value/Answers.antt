-- `ending::with_value` sets a bit where the value is true.
use Rattle.rewriting.proofs.Endings.{with_true}
use Rattle.rewriting.proofs.ending.with_value.Goals as goal

pub returns-then-b : goal.returns-then-b
returns-then-b c = with_true _ _ _ c.requires c.if-b.true
