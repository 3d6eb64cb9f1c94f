-- `rule::record_at` meets its contract: the six bytes that a record has.
use Rattle.rewriting.specs.Decode.{record_in}
use Rattle.rewriting.proofs.rule.record_at.Goals as goal

pub returns : goal.returns
unfolding record_in
returns c = cc
