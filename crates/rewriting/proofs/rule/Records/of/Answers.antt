-- `Records::of` has counted nothing yet.
use Rattle.rewriting.proofs.Listing.{counted_none}
use Rattle.rewriting.proofs.rule.Records.of.Goals as goal

pub invariant_of-result : goal.invariant_of-result
invariant_of-result c = record { counted = counted_none _ _ c.requires }
