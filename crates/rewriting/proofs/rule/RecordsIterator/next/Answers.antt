-- `next` counts over one record more.
use native.Mathlib.Omega.{arith}
use Rattle.rewriting.proofs.Listing.{counted_more}
use Rattle.rewriting.proofs.Rules.{record_count}
use Rattle.rewriting.proofs.rule.RecordsIterator.next.Goals as goal

pub invariant_of-self : goal.invariant_of-self
invariant_of-self c =
    let s = c.args.self.now in
    let counted = record_count s.list.now s.k _ c.record_at-record.ensures _ c.count_of.ensures.0 in
    record {
      counted = counted_more _ _ _ _ _ s.counted (omega (arith, c.if-k-self.false)) counted
          c.count_of.ensures.1;
    }
