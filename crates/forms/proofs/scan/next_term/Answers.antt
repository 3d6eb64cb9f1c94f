-- `next_term` finds the first term: every place that it passed has none.
use mathlib.Core.Path.{◌≡◌}
use mathlib.Core.Bool.{false}
use native.Mathlib.Omega.{arith}
use Rattle.ground.specs.Bits.{bit_at}
use Rattle.forms.proofs.Scanning.{bit_here, bit_absent, word_absent, onwards, only_one}
use Rattle.forms.proofs.scan.next_term.Goals as goal

pub returns-then-left-eq1 : goal.returns-then-left-eq1
returns-then-left-eq1 c =
    record {
      low = c.loop-k.invariant.0;
      high = c.loop-k-test.true;
      here = bit_here _ _ c.if-left-eq1.true;
      none = c.loop-k.invariant.1;
    }

pub loop-k-preserved-then-left-eq0 : goal.loop-k-preserved-then-left-eq0
loop-k-preserved-then-left-eq0 c = (
  omega arith,
  onwards (λ i. bit_at _ i ≡ false) _ _ _ c.loop-k.invariant.1
      (λ i h l. word_absent _ _ i c.if-left-eq0.true h l),
)

pub loop-k-preserved : goal.loop-k-preserved
loop-k-preserved c = (
  omega arith,
  onwards (λ i. bit_at _ i ≡ false) _ _ _ c.loop-k.invariant.1
      (only_one (λ i. bit_at _ i ≡ false) _ (bit_absent _ _ c.if-left-eq1.false)),
)
