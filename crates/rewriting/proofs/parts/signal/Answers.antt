-- `parts::signal` reads one bit of the word; there are 16.
use mathlib.Core.Path.{sym, ◌∙◌}
use native.Mathlib.Omega.{arith}
use borrow.Author.Rules.{rules}
use borrow.Author.Tests.{le-ltb}
use Rattle.ground.specs.Bits.{bit}
use Rattle.ground.proofs.Bits.{bit_above}
use Rattle.rewriting.proofs.parts.signal.Goals as goal

pub returns-then-s-lt16 : goal.returns-then-s-lt16
unfolding bit
returns-then-s-lt16 c = search rules

pub returns-else-s-lt16 : goal.returns-else-s-lt16
returns-else-s-lt16 c =
    le-ltb _ _ c.if-s-lt16.false ∙ sym (bit_above c.args.signals 16 _ (omega arith) c.if-s-lt16.false)
