-- `signal_breaks` looks at the channel, at the sense, and then at the last four bytes as a number.
use mathlib.Core.Path.{sym, ap, ◌∙◌}
use mathlib.Core.Bool.{not}
use mathlib.Core.Logic.{⊎_elim}
use native.Mathlib.Omega.{arith}
use borrow.Author.Tests.{lt-ltb}
use lib.Dec.{eqb}
use Rattle.rewriting.specs.Decode.{byte_of}
use Rattle.watcher.specs.Rules.{records_of}
use Rattle.watcher.proofs.RecordLaws.{first_byte, signal_low, signal_high, signal_sense, signal_zeros}
use Rattle.watcher.proofs.signals.signal_breaks.Goals as goal

pub overflow_mul-at : goal.overflow_mul-at
unfolding records_of
overflow_mul-at c = omega arith

pub returns-then-channel-lt1 : goal.returns-then-channel-lt1
returns-then-channel-lt1 c =
    let list = c.args.list.now in
    let k = c.args.k in
    let first = first_byte list k ∙ sym c.byte-channel.ensures in
    ⊎_elim (λ w. signal_low list k (omega (arith, first))) (λ w. signal_high list k (omega (arith, first, w.1)))
    c.then-channel-lt1.either

pub returns-then-byte-gt1 : goal.returns-then-byte-gt1
unfolding byte_of
returns-then-byte-gt1 c =
    lt-ltb _ _ c.if-byte-gt1.true ∙ signal_sense c.args.list.now c.args.k (omega arith)

pub returns-else-byte-gt1 : goal.returns-else-byte-gt1
unfolding byte_of
returns-else-byte-gt1 c =
    let list = c.args.list.now in
    let k = c.args.k in
    ap (λ x. not (eqb x 0)) c.little.ensures
    ∙ signal_zeros list k (omega (arith, first_byte list k)) (omega (arith, first_byte list k)) (omega arith)
