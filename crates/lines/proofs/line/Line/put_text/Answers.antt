-- `Line::put_text` puts byte by byte.
use lib.Seq.{take-suc}
use native.Mathlib.Numerals.{add-one}
use Rattle.lines.proofs.Texts.{puts_none, puts_then}
use Rattle.lines.proofs.line.Line.put_text.Goals as goal

pub loop-byte-init : goal.loop-byte-init
loop-byte-init c = puts_none _

pub loop-byte-preserved : goal.loop-byte-preserved
loop-byte-preserved c =
    rw (add-one c.loop-byte.byte-index, take-suc c.args.text.now c.loop-byte.byte-index 0 c.loop-byte-test.true)
    (puts_then c.loop-byte.invariant c.put.ensures)
