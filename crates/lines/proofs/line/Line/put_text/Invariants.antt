-- `Line::put_text` puts byte by byte.
use lib.ListN.{take}
use Rattle.lines.specs.inside.Puts.{Puts}
use Rattle.lines.proofs.line.Line.put_text.Given as goal

abbrev pub invariant-loop-byte : goal.invariant-loop-byte
invariant-loop-byte l = Puts l.initial.self l.self (take l.byte-index l.text)
