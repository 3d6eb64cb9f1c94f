-- `Line::put_number` goes by tenths of the number.
use Rattle.lines.proofs.line.Line.+put_number.Given as goal

abbrev pub decreases-put_number : goal.decreases-put_number
decreases-put_number l = l.n
