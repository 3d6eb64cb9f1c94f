-- `Line::put_number` puts the digits of a tenth, if there is one, and behind them the last digit.
use Rattle.lines.proofs.Texts.{puts_then, from_same}
use Rattle.lines.proofs.Decimals.{decimal_short, decimal_long}
use Rattle.lines.proofs.line.Line.+put_number.Goals.{then-n-ge10, else-n-ge10}
use Rattle.lines.proofs.line.Line.+put_number.Goals as goal

pub returns : goal.returns
returns t c =
    elim c.if-n-ge10.branch [
      | then-n-ge10 w ↦
          rw (decimal_long c.args.n w.if-n-ge10.true)
          (puts_then w.put_number.ensures (from_same w.self-is c.put.ensures))
      | else-n-ge10 w ↦ rw (decimal_short c.args.n w.if-n-ge10.false) (from_same w.self-is c.put.ensures)
    ]
