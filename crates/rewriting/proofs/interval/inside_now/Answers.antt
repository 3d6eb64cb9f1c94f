-- `interval::inside_now` asks whether the shift has reached low.
use Rattle.rewriting.proofs.Ends.{inside_same}
use Rattle.rewriting.proofs.interval.inside_now.Goals as goal

pub returns : goal.returns
returns c =
    let a = c.args in inside_same a.interval a.shift a.here
