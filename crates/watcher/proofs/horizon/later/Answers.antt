-- `horizon::later` meets its contract: one law for each way out.
use Rattle.std.proofs.Common.{◌≡◌, None, ap, ◌∙◌, arith}
use Rattle.watcher.specs.Numbers.{horizon_for}
use Rattle.watcher.proofs.Horizons.{later_endless, later_none, later_high}
use Rattle.watcher.proofs.horizon.later.Goals as goal

pub returns-then-endless-clause-same : goal.returns-then-endless-clause-same
returns-then-endless-clause-same c = later_endless _ _ c.endless.ensures _ c.if-endless.true

pub returns-in_err-a-clause-same : goal.returns-in_err-a-clause-same
returns-in_err-a-clause-same c =
    let gone : c.from_residual.result ≡ None = grind arith in
    ap horizon_for gone ∙ later_none _ _ c.endless.ensures _ c.in_err-a.was

pub returns-clause-same : goal.returns-clause-same
returns-clause-same c = later_high _ _ c.endless.ensures _ c.if-endless.false _ c.in_ok-a.was
