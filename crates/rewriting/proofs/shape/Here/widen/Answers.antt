-- `shape::Here::widen` takes the own parameters in where the record looks forward.
use mathlib.Core.Path.{◌≡◌, refl}
use mathlib.Core.Bool.{true}
use Rattle.rewriting.specs.Shape.{looks_forward}
use Rattle.rewriting.proofs.ByKind.{kind_future, looks_back}
use Rattle.rewriting.proofs.RecordRows.{widen_kept, widen_own}
use Rattle.rewriting.proofs.shape.Here.widen.Goals as goal

pub returns-in-Next : goal.returns-in-Next
unfolding looks_forward
returns-in-Next c =
    widen_own c.args.self
    (kind_future c.args.self.record (λ d. looks_forward d ≡ true) refl refl c.in-Next.is)

pub returns-in_default : goal.returns-in_default
returns-in_default c =
    widen_kept c.args.self (looks_back c.args.self.record c.in_default.not-Next c.in_default.not-Until)
