-- `layout::read_state` reads the lists, the numbers and the phase.
use Rattle.std.proofs.Common.{arith, refl}
use Rattle.ground.proofs.ByteLaws.{of_two, of_four}
use Rattle.port.proofs.Layouts.{read_none, read_some}
use Rattle.port.proofs.layout.read_state.Goals as goal

pub returns-then-number-gt3 : goal.returns-then-number-gt3
returns-then-number-gt3 c = read_none _ _ c.if-number-gt3.true c.zero_state.ensures

pub overflow_cast-time : goal.overflow_cast-time
overflow_cast-time c = omega (arith, (of_four _ _ _ (λ i. (c.type_inv.bytes i).fits) c.little-time.ensures).1)

pub overflow_cast-signals : goal.overflow_cast-signals
overflow_cast-signals c = omega (arith, (of_two _ _ _ (λ i. (c.type_inv.bytes i).fits) c.little-signals.ensures).1)

pub returns : goal.returns
returns c =
    read_some _ _ _ _ _ _ _ _ _ refl c.if-number-gt3.false
    c.list_at.ensures c.list_at-2.ensures c.little-time.ensures c.little-signals.ensures
    c.phase_with.ensures c.little.ensures c.little-2.ensures
