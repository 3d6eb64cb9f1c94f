-- `ending::end_values` sets the value of shift after shift.
use Prim.Native.Nat.{◌≤◌}
use Rattle.rewriting.specs.inside.Endings.{OfEnds}
use Rattle.rewriting.proofs.ending.end_values.Given as goal

abbrev pub invariant-loop-n : goal.invariant-loop-n
invariant-loop-n l =
    (l.n ≤ l.count) × OfEnds l.step l.n l.forms l.past l.setting l.grown
