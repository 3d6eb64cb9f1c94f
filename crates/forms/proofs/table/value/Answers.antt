-- `value` reads the form's value off its truth values.
use Rattle.ground.specs.Bits.{bit, bit_at}
use Rattle.forms.proofs.Widening.{value_here}
use Rattle.forms.proofs.table.value.Goals as goal

pub returns : goal.returns
unfolding bit bit_at
returns c m f few e = value_here _ _ _ c.truth_of-t.ensures m f few e
