-- `constant` is the row of the empty term, or zeros.
use mathlib.Core.Path.{sym, ap, ◌∙◌}
use Rattle.forms.specs.Form.{constant}
use Rattle.forms.specs.Words.{pack}
use Rattle.forms.proofs.Packing.{pack_false}
use Rattle.forms.proofs.Making.{true_row}
use Rattle.forms.proofs.rows.constant.Goals as goal

pub returns-then-b : goal.returns-then-b
returns-then-b c m = true_row m _ c.alone.ensures ∙ ap (λ b. pack m (constant m b)) (sym c.if-b.true)

pub returns-else-b : goal.returns-else-b
returns-else-b c m = pack_false m ∙ ap (λ b. pack m (constant m b)) (sym c.if-b.false)
