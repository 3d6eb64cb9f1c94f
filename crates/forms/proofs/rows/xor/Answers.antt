-- `xor` fills a row, word by word.
use Rattle.std.proofs.Common.{rules, get_or, ◌≡◌}
use lib.Bits.{bit_xor}
use Rattle.ground.proofs.Tabs.{filled_each}
use Rattle.forms.proofs.Making.{xor_row}
use Rattle.forms.proofs.rows.xor.Goals as goal

pub returns : goal.returns
returns c m f g few ea eb =
    let filled = c.from_fn.ensures.items in
    xor_row m f g _ _ _ ea eb filled.long
    (λ i h.
    filled_each (λ j x. x ≡ bit_xor (get_or c.args.a j 0) (get_or c.args.b j 0)) (λ j x q e. search rules) filled i 0 h)
