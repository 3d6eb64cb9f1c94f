-- `mix` makes each word of a xor (row q of the tables and b).
use Rattle.std.proofs.Common.{rules, get_or, ◌≡◌, ◌+◌, ◌*◌}
use lib.Bits.{bit_xor, bit_and}
use Rattle.ground.proofs.Tabs.{filled_each}
use Rattle.forms.proofs.Putting.{mixed_at}
use Rattle.forms.proofs.table.mix.Goals as goal

pub returns : goal.returns
returns c =
    let filled = c.from_fn.ensures.items in
    mixed_at _ c.args.tables.now c.args.q _ c.from_fn.result filled.long
    (λ i h.
    filled_each
    (λ j x.
    x
    ≡ bit_xor (get_or c.args.a j 0)
    (bit_and (get_or c.args.tables.now (64 * c.args.q + j) 0) (get_or c.args.b j 0)))
    (λ j x q e. search rules) filled i 0 h)
