-- `turns::padded` has the list's byte at each place.
use mathlib.Core.Path.{◌≡◌}
use borrow.Author.Rules.{rules}
use lib.ListN.{get_or}
use Rattle.ground.proofs.Tabs.{tab_is, filled_each}
use Rattle.watcher.specs.Calls.{padded}
use Rattle.watcher.proofs.turns.padded.Goals as goal

pub returns : goal.returns
unfolding padded
returns c =
    let filled = c.from_fn.ensures.items in
    let at = filled_each (λ i x. x ≡ get_or c.args.list.now i 0) (λ i x q e. search rules) filled in
    tab_is _ _ c.from_fn.result 0 filled.long (λ i h. at i 0 h)
