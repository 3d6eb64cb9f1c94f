-- `lists::first_broken` meets its contract: the search of record k finds its lowest byte that breaks the layout.
use mathlib.Core.Path.{ap, ◌∙◌}
use Rattle.std.proofs.Common.{rules}
use Rattle.rewriting.specs.Decode.{record_bytes}
use Rattle.watcher.specs.Places.{first_where}
use Rattle.watcher.specs.Rules.{records_of, first_broken, byte_breaks}
use Rattle.watcher.proofs.lists.first_broken.Goals as goal

pub returns : goal.returns
unfolding first_broken records_of
returns c =
    c.first_place.ensures (λ k. record_bytes) (byte_breaks c.args.list.now) (λ k r h is. search rules)
    ∙ ap (λ n. first_where n (λ k. record_bytes) (byte_breaks c.args.list.now)) c.records_of.ensures
