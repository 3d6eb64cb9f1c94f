-- `Watcher::feed` meets its contract: refused, or advanced.
use mathlib.Core.Path.{refl}
use borrow.Author.Rules.{rules}
use Rattle.watcher.proofs.Testing.{feed_passed}
use Rattle.watcher.proofs.state.Watcher.feed.Goals as goal

pub advance-requires : goal.advance-requires
advance-requires c = feed_passed _ _ (λ i. search rules) _ _ c.in-Ok.ensures refl
