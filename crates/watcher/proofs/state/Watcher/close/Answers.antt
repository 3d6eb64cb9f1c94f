-- `Watcher::close` meets its contract: refused as asking is, or finished with its verdict.
use mathlib.Core.Path.{refl}
use borrow.Author.Rules.{rules}
use Rattle.watcher.proofs.Testing.{close_passed}
use Rattle.watcher.proofs.Asking.{ask_fine}
use Rattle.watcher.proofs.state.Watcher.close.Goals as goal

pub finish-requires : goal.finish-requires
finish-requires c = close_passed _ _ (λ i. search rules) _ (ask_fine _ _ _ _ c.in-Ok.ensures _ refl) refl
