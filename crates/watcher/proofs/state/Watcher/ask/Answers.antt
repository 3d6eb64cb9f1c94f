-- `Watcher::ask` meets its contract: refused, or the verdict of the value.
use mathlib.Core.Path.{refl}
use Rattle.watcher.proofs.Testing.{close_passed}
use Rattle.watcher.proofs.state.Watcher.ask.Goals as goal

pub value_now-requires : goal.value_now-requires
value_now-requires c = close_passed _ _ (λ i. (c.type_inv.area i).fits) _ c.in_ok-close_refusal.ensures refl
