-- `Watcher::start` meets its contract: refused, or begun.
use mathlib.Core.Path.{refl}
use Rattle.watcher.proofs.Testing.{start_passed}
use Rattle.watcher.proofs.state.Watcher.start.Goals as goal

pub begin-requires : goal.begin-requires
begin-requires c = start_passed _ _ _ _ c.in-Ok.ensures refl
