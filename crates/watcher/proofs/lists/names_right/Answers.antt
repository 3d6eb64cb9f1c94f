-- `lists::names_right` meets its contract: a signal, or an earlier record.
use mathlib.Core.Path.{refl}
use borrow.Author.Tests.{ne_eqb}
use Rattle.rewriting.specs.Decode.{kind_number}
use Rattle.watcher.specs.Rules.{names_right}
use Rattle.watcher.proofs.Checking.{no_signal}
use Rattle.watcher.proofs.lists.names_right.Goals as goal

pub returns-in-Signal : goal.returns-in-Signal
unfolding kind_number names_right
returns-in-Signal c = rw c.in-Signal.is refl

pub returns-in_default : goal.returns-in_default
unfolding names_right
returns-in_default c = rw (ne_eqb _ 3 (no_signal _ c.in_default.not-Signal)) refl
