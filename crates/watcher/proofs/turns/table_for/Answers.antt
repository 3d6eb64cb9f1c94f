-- `turns::table_for` fills a table of its own.
use native.Mathlib.Omega.{arith}
use borrow.Author.Rules.{rules}
use Rattle.rewriting.proofs.Tables.{table_held}
use Rattle.watcher.proofs.turns.table_for.Goals as goal

pub forms_of-requires : goal.forms_of-requires
forms_of-requires c =
    let sound = c.args.rule.sound in (omega (arith, sound.few, sound.room), omega (arith, c.requires), search rules)

pub returns : goal.returns
returns c =
    table_held _ _ _ _ _ (omega (arith, c.requires)) c.forms_of.ensures
