-- `ending::close` writes the constant and clears the scratch.
use Rattle.rewriting.proofs.Laid.{closed_laid}
use Rattle.rewriting.proofs.ending.close.Goals as goal

pub returns : goal.returns
returns c =
    closed_laid c.args.plan _ _ _ _ _ c.requires.1 (c.constant.ensures _)
    (record { rest = c.store.ensures; zeros = c.clear.ensures })
