-- `Line::put` puts a byte where there is room.
use mathlib.Core.Path.{refl}
use Rattle.lines.specs.inside.Puts.{put_text}
use Rattle.lines.proofs.Texts.{byte_fits, byte_full}
use Rattle.lines.proofs.line.Line.put.Goals as goal

pub returns-then-self : goal.returns-then-self
unfolding put_text
returns-then-self c = record { same_buffer = refl; behind = byte_fits _ _ _ c.if-self.true }

pub returns-else-self : goal.returns-else-self
unfolding put_text
returns-else-self c = record { same_buffer = refl; behind = byte_full _ _ _ c.if-self.false }
