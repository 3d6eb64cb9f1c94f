-- A byte, and then a text, put into a lent buffer from a place on. Nobody outside has to believe it.
use Rattle.std.specs.Prelude.{◌≡◌, cond, List, [], ◌∷◌, ℕ, ◌+◌, ltb, length, set}
use Rattle.lines.specs.declared.line.Line.{Line}

-- nothing is put past the end
unfoldable pub put_byte : ℕ × List ℕ → ℕ → ℕ × List ℕ
put_byte o b = cond (ltb o.0 (length o.1)) (o.0 + 1, set o.1 o.0 b) o

unfoldable pub put_text : ℕ × List ℕ → List ℕ → ℕ × List ℕ
put_text o [] = o
put_text o (b ∷ text) = put_text (put_byte o b) text

-- the line goes on in the same buffer, and a text is put behind what it had
pub record Puts (old new : Line) (text : List ℕ) : Type 0 where
  pub same_buffer : new.out.ghost_name ≡ old.out.ghost_name
  pub behind : (new.at, new.out.now) ≡ put_text (old.at, old.out.now) text
