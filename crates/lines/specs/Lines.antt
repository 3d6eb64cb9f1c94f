-- What each function answers: the text of a line in a lent buffer, and how many bytes it has there.
use Rattle.std.specs.Prelude.{Bool, true, false, List, [], ◌++◌, ℕ, min, length, take, drop, is_ok}
use Rattle.watcher.specs.declared.state.Watcher.{Watcher}
use Rattle.watcher.specs.declared.state.Started.{Started}
use Rattle.watcher.specs.declared.state.Fed.{Fed}
use Rattle.watcher.specs.Records.{time_of}
use Rattle.watcher.specs.Calls.{start_of, feed_of, ask_of}
use Rattle.lines.specs.declared.turns.Opened.{Opened}
use Rattle.lines.specs.declared.turns.Turn.{Turn}
use Rattle.lines.specs.Text.{found_line, answer_line, ask_text, end_line}
use Rattle.lines.specs.Blind.{is_blind, blind_text}

-- a text at the beginning of a buffer: what does not fit is cut off, and what is behind stays
unfoldable pub placed : (out text : List ℕ) → ℕ × List ℕ
placed out text = (min (length text) (length out), take (length out) text ++ drop (length text) out)

-- start: a line where it is refused, and whether it is ready
unfoldable pub started_line : (out : List ℕ) → Started × List ℕ → Opened × List ℕ × List ℕ
started_line out s =
    let line : ℕ × List ℕ = placed out (found_line s.0.found) in (
      record { next = s.0.next; ready = is_ok s.0.found; length = line.0 },
      s.1,
      line.1,
    )

unfoldable pub start_line : (rule signals ws out : List ℕ) → Opened × List ℕ × List ℕ
start_line rule signals ws out = started_line out (start_of rule signals ws)

-- what stands behind the word of a record, of the state and area after it: nothing, or more
unfoldable pub behind_text : (piece : List ℕ) (more : Bool) → Watcher → (ws : List ℕ) → List ℕ
behind_text piece false w ws = []
behind_text piece true w ws = ask_text (ask_of w ws) ++ blind_text (is_blind w.list w.signals piece)

-- the line of a piece, by what feeding it hands back
unfoldable pub piece_line : (piece : List ℕ) (more : Bool) → Fed × List ℕ → List ℕ
piece_line piece more f = answer_line (time_of piece) (behind_text piece more f.0.next f.1) f.0.answer

-- feed a piece
unfoldable pub fed_line : (piece : List ℕ) (more : Bool) (out : List ℕ) → Fed × List ℕ → Turn × List ℕ × List ℕ
fed_line piece more out f =
    let line : ℕ × List ℕ = placed out (piece_line piece more f) in
    (record { next = f.0.next; length = line.0 }, f.1, line.1)

unfoldable pub feed_line : Watcher → (piece : List ℕ) (more : Bool) (ws out : List ℕ) → Turn × List ℕ × List ℕ
feed_line w piece more ws out = fed_line piece more out (feed_of w piece ws)

-- ask how the log ends: how many bytes the line has, and the buffer
unfoldable pub ask_line : Watcher → (ws out : List ℕ) → ℕ × List ℕ
ask_line w ws out = placed out (end_line (ask_of w ws))
