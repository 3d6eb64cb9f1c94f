-- The clause of each public function: of what is handed in, and the answer with each lent list at exit.
use Rattle.std.specs.Prelude.{◌≡◌, Bool, List, ℕ}
use Rattle.watcher.specs.declared.state.Watcher.{Watcher}
use Rattle.lines.specs.declared.turns.Opened.{Opened}
use Rattle.lines.specs.declared.turns.Turn.{Turn}
use Rattle.lines.specs.Lines.{start_line, feed_line, ask_line}
use Rattle.lines.specs.Rows.{row_line}
use Rattle.lines.specs.Listing.{line_bytes}

-- bytes that no line has more of
abbrev pub LineBytesClause : ℕ → Type 0
LineBytesClause o = o ≡ line_bytes

-- starting a watcher, with its line: the answer, the work area and the buffer
abbrev pub StartLineClause : (rule signals ws out : List ℕ) → Opened × List ℕ × List ℕ → Type 0
StartLineClause rule signals ws out o = o ≡ start_line rule signals ws out

-- feeding a piece of the log, with its line, or with more in it: the answer, the work area and the buffer
abbrev pub FeedLineClause : Watcher → (piece : List ℕ) (more : Bool) (ws out : List ℕ) → Turn × List ℕ × List ℕ
    → Type 0
FeedLineClause w piece more ws out o = o ≡ feed_line w piece more ws out

-- asking how the log ends, with its line: how many bytes it has, and the buffer
abbrev pub AskLineClause : Watcher → (ws out : List ℕ) → ℕ × List ℕ → Type 0
AskLineClause w ws out o = o ≡ ask_line w ws out

-- line j of a state's rows: how many bytes it has, and the buffer
abbrev pub RowLineClause : Watcher → (ws : List ℕ) (j : ℕ) (out : List ℕ) → ℕ × List ℕ → Type 0
RowLineClause w ws j out o = o ≡ row_line w ws j out
