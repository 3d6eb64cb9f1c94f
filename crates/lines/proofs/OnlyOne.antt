-- The clause of each public function, `specs/Clauses.antt`, leaves room for one outcome only.
-- Assumes nothing.
use mathlib.Core.Path.{◌≡◌}
use mathlib.Core.Bool.{Bool}
use mathlib.Core.List.{List}
use Prim.Native.Nat.{ℕ}
use Rattle.ground.proofs.OnlyOne.{only_one}
use Rattle.watcher.specs.declared.state.Watcher.{Watcher}
use Rattle.lines.specs.declared.turns.Opened.{Opened}
use Rattle.lines.specs.declared.turns.Turn.{Turn}
use Rattle.lines.specs.Clauses.{LineBytesClause, StartLineClause, FeedLineClause, AskLineClause, RowLineClause}

pub only_line_bytes : (o o' : ℕ) → LineBytesClause o → LineBytesClause o' → o ≡ o'
only_line_bytes = only_one _

pub only_start_line : (rule signals ws out : List ℕ) (o o' : Opened × List ℕ × List ℕ)
    → StartLineClause rule signals ws out o → StartLineClause rule signals ws out o' → o ≡ o'
only_start_line rule signals ws out = only_one _

pub only_feed_line : (w : Watcher) (piece : List ℕ) (more : Bool) (ws out : List ℕ) (o o' : Turn × List ℕ × List ℕ)
    → FeedLineClause w piece more ws out o → FeedLineClause w piece more ws out o' → o ≡ o'
only_feed_line w piece more ws out = only_one _

pub only_ask_line : (w : Watcher) (ws out : List ℕ) (o o' : ℕ × List ℕ) → AskLineClause w ws out o
    → AskLineClause w ws out o' → o ≡ o'
only_ask_line w ws out = only_one _

pub only_row_line : (w : Watcher) (ws : List ℕ) (j : ℕ) (out : List ℕ) (o o' : ℕ × List ℕ) → RowLineClause w ws j out o
    → RowLineClause w ws j out o' → o ≡ o'
only_row_line w ws j out = only_one _
