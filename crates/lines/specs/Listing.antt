-- What the watching program prints for a rule, a signal list and a log, all in bytes.
use Rattle.std.specs.Prelude.{Bool, cond, List, [], ◌∷◌, ◌++◌, ℕ, take, replicate, is_err}
use Rattle.watcher.specs.declared.state.Watcher.{Watcher}
use Rattle.watcher.specs.declared.state.Started.{Started}
use Rattle.watcher.specs.Limits.{area_words}
use Rattle.watcher.specs.Calls.{start_of, feed_of, close_of}
use Rattle.watcher.specs.Runs.{pieces}
use Rattle.lines.specs.Text.{found_line, end_line}
use Rattle.lines.specs.Lines.{piece_line, start_line, feed_line, ask_line}

-- a line for each piece that is fed, with more in it where more is asked for, and one for the end
unfoldable pub log_lines : (more : Bool) → Watcher → (ws : List ℕ) → List (List ℕ) → List ℕ
log_lines more w ws [] = end_line (close_of w ws).0.answer
log_lines more w ws (piece ∷ rest) =
    piece_line piece more (feed_of w piece ws)
    ++ log_lines more (feed_of w piece ws).0.next (feed_of w piece ws).1 rest

-- a refused start prints one line only
unfoldable pub listing_from : (more : Bool) → Started × List ℕ → (log : List ℕ) → List ℕ
listing_from more s log =
    found_line s.0.found ++ cond (is_err s.0.found) [] (log_lines more s.0.next s.1 (pieces log))

unfoldable pub listing_on : (more : Bool) (ws rule signals log : List ℕ) → List ℕ
listing_on more ws rule signals log = listing_from more (start_of rule signals ws) log

-- the program starts on an area of zeros
unfoldable pub listing : (more : Bool) (rule signals log : List ℕ) → List ℕ
listing more rule signals log = listing_on more (replicate area_words 0) rule signals log

-- bytes that no line has more of
abbrev pub line_bytes : ℕ
line_bytes = 80

-- what the functions print, called one after another, each with a buffer that is the same at its entry
unfoldable pub printed_log : (more : Bool) → Watcher → (ws out : List ℕ) → List (List ℕ) → List ℕ
printed_log more w ws out [] = take (ask_line w ws out).0 (ask_line w ws out).1
printed_log more w ws out (piece ∷ rest) =
    take (feed_line w piece more ws out).0.length (feed_line w piece more ws out).2
    ++ printed_log more (feed_line w piece more ws out).0.next (feed_line w piece more ws out).1 out rest

unfoldable pub printed : (more : Bool) (ws out rule signals log : List ℕ) → List ℕ
printed more ws out rule signals log =
    take (start_line rule signals ws out).0.length (start_line rule signals ws out).2
    ++ cond (start_line rule signals ws out).0.ready
    (printed_log more (start_line rule signals ws out).0.next (start_line rule signals ws out).1 out (pieces log)) []
