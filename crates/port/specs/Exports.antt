-- The watcher call by call, with its state in lent bytes: the code, the bytes and the work area afterwards.
use Rattle.std.specs.Prelude.{Bool, not, cond, List, ℕ, eqb, length, Ok, Err}
use Rattle.meaning.specs.Horizon.{never}
use Rattle.watcher.specs.declared.state.Watcher.{Watcher}
use Rattle.watcher.specs.declared.state.Started.{Started}
use Rattle.watcher.specs.declared.state.Fed.{Fed}
use Rattle.watcher.specs.declared.state.Ended.{Ended}
use Rattle.watcher.specs.Calls.{start_of, feed_of, feed_refusal, ask_of, close_of, wait_of}
use Rattle.port.specs.Codes.{Told}
use Rattle.port.specs.Codes.{state_length, found_code, told_of, told_at, told_code, end_code, horizon_code}
use Rattle.port.specs.Layout.{state_bytes, written, state_in}

-- bytes that are no state
unfoldable pub wrong_state : List ℕ → Bool
wrong_state bytes = not (eqb (length bytes) state_bytes)

-- start: the bytes hold the state that start hands back, a refused start's too
unfoldable pub started_bytes : Started × List ℕ → ℕ × List ℕ × List ℕ
started_bytes s = (found_code s.0.found, written s.0.next, s.1)

unfoldable pub start_bytes : (rule signals bytes ws : List ℕ) → ℕ × List ℕ × List ℕ
start_bytes rule signals bytes ws =
    cond (wrong_state bytes) (state_length, bytes, ws) (started_bytes (start_of rule signals ws))

-- would this record be refused
unfoldable pub refusal_bytes : (bytes piece ws : List ℕ) → ℕ
refusal_bytes bytes piece ws =
    cond (wrong_state bytes) state_length (found_code (feed_refusal (state_in bytes) piece ws))

-- the bytes after what is told: the next state, or as they were where it is a refusal
unfoldable pub kept_unless : Told → (next bytes : List ℕ) → List ℕ
kept_unless (Ok w) next bytes = next
kept_unless (Err r) next bytes = bytes

-- the code of what is told, with the bytes and the work area after it
unfoldable pub told_bytes : Told → Watcher → (ws bytes : List ℕ) → ℕ × List ℕ × List ℕ
told_bytes t next ws bytes = (told_code t, kept_unless t (written next) bytes, ws)

-- feed
unfoldable pub fed_bytes : Fed × List ℕ → List ℕ → ℕ × List ℕ × List ℕ
fed_bytes s bytes = told_bytes (told_of s.0.answer) s.0.next s.1 bytes

unfoldable pub feed_bytes : (bytes piece ws : List ℕ) → ℕ × List ℕ × List ℕ
feed_bytes bytes piece ws =
    cond (wrong_state bytes) (state_length, bytes, ws) (fed_bytes (feed_of (state_in bytes) piece ws) bytes)

-- ask: the code of how the log would end now
unfoldable pub ask_bytes : (bytes ws : List ℕ) → ℕ
ask_bytes bytes ws = cond (wrong_state bytes) state_length (end_code (ask_of (state_in bytes) ws))

-- close
unfoldable pub ended_bytes : Ended × List ℕ → List ℕ → ℕ × List ℕ × List ℕ
ended_bytes s bytes = told_bytes (told_at s.0.answer) s.0.next s.1 bytes

unfoldable pub close_bytes : (bytes ws : List ℕ) → ℕ × List ℕ × List ℕ
close_bytes bytes ws =
    cond (wrong_state bytes) (state_length, bytes, ws) (ended_bytes (close_of (state_in bytes) ws) bytes)

-- the horizon of the state that bytes hold; bytes that are no state have none
unfoldable pub horizon_bytes : List ℕ → ℕ
horizon_bytes bytes = horizon_code (cond (wrong_state bytes) never (wait_of (state_in bytes)))
