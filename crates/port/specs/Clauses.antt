-- The clause of each export: of what is handed in, and the code with each lent list at exit.
use Rattle.std.specs.Prelude.{◌≡◌, List, ℕ}
use Rattle.port.specs.Exports.{start_bytes, refusal_bytes, feed_bytes, ask_bytes, close_bytes, horizon_bytes}
use Rattle.port.specs.Signals.{test_bytes}
use Rattle.port.specs.Whole.{run_of}

-- starting a watcher: the code, the state's bytes and the work area
abbrev pub StartClause : (rule signals bytes ws : List ℕ) → ℕ × List ℕ × List ℕ → Type 0
StartClause rule signals bytes ws o = o ≡ start_bytes rule signals bytes ws

-- whether a record would be refused
abbrev pub WouldRefuseClause : (bytes piece ws : List ℕ) → ℕ → Type 0
WouldRefuseClause bytes piece ws o = o ≡ refusal_bytes bytes piece ws

-- feeding a record: the code, the state's bytes and the work area
abbrev pub FeedClause : (bytes piece ws : List ℕ) → ℕ × List ℕ × List ℕ → Type 0
FeedClause bytes piece ws o = o ≡ feed_bytes bytes piece ws

-- asking how the log would end now; the state's bytes and the work area are left as they were
abbrev pub AskClause : (bytes ws : List ℕ) → ℕ × List ℕ × List ℕ → Type 0
AskClause bytes ws o = o ≡ (ask_bytes bytes ws, bytes, ws)

-- closing the log: the code, the state's bytes and the work area
abbrev pub CloseClause : (bytes ws : List ℕ) → ℕ × List ℕ × List ℕ → Type 0
CloseClause bytes ws o = o ≡ close_bytes bytes ws

-- how long the rule can stay open
abbrev pub HorizonClause : List ℕ → ℕ → Type 0
HorizonClause bytes o = o ≡ horizon_bytes bytes

-- testing a signal of a list in a log record
abbrev pub TestClause : (signals : List ℕ) (number : ℕ) (piece : List ℕ) → ℕ → Type 0
TestClause signals number piece o = o ≡ test_bytes signals number piece

-- running a whole log: the code of closing, the work area and the codes
abbrev pub RunClause : (rule signals log ws codes : List ℕ) → ℕ × List ℕ × List ℕ → Type 0
RunClause rule signals log ws codes o = o ≡ run_of rule signals log ws codes
