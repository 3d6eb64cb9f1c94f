-- What counts of calls after an accepted start: the accepted records, up to the closing that is accepted.
use Rattle.std.specs.Prelude.{Bool, not, ◌&&◌, cond, List, [], ◌∷◌, ◌++◌, ℕ, ◌-◌, leb, length}
use Rattle.meaning.specs.Rule.{Entry, time_at}
use Rattle.watcher.specs.Rules.{records_of}
use Rattle.watcher.specs.Records.{wrong_record, time_of, entry_of}
use Rattle.demands.specs.Watching.{Call, feeding, asking, closing}

-- the time of the last record of a log; 0 before the first, and no time is lower
unfoldable pub last_time : List Entry → ℕ
last_time log = time_at log (length log - 1)

-- a record is accepted after a log if it is not wrong and its time is not lower than the last one's
unfoldable pub accepts : List Entry → List ℕ → Bool
accepts log bytes = not (wrong_record bytes) && leb (last_time log) (time_of bytes)

-- a log with a record that was accepted, as a rule with these signals sees it
unfoldable pub log_with : (signals : List ℕ) → List Entry → List ℕ → List Entry
log_with signals log bytes = log ++ (entry_of signals (records_of signals) bytes ∷ [])

-- how far calls have brought a log: it goes on after its records so far, or it is closed after a first one and others
pub data Course : Type 0 where
  going : List Entry → Course
  over : Entry → List Entry → Course

-- a call brings a log further: a refused record, asking, closing without a record, and any call after closing count
-- for nothing
unfoldable pub further : (signals : List ℕ) → Course → Call → Course
further signals (going log) (feeding bytes) = going (cond (accepts log bytes) (log_with signals log bytes) log)
further signals (going log) asking = going log
further signals (going []) closing = going []
further signals (going (e ∷ es)) closing = over e es
further signals (over e es) c = over e es

unfoldable pub further_by : (signals : List ℕ) → Course → List Call → Course
further_by signals course [] = course
further_by signals course (c ∷ more) = further_by signals (further signals course c) more

-- after start and these calls
abbrev pub course_of : (signals : List ℕ) → List Call → Course
course_of signals calls = further_by signals (going []) calls

-- the accepted records
unfoldable pub log_in : Course → List Entry
log_in (going log) = log
log_in (over e es) = e ∷ es

abbrev pub log_of : (signals : List ℕ) → List Call → List Entry
log_of signals calls = log_in (course_of signals calls)
