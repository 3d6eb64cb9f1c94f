-- Start, feed, ask and close: what each answers, the next state, and the whole work area afterwards.
use Rattle.std.specs.Prelude.{Bool, true, false, not, cond, List, [], ◌∷◌, ◌++◌, ℕ, eqb, ltb, Ok, Err}
use Rattle.std.specs.Prelude.{length, get_or, replicate}
use Rattle.ground.specs.Fold.{tab}
use Rattle.meaning.specs.Rule.{Node, Entry, parameters}
use Rattle.meaning.specs.Horizon.{Horizon, never, horizon}
use Rattle.meaning.specs.Words.{Known, leave, feed, close, value_if_last, word}
use Rattle.meaning.specs.Words as words
use Rattle.rewriting.specs.Decode.{rule_in}
use Rattle.rewriting.specs.Known.{form_at, known_in, area_of}
use Rattle.watcher.specs.declared.state.Watcher.{Watcher}
use Rattle.watcher.specs.declared.state.Phase.TheVariants as phase
use Rattle.watcher.specs.declared.state.Refusal.TheVariants as refusal
use Rattle.watcher.specs.Answers.{Found, End}
use Rattle.watcher.specs.declared.state.Report.{Report}
use Rattle.watcher.specs.declared.state.Started.{Started}
use Rattle.watcher.specs.declared.state.Fed.{Fed}
use Rattle.watcher.specs.declared.state.Ended.{Ended}
use Rattle.watcher.specs.Limits.{most_parameters, list_bytes, area_words}
use Rattle.watcher.specs.Rules.{records_of}
use Rattle.watcher.specs.Records.{wrong_record, time_of, entry_of}
use Rattle.watcher.specs.Lists.{Test, first_refusal, list_tests}
use Rattle.watcher.specs.Numbers.{saying, verdict_for, Stage, fresh, running, closed, stage_of, last_in}
use Rattle.watcher.specs.State.{rule_of, parameters_of, start_refuses, broken_state}

-- the work area is not 1,664 words
unfoldable pub wrong_area : List ℕ → Bool
wrong_area ws = not (eqb (length ws) area_words)

-- the watcher is closed; nothing was fed; the time is lower than the last accepted record's
unfoldable pub is_closed : Stage → Bool
is_closed fresh = false
is_closed (running e) = false
is_closed (closed b) = true

unfoldable pub is_fresh : Stage → Bool
is_fresh fresh = true
is_fresh (running e) = false
is_fresh (closed b) = false

unfoldable pub too_early : Stage → ℕ → Bool
too_early fresh time = false
too_early (running e) time = ltb time e.time
too_early (closed b) time = false

-- start tests 1 to 7 in that order
abbrev pub start_tests : (rule signals ws : List ℕ) → List Test
start_tests rule signals ws =
    list_tests rule signals ++ (record { holds = wrong_area ws; gives = refusal.AreaLength } ∷ [])

unfoldable pub start_refusal : (rule signals ws : List ℕ) → Found
start_refusal rule signals ws = first_refusal (start_tests rule signals ws)

-- what feed, ask and close test first: 7, 12, 10
unfoldable pub state_tests : Watcher → List ℕ → List Test
state_tests w ws =
    record { holds = wrong_area ws; gives = refusal.AreaLength }
    ∷ record { holds = broken_state w ws; gives = refusal.BrokenState }
    ∷ record { holds = is_closed (stage_of w.phase); gives = refusal.AlreadyClosed }
    ∷ []

-- feed tests 7, 12, 10, 8, 9: would this record be refused
abbrev pub feed_tests : Watcher → (bytes ws : List ℕ) → List Test
feed_tests w bytes ws =
    state_tests w ws
    ++ (record { holds = wrong_record bytes; gives = refusal.LogRecord }
    ∷ record { holds = too_early (stage_of w.phase) (time_of bytes); gives = refusal.LogTime }
    ∷ [])

unfoldable pub feed_refusal : Watcher → (bytes ws : List ℕ) → Found
feed_refusal w bytes ws = first_refusal (feed_tests w bytes ws)

-- ask and close test 7, 12, 10, 11
abbrev pub close_tests : Watcher → List ℕ → List Test
close_tests w ws =
    state_tests w ws ++ (record { holds = is_fresh (stage_of w.phase); gives = refusal.NothingFed } ∷ [])

unfoldable pub close_refusal : Watcher → List ℕ → Found
close_refusal w ws = first_refusal (close_tests w ws)

-- a list with zeros behind it
unfoldable pub padded : List ℕ → List ℕ
padded list = tab list_bytes (λ i. get_or list i 0)

-- a fresh state of zeros
unfoldable pub zero_state : Watcher
zero_state =
    record {
      rule = replicate list_bytes 0;
      records = 0;
      list = replicate list_bytes 0;
      signals = 0;
      phase = phase.Fresh;
    }

-- a fresh state with a rule and a list
unfoldable pub fresh_state : (rule signals : List ℕ) → Watcher
fresh_state rule signals =
    record {
      rule = padded rule;
      records = records_of rule;
      list = padded signals;
      signals = records_of signals;
      phase = phase.Fresh;
    }

-- start: past rows zero, the remainder is the rule's form
unfoldable pub start_with : Found → (rule signals ws : List ℕ) → Started × List ℕ
start_with (Err r) rule signals ws = (record { found = Err r; next = zero_state }, ws)
start_with (Ok tt) rule signals ws =
    let held : List Node = rule_in rule (records_of rule) in (
      record { found = Ok tt; next = fresh_state rule signals },
      area_of most_parameters (parameters held) [] (words.start (parameters held) held),
    )

unfoldable pub start_of : (rule signals ws : List ℕ) → Started × List ℕ
start_of rule signals ws = start_with (start_refusal rule signals ws) rule signals ws

-- what is known after a record: the first leaves the remainder that is there, a later one is fed
unfoldable pub known_next : (m : ℕ) → List Node → List ℕ → Entry → Stage → Known m
known_next m rule ws e fresh = leave m rule (form_at m ws most_parameters) e
known_next m rule ws e (running last) = feed m rule (known_in most_parameters m ws last) e
known_next m rule ws e (closed b) = leave m rule (form_at m ws most_parameters) e

-- a state with its last record, and one that is closed
unfoldable pub running_state : Watcher → Entry → Watcher
running_state w e =
    record {
      rule = w.rule;
      records = w.records;
      list = w.list;
      signals = w.signals;
      phase = phase.Running e.time e.signals;
    }

unfoldable pub closed_state : Watcher → Bool → Watcher
closed_state w b =
    record {
      rule = w.rule;
      records = w.records;
      list = w.list;
      signals = w.signals;
      phase = phase.Closed (verdict_for b);
    }

-- what an accepted record is told, by what is known after it: the word of the remainder
unfoldable pub report_of : (m : ℕ) → Known m → Report
report_of m s = record { word = saying (word m s.remainder) }

-- feed: the report, and the rows of what is known after the record
unfoldable pub feed_with : Found → Watcher → (bytes ws : List ℕ) → Fed × List ℕ
feed_with (Err r) w bytes ws = (record { answer = Err r; next = w }, ws)
feed_with (Ok tt) w bytes ws =
    let m : ℕ = parameters_of w in
    let e : Entry = entry_of w.list w.signals bytes in
    let s : Known m = known_next m (rule_of w) ws e (stage_of w.phase) in (
      record { answer = Ok (report_of m s); next = running_state w e },
      area_of most_parameters m s.past s.remainder,
    )

unfoldable pub feed_of : Watcher → (bytes ws : List ℕ) → Fed × List ℕ
feed_of w bytes ws = feed_with (feed_refusal w bytes ws) w bytes ws

-- what is known at the end, by the last record
unfoldable pub known_now : (m : ℕ) → List ℕ → Stage → Known m
known_now m ws stage = known_in most_parameters m ws (last_in stage)

-- the value were this the last record
unfoldable pub value_now : Watcher → List ℕ → Bool
value_now w ws =
    value_if_last (parameters_of w) (rule_of w) (known_now (parameters_of w) ws (stage_of w.phase))

-- ask: the verdict that says this value
unfoldable pub ask_with : Found → Watcher → List ℕ → End
ask_with (Err r) w ws = Err r
ask_with (Ok tt) w ws = Ok (verdict_for (value_now w ws))

unfoldable pub ask_of : Watcher → List ℕ → End
ask_of w ws = ask_with (close_refusal w ws) w ws

-- close: the value were this the last record; the past rows stay, and the remainder is that constant
unfoldable pub close_with : Found → Watcher → List ℕ → Ended × List ℕ
close_with (Err r) w ws = (record { answer = Err r; next = w }, ws)
close_with (Ok tt) w ws =
    let m : ℕ = parameters_of w in
    let s : Known m = known_now m ws (stage_of w.phase) in
    let b : Bool = value_now w ws in (
      record { answer = Ok (verdict_for b); next = closed_state w b },
      area_of most_parameters m s.past (close m (rule_of w) s),
    )

unfoldable pub close_of : Watcher → List ℕ → Ended × List ℕ
close_of w ws = close_with (close_refusal w ws) w ws

-- the horizon of a state's rule; a state whose rule or list start refuses has none
unfoldable pub wait_of : Watcher → Horizon
wait_of w = cond (start_refuses w) never (horizon (rule_of w))
