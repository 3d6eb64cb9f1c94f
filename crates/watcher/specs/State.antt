-- What a state holds, and when it is broken (document 01, "Work area and state" and refusal 12).
use Rattle.std.specs.Prelude.{Bool, false, not, ◌||◌, List, ℕ, ◌*◌, ◌^◌, leb, ltb, take, is_err}
use Rattle.ground.specs.Bytes.{zeros_from}
use Rattle.meaning.specs.Rule.{Node, parameters}
use Rattle.rewriting.specs.Decode.{record_bytes, rule_in}
use Rattle.rewriting.specs.Known.{past_in}
use Rattle.rewriting.specs.Shape.{bits_above, not_zero_from, wrong_rows}
use Rattle.watcher.specs.declared.state.Watcher.{Watcher}
use Rattle.watcher.specs.Limits.{most_records, most_signals, most_parameters}
use Rattle.watcher.specs.Lists.{lists_refusal}
use Rattle.watcher.specs.Numbers.{Stage, fresh, running, closed, stage_of}

-- the rule of a state, and its parameters
unfoldable pub rule_of : Watcher → List Node
rule_of w = rule_in w.rule w.records

unfoldable pub parameters_of : Watcher → ℕ
parameters_of w = parameters (rule_of w)

-- the bytes of its rule and its list, without what stands behind
unfoldable pub rule_bytes : Watcher → List ℕ
rule_bytes w = take (record_bytes * w.records) w.rule

unfoldable pub list_bytes_of : Watcher → List ℕ
list_bytes_of w = take (record_bytes * w.signals) w.list

-- it holds a rule or list that start would refuse
unfoldable pub start_refuses : Watcher → Bool
start_refuses w =
    ltb most_records w.records
    || (ltb most_signals w.signals || is_err (lists_refusal (rule_bytes w) (list_bytes_of w)))

-- or not zeros behind one
unfoldable pub not_zeros_behind : Watcher → Bool
not_zeros_behind w =
    not (zeros_from w.rule (record_bytes * w.records)) || not (zeros_from w.list (record_bytes * w.signals))

-- or a running signal word with bits above the list
unfoldable pub signals_above : ℕ → Stage → Bool
signals_above signals fresh = false
signals_above signals (running e) = leb (2 ^ signals) e.signals
signals_above signals (closed b) = false

-- or the past rows are not those that a state must have in its phase: when fresh, one is not zero; when running, one
-- is not what it must be after the last record; when closed, any will do
unfoldable pub wrong_in_phase : Watcher → List ℕ → Stage → Bool
wrong_in_phase w ws fresh = not_zero_from most_parameters 0 ws
wrong_in_phase w ws (running e) = wrong_rows (rule_of w) (parameters_of w) e (past_in (parameters_of w) ws)
wrong_in_phase w ws (closed b) = false

-- refusal 12: one of these; or a past row or the remainder has a bit at or above 2^m, or an unused row is not zero
unfoldable pub broken_state : Watcher → List ℕ → Bool
broken_state w ws =
    start_refuses w
    || (not_zeros_behind w
    || (signals_above w.signals (stage_of w.phase)
    || (bits_above most_parameters (parameters_of w) ws
    || (not_zero_from most_parameters (parameters_of w) ws || wrong_in_phase w ws (stage_of w.phase)))))
