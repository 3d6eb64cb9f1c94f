-- The starred examples of document 01, all twelve: every row of the table passes.
-- Assumes nothing.
use mathlib.Core.Path.{◌≡◌, refl}
use mathlib.Core.Bool.{true}
use Prim.Native.Nat.{zero, suc}
use Rattle.ground.specs.Fold.{fold, some_in, every_in, tab}
use Rattle.ground.specs.Bits.{bit, of_bits}
use Rattle.ground.specs.Bytes.{little}
use Rattle.forms.specs.Form.{constant, parameter, xor, and, or, put_in, same}
use Rattle.forms.specs.Rows.{which_constant}
use Rattle.meaning.specs.Interval.{distance, inside, shifts, shifted, moved}
use Rattle.meaning.specs.Rule.{node_at, count, first_of, parameters, entry_at, time_at, holds}
use Rattle.meaning.specs.Meaning.{next_at, until_at, since_at, meaning, values, value_of}
use Rattle.meaning.specs.Horizon.{larger, later, horizon_of, horizons, horizon, Bounded, Finite, AllFinite}
use Rattle.meaning.specs.Rewriting.{put, only_if, form_of, forms_of, parameter_to, row_to, next_row, until_later}
use Rattle.meaning.specs.Rewriting.{derived_row}
use Rattle.meaning.specs.Rewriting.{derived_rows, since_earlier, past_row, past_rows}
use Rattle.meaning.specs.Words.{start, first, feed, close, word_for, word, word_of}
use Rattle.rewriting.specs.Decode.{byte_of, endless, interval_of, node_of, record_in, node_in, kind_of, kind_number}
use Rattle.rewriting.specs.Decode.{rule_in}
use Rattle.watcher.specs.Numbers.{refusal_number}
use Rattle.watcher.specs.Places.{first_where}
use Rattle.watcher.specs.Rules.{records_of, wrong_length_in, used_bytes, uses, fair_limits, names_right, used_right}
use Rattle.watcher.specs.Rules.{byte_breaks, first_broken, same_record, first_twins, many_parameters}
use Rattle.watcher.specs.Signals.{signal_breaks, wrong_signals, names_missing, limit_of}
use Rattle.watcher.specs.Records.{wrong_record, time_of, temperature_of, wind_of, wind_meets, meets, has_reading}
use Rattle.watcher.specs.Records.{test_by}
use Rattle.watcher.specs.Records.{lacks, test_of, signal_word, entry_of}
use Rattle.watcher.specs.Lists.{first_refusal, list_tests, lists_refusal}
use Rattle.demands.specs.Logs.{last_time, accepts, log_with}
use Rattle.demands.specs.Rewritten.{read_rule, parameters_in}
use Rattle.demands.specs.Examples.{all_in, table, passes, rule_a, rule_b}

-- rule A has finite forward limits only, and rule B has not
pub finite_a : AllFinite (read_rule (rule_a 2))
unfolding read_rule rule_in node_in node_of interval_of endless byte_of records_of
    tab node_at Finite Bounded
finite_a zero = tt
finite_a (suc zero) = tt
finite_a (suc (suc zero)) = tt
finite_a (suc (suc (suc k))) = tt

pub open_b : AllFinite (read_rule rule_b) → ⊥
unfolding read_rule rule_in node_in node_of interval_of endless byte_of records_of
    tab node_at Finite Bounded
open_b finite = finite 3

pub examples : all_in passes table ≡ true
unfolding table passes fold some_in every_in tab bit of_bits little constant parameter xor and or put_in same
    which_constant distance inside shifts shifted moved node_at count first_of parameters entry_at time_at holds
    next_at until_at since_at meaning values value_of larger later horizon_of horizons horizon put only_if form_of
    forms_of parameter_to row_to next_row until_later derived_row derived_rows since_earlier past_row past_rows
    start first feed close word_for word refusal_number byte_of records_of wrong_length_in used_bytes uses
    fair_limits names_right used_right byte_breaks first_broken same_record first_twins first_where
    endless interval_of node_of record_in kind_of kind_number node_in rule_in signal_breaks wrong_signals
    names_missing limit_of wrong_record time_of temperature_of wind_of wind_meets meets has_reading test_by lacks
    test_of signal_word entry_of first_refusal word_of many_parameters list_tests lists_refusal last_time
    accepts log_with read_rule parameters_in
examples = refl
