-- The limits of document 01, each named once; `Watcher::limits` ties the constants of the state's type to them.
use Rattle.std.specs.Prelude.{ℕ, ◌*◌}
use Rattle.rewriting.specs.Decode.{record_bytes}
use Rattle.rewriting.specs.Known.{words_for}
use Rattle.watcher.specs.declared.state.Limits.{Limits}

-- records of a rule, signals of a list, parameters of a rule
abbrev pub most_records : ℕ
most_records = 16

abbrev pub most_signals : ℕ
most_signals = 16

abbrev pub most_parameters : ℕ
most_parameters = 12

-- bytes of a list of rule or signal records, of a log record
abbrev pub list_bytes : ℕ
list_bytes = record_bytes * most_records

abbrev pub log_bytes : ℕ
log_bytes = 16

-- words of the work area: past rows and remainder, and as much scratch
abbrev pub area_words : ℕ
area_words = words_for most_parameters

abbrev pub limits_of : Limits
limits_of =
    record {
      records = most_records;
      signals = most_signals;
      parameters = most_parameters;
      record_bytes = record_bytes;
      list_bytes = list_bytes;
      log_bytes = log_bytes;
      words = area_words;
    }
