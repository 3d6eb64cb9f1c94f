-- Document 01's starred examples, one to twelve, and a few more on channels, senses and horizons, as one table over
-- bytes; when a row of it passes by the definitions alone, and what start, feed and close then answer.
use Rattle.std.specs.Prelude.{is_err}
use Rattle.std.specs.Prelude.{◌≡◌, Bool, true, false, not, ◌&&◌, List, [], ◌∷◌, ◌++◌, map, ℕ, ◌+◌, ◌-◌, ◌/◌, ◌%◌, eqb}
use Rattle.std.specs.Prelude.{length, Ok, Err}
use Rattle.meaning.specs.Rule.{Node, Entry}
use Rattle.meaning.specs.Meaning.{value_of}
use Rattle.meaning.specs.Horizon.{Horizon, within, never, horizon}
use Rattle.meaning.specs.Words.{Known, first, feed, close, Word, kept, broken, pending, word, word_of}
use Rattle.watcher.specs.Answers.{Found, End}
use Rattle.watcher.specs.Limits.{area_words}
use Rattle.watcher.specs.Numbers.{refusal_number, saying, verdict_value, Says}
use Rattle.watcher.specs.Rules.{records_of}
use Rattle.watcher.specs.Records.{entry_of}
use Rattle.watcher.specs.Lists.{lists_refusal}
use Rattle.watcher.specs.Calls.{start_of, wait_of}
use Rattle.watcher.specs.Runs.{Held}
use Rattle.demands.specs.Watching.{defined, feeding, told, ending, handed, reached}
use Rattle.demands.specs.Logs.{accepts, log_with}
use Rattle.demands.specs.Rewritten.{read_rule, parameters_in}
use Rattle.demands.specs.Tables.{Carries}

-- a record of a rule list, and of a signal list ("at least")
abbrev pub rule_record : (kind left right low high : ℕ) → List ℕ
rule_record kind left right low high = kind ∷ left ∷ right ∷ 0 ∷ low ∷ high ∷ 0 ∷ 0 ∷ []

abbrev pub signal_record : (channel limit : ℕ) → List ℕ
signal_record channel limit = channel ∷ 0 ∷ limit ∷ 0 ∷ 0 ∷ 0 ∷ 0 ∷ 0 ∷ []

-- rule A, with until from 0 to high
abbrev pub rule_a : (high : ℕ) → List ℕ
rule_a high = rule_record 3 0 0 0 0 ++ rule_record 3 1 0 0 0 ++ rule_record 7 0 1 0 high

-- rule B, and the rule of example 9
abbrev pub rule_b : List ℕ
rule_b = rule_record 3 0 0 0 0 ++ rule_record 3 1 0 0 0 ++ rule_record 9 0 1 1 1 ++ rule_record 6 2 0 0 255

abbrev pub rule_c : List ℕ
rule_c = rule_record 1 0 0 0 0 ++ rule_record 5 0 0 0 0

-- signal 0 alone; and a signal, next of it with no upper end, and a last record that reaches neither
abbrev pub rule_signal : List ℕ
rule_signal = rule_record 3 0 0 0 0

abbrev pub rule_unreached : List ℕ
rule_unreached = rule_record 3 0 0 0 0 ++ rule_record 6 0 0 0 255 ++ rule_record 3 1 0 0 0

-- next, from 0 to 3, of both of two untils, from 0 to 2 and from 0 to 1
abbrev pub rule_nested : List ℕ
rule_nested =
    rule_record 3 0 0 0 0 ++ rule_record 3 1 0 0 0 ++ rule_record 7 0 1 0 2 ++ rule_record 7 0 1 0 1
    ++ rule_record 4 2 3 0 0 ++ rule_record 6 4 0 0 3

-- signals 0 and 1: the lee vent is at least 1, the windward vent is at least 1
abbrev pub vents : List ℕ
vents = signal_record 3 1 ++ signal_record 4 1

-- a log record with a time, and signals 0 and 1 of the list above as 0 or 1
abbrev pub at : (time lee windward : ℕ) → List ℕ
at time lee windward =
    time ∷ 0 ∷ 0 ∷ 0 ∷ 0 ∷ 0 ∷ 0 ∷ 0 ∷ lee ∷ windward ∷ 0 ∷ 0 ∷ 0 ∷ 0 ∷ 0 ∷ 0 ∷ []

-- the units of wind, and a log record with a wind
abbrev pub kilometres_an_hour : ℕ
kilometres_an_hour = 0

abbrev pub metres_aSecond : ℕ
metres_aSecond = 1

abbrev pub wind_record : (unit wind : ℕ) → List ℕ
wind_record unit wind =
    0 ∷ 0 ∷ 0 ∷ 0 ∷ 0 ∷ 0 ∷ wind % 256 ∷ wind / 256 ∷ 0 ∷ 0 ∷ 0 ∷ unit ∷ 0 ∷ 0 ∷ 0 ∷ 0 ∷ []

-- a signal of a channel, "at least" (0) or "below" (1) a limit in 16 bits with a sign
abbrev pub signal_of : (channel sense limit : ℕ) → List ℕ
signal_of channel sense limit = channel ∷ sense ∷ limit % 256 ∷ limit / 256 ∷ 0 ∷ 0 ∷ 0 ∷ 0 ∷ []

abbrev pub temperature : (sense limit : ℕ) → List ℕ
temperature sense limit = signal_of 1 sense limit

abbrev pub wind_below : (limit : ℕ) → List ℕ
wind_below limit = signal_of 2 1 limit

abbrev pub raining : List ℕ
raining = signal_of 5 0 1

-- a log record with a temperature in 16 bits, and with rain
abbrev pub air_record : (reading rain : ℕ) → List ℕ
air_record reading rain =
    0 ∷ 0 ∷ 0 ∷ 0 ∷ reading % 256 ∷ reading / 256 ∷ 0 ∷ 0 ∷ 0 ∷ 0 ∷ rain ∷ 0 ∷ 0 ∷ 0 ∷ 0 ∷ 0 ∷ []

-- a number below zero in 16 bits
abbrev pub minus : ℕ → ℕ
minus n = 65536 - n

-- a rule and a log, the words after each record and at closing;
-- a wind limit and a unit, with a wind that meets it and those that do not;
-- a rule that is accepted, with its number of parameters, and one that is refused, with the refusal's number;
-- a signal, a log record, and kept if it holds there;
-- a rule and how long it can stay open
pub data Row : Type 0 where
  says : (rule : List ℕ) → (log : List (List ℕ)) → (words : List Word) → (closing : Word) → Row
  winds : (limit unit : ℕ) → (meets : ℕ) → (fails : List ℕ) → Row
  accepted : (rule : List ℕ) → (parameters : ℕ) → Row
  refused : (rule : List ℕ) → (number : ℕ) → Row
  reads : (signal bytes : List ℕ) → (holds : Word) → Row
  waits : (rule : List ℕ) → Horizon → Row

unfoldable pub table : List Row
table =
    -- 1
    says (rule_a 2) (at 0 1 0 ∷ at 1 1 0 ∷ at 2 0 1 ∷ []) (pending ∷ pending ∷ pending ∷ []) kept
    -- 2
    ∷ says (rule_a 2) (at 0 1 0 ∷ at 3 0 1 ∷ []) (pending ∷ broken ∷ []) broken
    -- 3
    ∷ says (rule_a 2) (at 0 1 0 ∷ at 2 0 1 ∷ []) (pending ∷ pending ∷ []) kept
    -- 4
    ∷ says (rule_a 2) (at 0 1 0 ∷ []) (pending ∷ []) broken
    -- 5
    ∷ says (rule_a 2) (at 5 1 0 ∷ at 5 0 1 ∷ []) (pending ∷ pending ∷ []) kept
    -- 6
    ∷ says (rule_a 2) (at 0 0 0 ∷ at 0 0 0 ∷ []) (pending ∷ broken ∷ []) broken
    -- 7
    ∷ says rule_b (at 0 0 1 ∷ at 1 1 0 ∷ []) (pending ∷ pending ∷ []) kept
    -- 8
    ∷ says rule_b (at 0 0 1 ∷ at 2 1 0 ∷ []) (pending ∷ pending ∷ []) broken
    -- 9
    ∷ says rule_c (at 0 0 0 ∷ []) (broken ∷ []) broken
    -- 10
    ∷ winds 120 kilometres_an_hour 432 (431 ∷ 144 ∷ [])
    -- 11
    ∷ winds 120 metres_aSecond 120 (119 ∷ [])
    -- 12
    ∷ accepted (rule_a 9) 12 ∷ refused (rule_a 10) 4
    -- a temperature of minus 1.0 degrees and one of minus 1.1, at least minus 1.0 and below it; rain
    ∷ reads (temperature 0 (minus 10)) (air_record (minus 10) 0) kept
    ∷ reads (temperature 0 (minus 10)) (air_record (minus 11) 0) broken
    ∷ reads (temperature 1 (minus 10)) (air_record (minus 10) 0) broken
    ∷ reads (temperature 1 (minus 10)) (air_record (minus 11) 0) kept
    ∷ reads raining (air_record 0 1) kept ∷ reads raining (air_record 0 0) broken
    -- a broken wire is neither hot nor cold, and a silent head neither strong nor weak wind; one less is a reading
    ∷ reads (temperature 0 300) (air_record 32767 0) broken ∷ reads (temperature 1 300) (air_record 32767 0) broken
    ∷ reads (temperature 0 300) (air_record 32766 0) kept
    ∷ winds 120 kilometres_an_hour 65534 (65535 ∷ []) ∷ winds 120 metres_aSecond 65534 (65535 ∷ [])
    ∷ reads (wind_below 120) (wind_record kilometres_an_hour 65535) broken
    ∷ reads (wind_below 120) (wind_record metres_aSecond 65535) broken
    -- how long rules A and B can stay open, one in which what has no upper end is not reached, and a nested one
    ∷ waits (rule_a 2) (within 2) ∷ waits rule_b never ∷ waits rule_unreached (within 0) ∷ waits rule_nested (within 5)
    ∷ []

-- lists are refused with a number
abbrev pub refused_with : ℕ → Found → Bool
refused_with n (Ok tt) = false
refused_with n (Err r) = eqb (refusal_number r) n

-- every element of a list passes a test
abbrev pub all_in : {A : Type 0} → (A → Bool) → List A → Bool
all_in test [] = true
all_in test (x ∷ xs) = test x && all_in test xs

-- a word as a number; the same words
abbrev pub word_number : Word → ℕ
word_number broken = 0
word_number kept = 1
word_number pending = 2

abbrev pub same_words : List Word → List Word → Bool
same_words [] [] = true
same_words [] (w ∷ ws) = false
same_words (v ∷ vs) [] = false
same_words (v ∷ vs) (w ∷ ws) = eqb (word_number v) (word_number w) && same_words vs ws

-- horizons as numbers
abbrev pub horizon_number : Horizon → ℕ
horizon_number never = 0
horizon_number (within h) = 1 + h

module _ (m : ℕ) (rule : List Node) where
  -- the word of what is known, those after each further record, and the word at closing
  abbrev pub words_from : Known m → List Entry → List Word
  words_from s [] = word m s.remainder ∷ word m (close m rule s) ∷ []
  words_from s (e ∷ es) = word m s.remainder ∷ words_from (feed m rule s e) es

  abbrev pub words_of : List Entry → List Word
  words_of [] = []
  words_of (e ∷ es) = words_from (first m rule e) es

-- the records as the rule sees them, and whether each is accepted after those before it
abbrev pub seen : (signals : List ℕ) → List (List ℕ) → List Entry
seen signals records = map (entry_of signals (records_of signals)) records

abbrev pub all_taken : (signals : List ℕ) → List Entry → List (List ℕ) → Bool
all_taken signals log [] = true
all_taken signals log (bytes ∷ more) = accepts log bytes && all_taken signals (log_with signals log bytes) more

-- lists and records are accepted, the words are those given, and the log's value is the closing word's
abbrev pub right : (rule signals : List ℕ) → List (List ℕ) → List Word → Word → Bool
right rule signals log words closing =
    not (is_err (lists_refusal rule signals)) && all_taken signals [] log
    && same_words (words_of (parameters_in rule) (read_rule rule) (seen signals log)) (words ++ (closing ∷ []))
    && eqb (word_number (word_of (value_of (seen signals log) (read_rule rule)))) (word_number closing)

-- a wind at a limit, as a log of one record for the rule of one signal
abbrev pub wind_right : (limit unit wind : ℕ) → Word → Bool
wind_right limit unit wind w =
    right rule_signal (signal_record 2 limit) (wind_record unit wind ∷ []) (pending ∷ []) w

-- the definitions say what the row says
unfoldable pub passes : Row → Bool
passes (says rule log words closing) = right rule vents log words closing
passes (winds limit unit meets fails) =
    wind_right limit unit meets kept && all_in (λ wind. wind_right limit unit wind broken) fails
passes (accepted rule n) = not (is_err (lists_refusal rule vents)) && eqb (parameters_in rule) n
passes (refused rule number) = refused_with number (lists_refusal rule vents)
passes (reads signal bytes w) = right rule_signal signal (bytes ∷ []) (pending ∷ []) w
passes (waits rule h) =
    not (is_err (lists_refusal rule vents))
    && eqb (horizon_number (horizon (read_rule rule))) (horizon_number h)

-- records fed one after another get these words
abbrev pub GetWords : Held → List (List ℕ) → List Word → Type 0
GetWords h [] [] = Unit {0}
GetWords h [] (w ∷ words) = ⊥
GetWords h (bytes ∷ more) [] = ⊥
GetWords h (bytes ∷ more) (w ∷ words) =
    Says (told defined h bytes) (saying w) × GetWords (handed defined h (feeding bytes)) more words

-- closing gets a verdict that says this
unfoldable pub EndsWith : End → Word → Type 0
EndsWith (Ok v) w = word_of (verdict_value v) ≡ w
EndsWith (Err r) w = ⊥

-- a run with a work area: it is started, its records get these words, and closing says this
pub record Run (rule signals : List ℕ) (log : List (List ℕ)) (words : List Word) (closing : Word) (ws : List ℕ) : Type 0
  where
    pub starts : (start_of rule signals ws).0.found ≡ Ok tt
    pub told : GetWords (reached defined rule signals ws []) log words
    pub ends : EndsWith (ending defined (reached defined rule signals ws (map feeding log))) closing

abbrev pub WindRun : (limit unit wind : ℕ) → Word → List ℕ → Type 0
WindRun limit unit wind w ws =
    Run rule_signal (signal_record 2 limit) (wind_record unit wind ∷ []) (pending ∷ []) w ws

-- every element of a list
abbrev pub AllOf : {A : Type 0} → (A → Type 0) → List A → Type 0
AllOf P [] = Unit {0}
AllOf P (x ∷ xs) = P x × AllOf P xs

-- start, feed and close answer what the row says, with every work area of 1,664 words
unfoldable pub Answers : Row → Type 0
Answers (says rule log words closing) =
    (ws : List ℕ) → length ws ≡ area_words → Run rule vents log words closing ws
Answers (winds limit unit meets fails) =
    (ws : List ℕ) → length ws ≡ area_words
    → WindRun limit unit meets kept ws × AllOf (λ wind. WindRun limit unit wind broken ws) fails
Answers (accepted rule n) =
    (parameters_in rule ≡ n) × ((ws : List ℕ) → length ws ≡ area_words → (start_of rule vents ws).0.found ≡ Ok tt)
Answers (refused rule number) = (ws : List ℕ) → Carries (start_of rule vents ws).0.found number
Answers (reads signal bytes w) =
    (ws : List ℕ) → length ws ≡ area_words → Run rule_signal signal (bytes ∷ []) (pending ∷ []) w ws
Answers (waits rule h) =
    (ws : List ℕ) → length ws ≡ area_words
    → ((start_of rule vents ws).0.found ≡ Ok tt) × (wait_of (start_of rule vents ws).0.next ≡ h)
