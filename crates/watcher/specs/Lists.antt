-- What is refused of the lists that start is given, in document 01's order (refusals 1 to 6).
use Rattle.std.specs.Prelude.{Bool, cond, List, [], ◌∷◌, ◌++◌, ℕ, Option, Ok, Err}
use Rattle.watcher.specs.declared.state.Refusal.{Refusal}
use Rattle.watcher.specs.declared.state.Refusal.TheVariants.{RuleLength, RuleRecord, RuleTwins, RuleParameters}
use Rattle.watcher.specs.declared.state.Refusal.TheVariants.{SignalList, SignalMissing}
use Rattle.watcher.specs.Answers.{Found}
use Rattle.rewriting.specs.Decode.{record_bytes}
use Rattle.watcher.specs.declared.state.Place.{Place}
use Rattle.watcher.specs.Rules.{records_of, wrong_length, byte_breaks, first_broken, rule_breaks, first_twins}
use Rattle.watcher.specs.Rules.{has_twins, many_parameters}
use Rattle.watcher.specs.Signals.{wrong_signals, names_missing}

-- a test, and the refusal that is given where it holds; it may go by what was found
pub record Test : Type 0 where
  pub holds : Bool
  pub gives : Refusal

-- the refusal of the first test that holds
unfoldable pub first_refusal : List Test → Found
first_refusal [] = Ok tt
first_refusal (t ∷ ts) = cond t.holds (Err t.gives) (first_refusal ts)

-- the refusal by the place of the first broken byte, or of the first twins; the number is the same for every place
abbrev pub broken_refusal : (rule : List ℕ) → Option Place → Refusal
broken_refusal rule place = RuleRecord

abbrev pub twins_refusal : Option Place → Refusal
twins_refusal place = RuleTwins

-- refusals 1 to 3, of a rule by itself
abbrev pub rule_tests : (rule : List ℕ) → List Test
rule_tests rule =
    record { holds = wrong_length rule; gives = RuleLength }
    ∷ record { holds = rule_breaks rule; gives = broken_refusal rule (first_broken record_bytes byte_breaks rule) }
    ∷ record { holds = has_twins rule; gives = twins_refusal (first_twins record_bytes rule) }
    ∷ []

unfoldable pub rule_refusal : (rule : List ℕ) → Found
rule_refusal rule = first_refusal (rule_tests rule)

-- refusals 1 to 6, in that order
unfoldable pub list_tests : (rule signals : List ℕ) → List Test
list_tests rule signals =
    rule_tests rule
    ++ (record { holds = many_parameters rule; gives = RuleParameters }
    ∷ record { holds = wrong_signals signals; gives = SignalList }
    ∷ record { holds = names_missing rule (records_of signals); gives = SignalMissing }
    ∷ [])

unfoldable pub lists_refusal : (rule signals : List ℕ) → Found
lists_refusal rule signals = first_refusal (list_tests rule signals)
