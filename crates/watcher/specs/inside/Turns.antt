-- What the functions behind start, feed, ask and close say. Nobody outside has to believe it.
use Rattle.std.specs.Prelude.{◌≡◌, false, List, [], ℕ, ◌^◌, ◌≤◌, ◌<◌, length, get_or, Ok, Err}
use Rattle.meaning.specs.Rule.{Node, parameters}
use Rattle.meaning.specs.Words.{Known}
use Rattle.meaning.specs.Words as words
use Rattle.rewriting.specs.declared.step.Plan.{Plan}
use Rattle.rewriting.specs.declared.step.Moment.{Moment}
use Rattle.rewriting.specs.Decode.{rule_in}
use Rattle.rewriting.specs.Known.{area_of}
use Rattle.rewriting.specs.Plans.{entry_for, closed_with}
use Rattle.watcher.specs.declared.state.Report.{Report}
use Rattle.watcher.specs.declared.state.Verdict.{Verdict}
use Rattle.watcher.specs.declared.state.Phase.TheVariants as phase
use Rattle.watcher.specs.Answers.{End}
use Rattle.watcher.specs.declared.state.Ended.{Ended}
use Rattle.watcher.specs.declared.state.Watcher.{Watcher}
use Rattle.watcher.specs.Limits.{most_parameters, area_words}
use Rattle.watcher.specs.Rules.{records_of}
use Rattle.watcher.specs.Numbers.{verdict_value, stage_of}
use Rattle.watcher.specs.State.{rule_of, parameters_of, broken_state}
use Rattle.watcher.specs.Calls.{known_next, report_of}

-- the plan of the rule in a list's first records, of a state's rule, and of a rule list
abbrev pub plan_on : List ℕ → ℕ → Plan
plan_on list records = record { records = records; m = parameters (rule_in list records); places = most_parameters }

abbrev pub plan_of : Watcher → Plan
plan_of w = plan_on w.rule w.records

abbrev pub plan_in : List ℕ → Plan
plan_in rule = plan_on rule (records_of rule)

-- a state and an area that are handed in, and pass 7 and 12
pub record Passed (w : Watcher) (ws : List ℕ) : Type 0 where
  pub long : length ws ≡ area_words
  pub small : (i : ℕ) → get_or ws i 0 < 2 ^ 64
  pub whole : broken_state w ws ≡ false

-- the area after a record
unfoldable pub rewritten_of : Watcher → Moment → List ℕ → List ℕ
rewritten_of w new ws =
    let m : ℕ = parameters_of w in
    let s : Known m = known_next m (rule_of w) ws (entry_for new) (stage_of w.phase) in
    area_of most_parameters m s.past s.remainder

-- a report tells what is known, whatever that is, where the area holds its rows
abbrev pub ReportsOn : List ℕ → Report → Type 0
ReportsOn ws report =
    (m : ℕ) (s : Known m) → m ≤ most_parameters → ws ≡ area_of most_parameters m s.past s.remainder
    → report ≡ report_of m s

-- the state closed with a verdict
unfoldable pub ended_state : Watcher → Verdict → Watcher
ended_state w verdict =
    record {
      rule = w.rule;
      records = w.records;
      list = w.list;
      signals = w.signals;
      phase = phase.Closed verdict;
    }

-- closing by what asking answers
unfoldable pub close_by : Watcher → List ℕ → End → Ended × List ℕ
close_by w ws (Err r) = (record { answer = Err r; next = w }, ws)
close_by w ws (Ok v) = (
  record { answer = Ok v; next = ended_state w v },
  closed_with (plan_of w) (verdict_value v) ws,
)

-- the area at start
unfoldable pub begun_of : List ℕ → List ℕ
begun_of rule =
    let held : List Node = rule_in rule (records_of rule) in
    area_of most_parameters (parameters held) [] (words.start (parameters held) held)
