-- `turns::value_now` meets its contract: the plan is that of the state's rule.
use native.Mathlib.Omega.{arith}
use borrow.Author.Rules.{rules}
use Rattle.watcher.specs.Calls.{value_now, known_now}
use Rattle.watcher.specs.State.{parameters_of, rule_of}
use Rattle.watcher.proofs.Turning.{plan_records}
use Rattle.watcher.proofs.TurnLaws.{passed_most, passed_sound, passed_area}
use Rattle.watcher.proofs.turns.value_now.Goals as goal

pub rule_in-rule-requires : goal.rule_in-rule-requires
rule_in-rule-requires c = passed_sound _ _ c.requires (omega arith)

pub table_for-table-requires : goal.table_for-table-requires
table_for-table-requires c = plan_records _ _ _ c.rule_in-rule.ensures.1 (passed_most _ _ c.requires)

pub value_if_last-requires : goal.value_if_last-requires
value_if_last-requires c = (
  c.rule_in-rule.result.sound,
  c.table_for-table.ensures,
  passed_area _ _ c.requires _ c.rule_in-rule.ensures.1 (omega arith),
)

pub returns : goal.returns
unfolding value_now known_now parameters_of rule_of
returns c = search rules
