-- `turns::rewrite_area` goes by the phase; the plan is that of the state's rule.
use native.Mathlib.Omega.{arith}
use Rattle.watcher.proofs.Turning.{plan_records, left_first, fed_running}
use Rattle.watcher.proofs.TurnLaws.{passed_few, passed_most, passed_sound, passed_area}
use Rattle.watcher.proofs.turns.rewrite_area.Goals as goal

pub rule_in-rule-requires : goal.rule_in-rule-requires
rule_in-rule-requires c = passed_sound _ _ c.requires (omega arith)

pub table_for-table-requires : goal.table_for-table-requires
table_for-table-requires c = plan_records _ _ _ c.rule_in-rule.ensures.1 (passed_most _ _ c.requires)

pub first-requires : goal.first-requires
first-requires c = (
  c.rule_in-rule.result.sound,
  c.table_for-table.ensures,
  passed_area _ _ c.requires _ c.rule_in-rule.ensures.1 (omega arith),
)

pub feed-requires : goal.feed-requires
feed-requires c = (
  c.rule_in-rule.result.sound,
  c.table_for-table.ensures,
  passed_area _ _ c.requires _ c.rule_in-rule.ensures.1 (omega arith),
)

pub returns-in-Fresh : goal.returns-in-Fresh
returns-in-Fresh c =
    let is = c.rule_in-rule.ensures in (
      left_first _ _ _ _ _ _ is.0 is.1 c.in-Fresh.is c.first.ensures,
      passed_few _ _ c.requires (omega arith),
    )

pub returns-in-Running : goal.returns-in-Running
returns-in-Running c =
    let is = c.rule_in-rule.ensures in (
      fed_running _ _ _ _ _ _ is.0 is.1 _ c.in-Running.is c.feed.ensures,
      passed_few _ _ c.requires (omega arith),
    )
