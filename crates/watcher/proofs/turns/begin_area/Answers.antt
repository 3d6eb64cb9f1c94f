-- `turns::begin_area` meets its contract: the plan is that of the rule list.
use native.Mathlib.Omega.{arith}
use Rattle.watcher.proofs.Turning.{sound_listed, plan_records, plan_room}
use Rattle.watcher.proofs.turns.begin_area.Goals as goal

pub rule_in-rule-requires : goal.rule_in-rule-requires
rule_in-rule-requires c = sound_listed _ _ c.records_of.ensures c.requires.0

pub table_for-table-requires : goal.table_for-table-requires
table_for-table-requires c =
    plan_records _ _ _ c.rule_in-rule.ensures.1 (omega (arith, c.records_of.ensures, c.requires.1))

pub begin-requires : goal.begin-requires
begin-requires c = plan_room _ c.args.area.now _ _ c.rule_in-rule.ensures.1 c.requires.2
