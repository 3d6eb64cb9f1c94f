-- `turns::close_area` meets its contract: the plan is that of the state's rule.
use native.Mathlib.Omega.{arith}
use Rattle.watcher.proofs.TurnLaws.{passed_sound, passed_area}
use Rattle.watcher.proofs.turns.close_area.Goals as goal

pub rule_in-rule-requires : goal.rule_in-rule-requires
rule_in-rule-requires c = passed_sound _ _ c.requires (omega arith)

pub close-requires : goal.close-requires
close-requires c = (
  c.rule_in-rule.result.sound.room,
  passed_area _ _ c.requires _ c.rule_in-rule.ensures.1 (omega arith),
)
