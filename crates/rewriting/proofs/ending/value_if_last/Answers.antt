-- `ending::value_if_last` gives the remainder's value under the setting at the end.
use mathlib.Core.Path.{◌∙◌}
use Prim.Native.Nat.{◌≤◌}
use native.Mathlib.Omega.{arith}
use Rattle.rewriting.proofs.Placed.{tidy_rest}
use Rattle.rewriting.proofs.Lasting.{last_valued}
use Rattle.rewriting.proofs.ending.value_if_last.Goals as goal

pub returns : goal.returns
returns c =
    let a = c.args in
    let rule = a.tabled.rule in
    let sound = c.requires.0 in
    let few : rule.plan.m ≤ 12 = omega (arith, sound.few, sound.room) in
    last_valued rule.list.now rule.plan a.last a.area.now _ _ c.last_setting-setting.ensures
    (c.value.ensures _ _ few (c.load.ensures ∙ tidy_rest _ _ _ c.requires.2))
