-- `tables` puts the tables of twelve rows one behind the other.
use mathlib.Core.Path.{◌≡◌}
use mathlib.Core.List.{List}
use Prim.Native.Nat.{◌≤◌}
use lib.ListN.{length}
use Rattle.forms.specs.Form.{Form}
use Rattle.forms.specs.Words.{most}
use Rattle.forms.specs.Area.{form_in, Holds}
use Rattle.forms.specs.inside.Steps.{Tables, only_named}
use Rattle.forms.proofs.table.tables.Given as goal

abbrev pub invariant-loop-j : goal.invariant-loop-j
invariant-loop-j l =
    (l.j ≤ 12) × (length l.ts ≡ 768)
    × ((rows : List (Form most)) → Holds most l.rows.area.now l.rows.base l.rows.count rows
    → Tables l.ts l.j (only_named l.named (form_in most rows)))
