-- What the rewriting on a work area is made from, and what it asks for.
use Rattle.std.specs.Prelude.{◌≡◌, Bool, List, ℕ, ◌≤◌, ◌<◌}
use Rattle.forms.specs.Form.{Form, constant}
use Rattle.forms.specs.Words.{pack}
use Rattle.forms.specs.Area.{form_in, put_rows, Holds}
use Rattle.meaning.specs.Rule.{Node, Entry, parameters}
use Rattle.meaning.specs.Rewriting.{forms_of}
use Rattle.meaning.specs.Words.{Known, leave, feed}
use Rattle.rewriting.specs.Decode.{rule_in}
use Rattle.rewriting.specs.Known.{form_at, past_in, known_in, area_of, Tidy}
use Rattle.rewriting.specs.declared.step.Plan.{Plan}
use Rattle.rewriting.specs.declared.step.Moment.{Moment}

-- the rule that a plan's records hold, and a record of the log
abbrev pub rule_for : List ℕ → Plan → List Node
rule_for list plan = rule_in list plan.records

abbrev pub entry_for : Moment → Entry
entry_for moment = record { time = moment.time; signals = moment.signals }

-- what is known, read from the area, and put into it
abbrev pub read_in : (plan : Plan) → List ℕ → Moment → Known plan.m
read_in plan ws last = known_in plan.places plan.m ws (entry_for last)

abbrev pub area_with : (plan : Plan) → Known plan.m → List ℕ
area_with plan s = area_of plan.places plan.m s.past s.remainder

-- m counts the rule's parameters, and they have places among the twelve of a row
pub record Sound (list : List ℕ) (plan : Plan) : Type 0 where
  pub some : 0 < plan.records
  pub most : plan.records ≤ 64
  pub own : plan.m ≡ parameters (rule_in list plan.records)
  pub few : plan.m ≤ plan.places
  pub room : plan.places ≤ 12

-- the row of form j of a list
unfoldable pub form_row : (m : ℕ) → List (Form m) → ℕ → List ℕ
form_row m rows j = pack m (form_in m rows j)

-- a table with the forms of the rule's first records
abbrev pub table_with : List ℕ → ℕ → ℕ → List ℕ → List ℕ
table_with list records m ws = put_rows ws 0 records (form_row m (forms_of m (rule_in list records) records))

-- the table holds the forms of the rule's records
abbrev pub HoldsForms : List ℕ → Plan → List ℕ → Type 0
HoldsForms list plan table =
    Holds plan.m table 0 plan.records (forms_of plan.m (rule_for list plan) plan.records)

-- closing with a value: the past rows stay, and the remainder is that constant
abbrev pub closed_with : Plan → Bool → List ℕ → List ℕ
closed_with plan b ws = area_of plan.places plan.m (past_in plan.m ws) (constant plan.m b)

-- what the functions on an area stand on: a sound plan and the table of its forms, which `Tabled` keeps, and a tidy
-- area
abbrev pub Ready : (list : List ℕ) → Plan → (table ws : List ℕ) → Type 0
Ready list plan table ws = Sound list plan × HoldsForms list plan table × Tidy plan.places plan.m ws

-- the area after the first record, and after a later one
abbrev pub left_with : List ℕ → (plan : Plan) → (new : Moment) → List ℕ → List ℕ
left_with list plan new ws =
    area_with plan (leave plan.m (rule_for list plan) (form_at plan.m ws plan.places) (entry_for new))

abbrev pub fed_with : List ℕ → (plan : Plan) → (last new : Moment) → List ℕ → List ℕ
fed_with list plan last new ws =
    area_with plan (feed plan.m (rule_for list plan) (read_in plan ws last) (entry_for new))
