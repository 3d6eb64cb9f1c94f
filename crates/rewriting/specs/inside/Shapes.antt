-- What the check of a running state's rows is made from, and what it asks for.
use Rattle.std.specs.Prelude.{◌≡◌, Bool, true, ◌&&◌, ◌||◌, List, ℕ, ◌+◌, ◌<◌, leb, ltb}
use Rattle.ground.specs.Bits.{bit, of_bits}
use Rattle.forms.specs.Words.{fits}
use Rattle.forms.specs.Area.{row_at, form_in}
use Rattle.meaning.specs.Rule.{Node, node_at, count, first_of}
use Rattle.rewriting.specs.declared.step.Moment.{Moment}
use Rattle.rewriting.specs.Known.{past_in}
use Rattle.rewriting.specs.Plans.{entry_for}
use Rattle.rewriting.specs.Decode.{node_for}
use Rattle.rewriting.specs.declared.shape.Here.{Here}
use Rattle.rewriting.specs.Shape.{looks_forward, forward, wrong_row, wrong_at}

-- what is counted before record k: its first parameter, and the parameters that its rows may name, as bits
pub record Before (rule : List Node) (k first allowed : ℕ) : Type 0 where
  pub starts : first ≡ first_of rule k
  pub allows : allowed ≡ of_bits 12 (forward rule k)

-- it tells of record k: its bytes, how many parameters it has, and what is counted before it
pub record Tells (rule : List Node) (k : ℕ) (here : Here) : Type 0 where
  pub node : node_for here.record ≡ node_at rule k
  pub counts : here.count ≡ count (node_at rule k)
  pub before : Before rule k here.first here.allowed

-- the parameters that rows of the next record may name
unfoldable pub widened : Here → ℕ
widened here =
    of_bits 12
    (λ p.
    bit here.allowed p
    || (looks_forward (node_for here.record) && (leb here.first p && ltb p (here.first + here.count))))

-- no past row has a bit at or above 2^m
abbrev pub Fitting : ℕ → List ℕ → Type 0
Fitting m ws = (j : ℕ) → j < m → fits m (row_at ws j) ≡ true

-- the answer is whether the row of shift n of the record is wrong
abbrev pub RowWrong : Here → ℕ → Moment → List ℕ → Bool → Type 0
RowWrong here n last ws r =
    (rule : List Node) (k : ℕ) → Tells rule k here
    → r ≡ wrong_row rule here.m (entry_for last) k n (node_at rule k)
    (form_in here.m (past_in here.m ws) (first_of rule k + n))

-- the answer is whether one of the record's rows is wrong
abbrev pub RecordWrong : Here → Moment → List ℕ → Bool → Type 0
RecordWrong here last ws r =
    (rule : List Node) (k : ℕ) → Tells rule k here → r ≡ wrong_at rule here.m (entry_for last) (past_in here.m ws) k
