-- The shape of past rows: what the row of each record is, or which parameters it may depend on.
use Rattle.std.specs.Prelude.{◌≡◌, List, ℕ, ◌+◌, ◌<◌, length}
use Rattle.forms.specs.Form.{Form, constant, parameter, DependsOn}
use Rattle.forms.specs.Area.{form_in}
use Rattle.meaning.specs.Rule.{Node, fixed, signal, both, either, next, until, previous, since}
use Rattle.meaning.specs.Rule.{node_at, count, first_of, Entry, holds}
use Rattle.meaning.specs.Words.{Known}

-- parameter q is a shift of one of the first k records
pub record Place (rule : List Node) (k q : ℕ) : Type 0 where
  pub node : ℕ
  pub shift : ℕ
  pub before : node < k
  pub less : shift < count (node_at rule node)
  pub here : first_of rule node + shift ≡ q

-- next and until look ahead
unfoldable pub Future : Node → Type 0
Future (fixed b) = ⊥
Future (signal s) = ⊥
Future (both l r) = ⊥
Future (either l r) = ⊥
Future (next l v) = Unit {0}
Future (until l r v) = Unit {0}
Future (previous l v) = ⊥
Future (since l r v) = ⊥

-- q is a next or until parameter of one of the first k records
pub record FutureBefore (rule : List Node) (k q : ℕ) : Type 0 where
  pub place : Place rule k q
  pub future : Future (node_at rule place.node)

-- a past row by its record: a signal's constant, a next or until itself, or of earlier next and until parameters only
unfoldable pub RowShape : List Node → (m : ℕ) → Entry → (k n : ℕ) → Node → Form m → Type 0
RowShape rule m e k n (fixed b) f = Unit {0}
RowShape rule m e k n (signal s) f = f ≡ constant m (holds e s)
RowShape rule m e k n (both l r) f = Unit {0}
RowShape rule m e k n (either l r) f = Unit {0}
RowShape rule m e k n (next l v) f = f ≡ parameter m (first_of rule k + n)
RowShape rule m e k n (until l r v) f = f ≡ parameter m (first_of rule k + n)
RowShape rule m e k n (previous l v) f = DependsOn (FutureBefore rule k) m f
RowShape rule m e k n (since l r v) f = DependsOn (FutureBefore rule k) m f

-- the rows of the first K records have that shape, however they were made
abbrev pub Shaped : List Node → (m : ℕ) → Entry → List (Form m) → ℕ → Type 0
Shaped rule m e rows K =
    (k n : ℕ) → k < K → n < count (node_at rule k)
    → RowShape rule m e k n (node_at rule k) (form_in m rows (first_of rule k + n))

-- all past rows that are known have it
abbrev pub KnownShape : List Node → (m : ℕ) → Known m → Type 0
KnownShape rule m s = Shaped rule m s.last s.past (length rule)
