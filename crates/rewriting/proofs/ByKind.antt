-- The record of a rule by its kind: what others say of `node_for`, they say by these laws.
-- Assumes nothing.
use mathlib.Core.Path.{◌≡◌, refl, sym, ap, subst, ◌∙◌}
use mathlib.Core.Bool.{Bool, true, false, cond}
use mathlib.Core.Logic.{◌⊎◌, ⊎_elim}
use Prim.Native.Nat.{ℕ, ◌≤◌, ◌<◌}
use native.Mathlib.Omega.{arith}
use lib.Dec.{eqb, leb}
use borrow.Author.Tests.{eqb-true, eqb-false, ne_eqb, leb-true, leb-false}
use Rattle.meaning.specs.Interval.{Interval}
use Rattle.meaning.specs.Rule.{Node, fixed, signal, both, either, next, until, previous, since}
use Rattle.rewriting.specs.declared.kind.Kind.{Kind}
use Rattle.rewriting.specs.declared.kind.Kind.TheVariants.{True, False, Signal, And, Xor, Next, Until, Previous, Since}
use Rattle.rewriting.specs.declared.kind.Kind.TheVariants.{Other}
use Rattle.rewriting.specs.declared.step.Record.{Record}
use Rattle.rewriting.specs.Decode.{kind_of, kind_number, interval_for, node_of, node_for}
use Rattle.rewriting.specs.Shape.{looks_forward}

-- the byte of the kind that a byte is, is that byte
module _ (byte : ℕ) where
  pick : (j : ℕ) (x y : Kind) → kind_number x ≡ j → ((byte ≡ j → ⊥) → kind_number y ≡ byte)
      → kind_number (cond (eqb byte j) x y) ≡ byte
  pick j x y e h = go (eqb byte j) refl
    where
      go : (b : Bool) → eqb byte j ≡ b → kind_number (cond b x y) ≡ byte
      go true q = omega (arith, e, eqb-true byte j q)
      go false q = h (eqb-false byte j q)

  other : (byte ≡ 1 → ⊥) × (byte ≡ 2 → ⊥) × (byte ≡ 3 → ⊥) × (byte ≡ 4 → ⊥) × (byte ≡ 5 → ⊥) × (byte ≡ 6 → ⊥)
      × (byte ≡ 7 → ⊥) × (byte ≡ 8 → ⊥) × (byte ≡ 9 → ⊥) → kind_number (Other byte) ≡ byte
  unfolding kind_number
  other n = go (leb byte 9) refl
    where
      go : (b : Bool) → leb byte 9 ≡ b → cond b 0 byte ≡ byte
      go true q = let h = leb-true byte 9 q in omega (arith, n, h)
      go false q = refl

  pub number_of_kind : kind_number (kind_of byte) ≡ byte
  unfolding kind_of kind_number
  number_of_kind =
      pick 1 _ _ refl λ a. pick 2 _ _ refl λ b. pick 3 _ _ refl λ c. pick 4 _ _ refl λ d. pick 5 _ _ refl λ e.
      pick 6 _ _ refl λ f. pick 7 _ _ refl λ g. pick 8 _ _ refl λ h. pick 9 _ _ refl λ i.
      other (a, b, c, d, e, f, g, h, i)

-- the record of a kind
abbrev pub node_by : Kind → (left right : ℕ) → Interval → Node
node_by True left right v = fixed true
node_by False left right v = fixed false
node_by Signal left right v = signal left
node_by And left right v = both left right
node_by Xor left right v = either left right
node_by Next left right v = next left v
node_by Until left right v = until left right v
node_by Previous left right v = previous left v
node_by Since left right v = since left right v
node_by (Other byte) left right v = since left right v

node_number : (kind : Kind) (left right : ℕ) (v : Interval)
    → node_of (kind_number kind) left right v ≡ node_by kind left right v
unfolding node_of kind_number
node_number True left right v = refl
node_number False left right v = refl
node_number Signal left right v = refl
node_number And left right v = refl
node_number Xor left right v = refl
node_number Next left right v = refl
node_number Until left right v = refl
node_number Previous left right v = refl
node_number Since left right v = refl
node_number (Other byte) left right v = go (leb byte 9) refl
  where
    off : 9 < byte → (j : ℕ) → j ≤ 9 → eqb byte j ≡ false
    off h j l = ne_eqb byte j (λ e. absurd (omega arith))

    go : (b : Bool) → leb byte 9 ≡ b → node_of (cond b 0 byte) left right v ≡ since left right v
    go true q = refl
    go false q =
        let h = leb-false byte 9 q in
        rw (
          off h 1 (omega arith),
          off h 2 (omega arith),
          off h 3 (omega arith),
          off h 4 (omega arith),
          off h 5 (omega arith),
          off h 6 (omega arith),
          off h 7 (omega arith),
          off h 8 (omega arith),
        )

-- constants, and, exclusive or; next and until, which look forward; since, as which others are read; and previous
abbrev pub Quiet : Kind → Type 0
Quiet kind = (kind ≡ True) ⊎ ((kind ≡ False) ⊎ ((kind ≡ And) ⊎ (kind ≡ Xor)))

abbrev pub Future : Kind → Type 0
Future kind = (kind ≡ Next) ⊎ (kind ≡ Until)

abbrev pub LikeSince : Kind → Type 0
LikeSince kind = (kind ≡ Since) ⊎ ((byte : ℕ) × (kind ≡ Other byte))

abbrev pub Past : Kind → Type 0
Past kind = (kind ≡ Previous) ⊎ LikeSince kind

-- what holds of a kind's record holds of a record of that kind
module _ (d : Record) where
  -- its interval
  abbrev pub over : Interval
  over = interval_for d.interval

  pub node_kind : (kind : Kind) → d.kind ≡ kind → node_for d ≡ node_by kind d.left d.right over
  unfolding node_for
  node_kind kind e = node_number d.kind d.left d.right over ∙ ap (λ x. node_by x d.left d.right over) e

  module _ (P : Node → Type 0) where
    pub is_kind : (kind : Kind) → d.kind ≡ kind → P (node_by kind d.left d.right over) → P (node_for d)
    is_kind kind e p = subst P (sym (node_kind kind e)) p

    pub kind_quiet : P (fixed true) → P (fixed false) → P (both d.left d.right) → P (either d.left d.right)
        → Quiet d.kind → P (node_for d)
    kind_quiet a b c e =
        ⊎_elim (λ q. is_kind True q a) (⊎_elim (λ q. is_kind False q b)
        (⊎_elim (λ q. is_kind And q c) (λ q. is_kind Xor q e)))

    pub kind_future : P (next d.left over) → P (until d.left d.right over) → Future d.kind
        → P (node_for d)
    kind_future a b = ⊎_elim (λ q. is_kind Next q a) (λ q. is_kind Until q b)

    pub kind_since : P (since d.left d.right over) → LikeSince d.kind
        → P (node_for d)
    kind_since a = ⊎_elim (λ q. is_kind Since q a) (λ q. is_kind (Other q.0) q.1 a)

    pub kind_past : P (previous d.left over) → P (since d.left d.right over)
        → Past d.kind → P (node_for d)
    kind_past a b = ⊎_elim (λ q. is_kind Previous q a) (kind_since b)

-- only next and until look forward
pub looks_back : (d : Record) → (d.kind ≡ Next → ⊥) → (d.kind ≡ Until → ⊥) → looks_forward (node_for d) ≡ false
unfolding looks_forward
looks_back d a b = go d.kind refl
  where
    P : Node → Type 0
    P x = looks_forward x ≡ false

    go : (kind : Kind) → d.kind ≡ kind → looks_forward (node_for d) ≡ false
    go True q = is_kind d P True q refl
    go False q = is_kind d P False q refl
    go Signal q = is_kind d P Signal q refl
    go And q = is_kind d P And q refl
    go Xor q = is_kind d P Xor q refl
    go Next q = absurd (a q)
    go Until q = absurd (b q)
    go Previous q = is_kind d P Previous q refl
    go Since q = is_kind d P Since q refl
    go (Other byte) q = is_kind d P (Other byte) q refl

-- what holds of each kind, by its byte, holds of the record; it is a since where it is of no other kind
module _ (P : Node → Type 0) (kind left right : ℕ) (v : Interval) where
  choose : (j : ℕ) (x y : Node) → (1 ≤ kind → j ≤ kind) → (kind ≡ j → P x) → ((1 ≤ kind → j < kind) → P y)
      → P (cond (eqb kind j) x y)
  choose j x y h f g = go (eqb kind j) refl
    where
      go : (b : Bool) → eqb kind j ≡ b → P (cond b x y)
      go true e = f (eqb-true kind j e)
      go false e = let n = eqb-false kind j e in g (λ some. omega (arith, h some, n))

  pub by_byte : (kind ≡ 1 → P (fixed true)) → (kind ≡ 2 → P (fixed false)) → (kind ≡ 3 → P (signal left))
      → (kind ≡ 4 → P (both left right)) → (kind ≡ 5 → P (either left right)) → (kind ≡ 6 → P (next left v))
      → (kind ≡ 7 → P (until left right v)) → (kind ≡ 8 → P (previous left v))
      → ((1 ≤ kind → 9 ≤ kind) → P (since left right v)) → P (node_of kind left right v)
  unfolding node_of
  by_byte p₁ p₂ p₃ p₄ p₅ p₆ p₇ p₈ p₉ =
      choose 1 _ _ (λ h. h) p₁ λ h. choose 2 _ _ h p₂ λ h. choose 3 _ _ h p₃ λ h. choose 4 _ _ h p₄ λ h.
      choose 5 _ _ h p₅ λ h. choose 6 _ _ h p₆ λ h. choose 7 _ _ h p₇ λ h. choose 8 _ _ h p₈ p₉
