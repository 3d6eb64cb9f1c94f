-- What the words of rows tell of their forms, and which rows a record's must be, kind by kind.
-- Assumes nothing.
use mathlib.Core.Path.{◌≡◌, refl, sym, ap, ◌∙◌}
use mathlib.Core.Bool.{Bool, true, false, not, ◌&&◌, ◌||◌, true≢false}
use mathlib.Core.Logic.{⊎_elim}
use mathlib.Core.List.{List}
use Prim.Native.Nat.{ℕ, ◌+◌, ◌^◌, ◌≤◌, ◌<◌}
use native.Mathlib.Omega.{arith}
use borrow.Author.Tests.{eq-eqb, ne_eqb}
use lib.Bits.{bit_or, or_lt}
use lib.Dec.{eqb}
use lib.Pointwise.{pointwise, bytes_decides}
use Rattle.ground.specs.Fold.{some}
use Rattle.ground.specs.Bits.{bit, of_bits}
use Rattle.ground.proofs.Folds.{fold_cong, less_or_not, some_none, none_at}
use Rattle.ground.proofs.Bits.{bit_or_lem, bit_above}
use Rattle.ground.proofs.Numbers.{same_bits, of_bits_lt, bit_of_bits}
use Rattle.forms.specs.Form.{Form, constant, parameter, has, names, same}
use Rattle.forms.specs.Words.{pack, unpack}
use Rattle.forms.proofs.Packing.{pack_inj}
use Rattle.forms.proofs.Reading.{same_refl, same_eq}
use Rattle.meaning.proofs.Ranges.{same_truth}
use Rattle.meaning.specs.Rule.{Node, node_at, first_of, holds}
use Rattle.rewriting.specs.declared.step.Moment.{Moment}
use Rattle.rewriting.specs.Plans.{entry_for}
use Rattle.rewriting.proofs.ByKind.{Quiet, Future, Past, is_kind, kind_quiet, kind_future, kind_past}
use Rattle.rewriting.specs.declared.kind.Kind.TheVariants.{Signal}
use Rattle.rewriting.specs.declared.shape.Here.{Here}
use Rattle.rewriting.specs.Shape.{forward, names_other, wrong_row}
use Rattle.rewriting.specs.inside.Shapes.{Tells}

-- a number has a bit that another lacks exactly if it adds one
other_bits : (n a b : ℕ) → a < 2 ^ n → b < 2 ^ n → not (eqb (bit_or a b) b) ≡ some n (λ p. bit a p && not (bit b p))
other_bits n a b ha hb = go (some n lacks) refl
  where
    lacks : ℕ → Bool
    lacks p = bit a p && not (bit b p)

    joined : (x y : Bool) → (x || y) ≡ y → (x && not y) ≡ false
    joined true true e = refl
    joined true false e = e
    joined false y e = refl

    inside : (x y : Bool) → (x && not y) ≡ false → (x || y) ≡ y
    inside true true e = refl
    inside true false e = e
    inside false y e = refl

    go : (t : Bool) → some n lacks ≡ t → not (eqb (bit_or a b) b) ≡ some n lacks
    go true e =
        ap not
        (ne_eqb (bit_or a b) b
        (λ q.
        true≢false
        (sym e ∙ some_none n lacks (λ p h. joined (bit a p) (bit b p) (sym (bit_or_lem a b p) ∙ ap (λ x. bit x p) q)))))
        ∙ sym e
    go false e =
        ap not
        (eq-eqb (bit_or a b) b
        (same_bits n (bit_or a b) b (or_lt n a b ha hb) hb
        (λ p h. bit_or_lem a b p ∙ inside (bit a p) (bit b p) (none_at n lacks e p h))))
        ∙ sym e

-- a form over m parameters names none from m on
pub names_low : (m : ℕ) (f : Form m) (p : ℕ) → m ≤ p → names m f p ≡ false
unfolding names
names_low m f p h = some_none (2 ^ m) _ (λ k l. ap (λ b. b && has m f (bit k)) (bit_above k m p l h))

-- a test that fails from m on passes below n exactly if it passes below m
some_low : (m n : ℕ) (g : ℕ → Bool) → m ≤ n → ((p : ℕ) → m ≤ p → g p ≡ false) → some n g ≡ some m g
some_low m n g h out = go (some m g) (some n g) refl refl
  where
    go : (s t : Bool) → some m g ≡ s → some n g ≡ t → some n g ≡ some m g
    go false t e q = some_none n g (λ p l. ⊎_elim (none_at m g e p) (out p) (less_or_not p m)) ∙ sym e
    go true true e q = q ∙ sym e
    go true false e q =
        absurd (true≢false (sym e ∙ some_none m g (λ p l. none_at n g q p (let u : p < n = omega arith in u))))

pub names_other_lem : (m : ℕ) (f : Form m) (named allowed : ℕ) → m ≤ 12 → allowed < 2 ^ 12
    → named ≡ of_bits 12 (names m f)
    → not (eqb (bit_or named allowed) allowed) ≡ some m (λ p. names m f p && not (bit allowed p))
names_other_lem m f named allowed few h e =
    ap (λ x. not (eqb (bit_or x allowed) allowed)) e
    ∙ other_bits 12 (of_bits 12 (names m f)) allowed (of_bits_lt 12 (names m f)) h
    ∙ fold_cong ◌||◌ false 12 (λ p. bit (of_bits 12 (names m f)) p && not (bit allowed p))
    (λ p. names m f p && not (bit allowed p))
    (λ p l. ap (λ b. b && not (bit allowed p)) (bit_of_bits 12 (names m f) p l))
    ∙ some_low m 12 (λ p. names m f p && not (bit allowed p)) few
    (λ p l. ap (λ b. b && not (bit allowed p)) (names_low m f p l))

-- rows are equal exactly if they are those of the same form
pub same_row : (m : ℕ) (f g : Form m) → m ≤ 12 → (a b : List ℕ) → a ≡ pack m f → b ≡ pack m g
    → pointwise eqb a b ≡ same m f g
same_row m f g few a b ea eb =
    same_truth _ _
    (λ e.
    ap (same m f) (sym (pack_inj m f g few (sym ea ∙ (bytes_decides a b).0 e ∙ eb))) ∙ same_refl m f)
    (λ e. (bytes_decides a b).1 (ea ∙ ap (pack m) (same_eq m f g e) ∙ sym eb))

-- the row of a record's shift, by the record's kind
module _ (here : Here) (n m : ℕ) (last : Moment) (row : List ℕ) (few : m ≤ 12)
    (is : row ≡ pack m (unpack m row)) (rule : List Node) (k : ℕ) (t : Tells rule k here) where
  abbrev wrong : Node → Bool
  wrong d = wrong_row rule m (entry_for last) k n d (unpack m row)

  -- the words of a wanted row are compared
  compared : (want : List ℕ) (g : Form m) (r : Bool) → want ≡ pack m g → r ≡ not (pointwise eqb row want)
      → r ≡ not (same m (unpack m row) g)
  compared want g r e q = q ∙ ap not (same_row m (unpack m row) g few row want is e)

  pub wrong_signal : (b r : Bool) (want : List ℕ) → here.record.kind ≡ Signal
      → b ≡ bit last.signals here.record.left → want ≡ pack m (constant m b) → r ≡ not (pointwise eqb row want)
      → r ≡ wrong (node_at rule k)
  unfolding wrong_row holds
  wrong_signal b r want e i w q =
      is_kind here.record (λ d. r ≡ wrong d) Signal e
      (compared want (constant m b) r w q ∙ ap (λ x. not (same m (unpack m row) (constant m x))) i)
      ∙ ap wrong t.node

  pub wrong_quiet : Quiet here.record.kind → false ≡ wrong (node_at rule k)
  unfolding wrong_row
  wrong_quiet e = kind_quiet here.record (λ d. false ≡ wrong d) refl refl refl refl e ∙ ap wrong t.node

  pub wrong_self : (r : Bool) (want : List ℕ) → Future here.record.kind
      → want ≡ pack m (parameter m (here.first + n)) → r ≡ not (pointwise eqb row want)
      → r ≡ wrong (node_at rule k)
  unfolding wrong_row
  wrong_self r want e w q = kind_future here.record (λ d. r ≡ wrong d) own own e ∙ ap wrong t.node
    where
      own : r ≡ not (same m (unpack m row) (parameter m (first_of rule k + n)))
      own =
          compared want (parameter m (here.first + n)) r w q
          ∙ ap (λ x. not (same m (unpack m row) (parameter m (x + n)))) t.before.starts

  pub wrong_names : (r : Bool) → Past here.record.kind
      → r ≡ some m (λ p. names m (unpack m row) p && not (bit here.allowed p))
      → r ≡ wrong (node_at rule k)
  unfolding wrong_row names_other
  wrong_names r e q = kind_past here.record (λ d. r ≡ wrong d) own own e ∙ ap wrong t.node
    where
      own : r ≡ some m (λ p. names m (unpack m row) p && not (forward rule k p))
      own =
          q ∙ fold_cong ◌||◌ false m (λ p. names m (unpack m row) p && not (bit here.allowed p))
          (λ p. names m (unpack m row) p && not (forward rule k p))
          (λ p l.
          ap (λ b. names m (unpack m row) p && not b)
          (ap (λ x. bit x p) t.before.allows ∙ bit_of_bits 12 (forward rule k) p (omega arith)))
