-- Past rows are not wrong exactly if they have the shape that the rewriting gives them.
-- Assumes nothing.
use mathlib.Core.Path.{◌≡◌, refl, sym, ap, ap₂, ◌∙◌, subst}
use mathlib.Core.Bool.{Bool, true, false, not, ◌&&◌, ◌||◌, or-true, true≢false, false≢true}
use mathlib.Core.Logic.{⊎_elim}
use mathlib.Core.List.{List}
use Prim.Native.Nat.{ℕ, zero, suc, ◌+◌, ◌-◌, ◌≤◌, ◌<◌}
use native.Mathlib.Omega.{arith}
use lib.Dec.{leb, ltb}
use lib.ListN.{length}
use borrow.Author.Tests.{leb-true, ltb-true, le-leb, lt-ltb, not-false}
use Rattle.ground.proofs.Folds.{last_or_less, less_or_not, some_none, none_at}
use Rattle.forms.specs.Form.{Form, constant, parameter, names, same, DependsOn}
use Rattle.forms.specs.Area.{form_in}
use Rattle.forms.proofs.Depends.{depends_names}
use Rattle.forms.proofs.Reading.{same_refl, same_eq}
use Rattle.meaning.specs.Rule.{Node, fixed, signal, both, either, next, until, previous, since}
use Rattle.meaning.specs.Rule.{node_at, count, first_of, Entry, holds}
use Rattle.meaning.specs.Shape.{Future, FutureBefore, RowShape, Shaped}
use Rattle.meaning.proofs.Blocks.{first_of_more}
use Rattle.meaning.proofs.Shapes.{names_future}
use Rattle.rewriting.specs.Shape.{looks_forward, forward, names_other, wrong_row, wrong_rows}
use Rattle.rewriting.proofs.ShapeLaws.{names_low}

-- next and until look forward
looks_future : (d : Node) → Future d → looks_forward d ≡ true
unfolding looks_forward Future
looks_future (fixed b) u = absurd u
looks_future (signal s) u = absurd u
looks_future (both l r) u = absurd u
looks_future (either l r) u = absurd u
looks_future (next l v) u = refl
looks_future (until l r v) u = refl
looks_future (previous l v) u = absurd u
looks_future (since l r v) u = absurd u

forward_future : (rule : List Node) (k p : ℕ) → FutureBefore rule k p → forward rule k p ≡ true
unfolding forward
forward_future rule zero p f = let z : ⊥ = omega (arith, f.place.before) in absurd z
forward_future rule (suc k) p f =
    ⊎_elim here (λ l. before (forward_future rule k p (earlier l))) (last_or_less f.place.before)
  where
    earlier : f.place.node < k → FutureBefore rule k p
    earlier l =
        record {
          place =
              record {
                node = f.place.node;
                shift = f.place.shift;
                before = l;
                less = f.place.less;
                here = f.place.here;
              };
          future = f.future;
        }

    own : Bool
    own = looks_forward (node_at rule k) && (leb (first_of rule k) p && ltb p (first_of rule (suc k)))

    before : forward rule k p ≡ true → (forward rule k p || own) ≡ true
    before e = ap (λ b. b || own) e

    here : f.place.node ≡ k → (forward rule k p || own) ≡ true
    here e =
        let less : f.place.shift < count (node_at rule k)
        = subst (λ x. f.place.shift < count (node_at rule x)) e f.place.less in
        let is : first_of rule k + f.place.shift ≡ p
        = subst (λ x. first_of rule x + f.place.shift ≡ p) e f.place.here in
        let looks = looks_future (node_at rule k) (subst (λ x. Future (node_at rule x)) e f.future) in
        let low = le-leb (first_of rule k) p (omega arith) in
        let high = lt-ltb p (first_of rule (suc k)) (omega (arith, first_of_more rule k)) in
        ap (λ b. forward rule k p || b) (ap₂ ◌&&◌ looks (ap₂ ◌&&◌ low high)) ∙ or-true (forward rule k p)

-- a parameter that is forward is one of next or until
looks_ahead : (d : Node) → looks_forward d ≡ true → Future d
unfolding looks_forward Future
looks_ahead (fixed b) e = false≢true e
looks_ahead (signal s) e = false≢true e
looks_ahead (both l r) e = false≢true e
looks_ahead (either l r) e = false≢true e
looks_ahead (next l v) e = tt
looks_ahead (until l r v) e = tt
looks_ahead (previous l v) e = false≢true e
looks_ahead (since l r v) e = false≢true e

wider : (rule : List Node) (k p : ℕ) → FutureBefore rule k p → FutureBefore rule (suc k) p
wider rule k p f =
    record {
      place =
          record {
            node = f.place.node;
            shift = f.place.shift;
            before = omega (arith, f.place.before);
            less = f.place.less;
            here = f.place.here;
          };
      future = f.future;
    }

both_hold : (a b : Bool) → (a && b) ≡ true → (a ≡ true) × (b ≡ true)
both_hold true b e = (refl, e)
both_hold false b e = absurd (false≢true e)

is_forward : (rule : List Node) (k p : ℕ) → forward rule k p ≡ true → FutureBefore rule k p
unfolding forward
is_forward rule zero p e = absurd (false≢true e)
is_forward rule (suc k) p e = go (forward rule k p) refl (is_forward rule k p) e
  where
    own : Bool
    own = looks_forward (node_at rule k) && (leb (first_of rule k) p && ltb p (first_of rule (suc k)))

    here : own ≡ true → FutureBefore rule (suc k) p
    here e =
        let a = both_hold (looks_forward (node_at rule k)) _ e in
        let b = both_hold (leb (first_of rule k) p) _ a.1 in
        let low = leb-true (first_of rule k) p b.0 in
        let high = ltb-true p (first_of rule (suc k)) b.1 in
        record {
          place =
              record {
                node = k;
                shift = p - first_of rule k;
                before = omega arith;
                less = omega (arith, first_of_more rule k);
                here = omega arith;
              };
          future = looks_ahead (node_at rule k) a.0;
        }

    go : (b : Bool) → forward rule k p ≡ b → (forward rule k p ≡ true → FutureBefore rule k p) → (b || own) ≡ true
        → FutureBefore rule (suc k) p
    go true q rest e = wider rule k p (rest q)
    go false q rest e = here e

module _ (rule : List Node) (m : ℕ) where
  -- a form that depends only on next and until parameters of the first k records names no other
  names_fine : (f : Form m) (k : ℕ) → DependsOn (FutureBefore rule k) m f → names_other rule m f k ≡ false
  unfolding names_other
  names_fine f k d = some_none m _ (λ p l. go p (names m f p) refl)
    where
      go : (p : ℕ) (b : Bool) → names m f p ≡ b → (b && not (forward rule k p)) ≡ false
      go p false e = refl
      go p true e = ap not (forward_future rule k p (names_future rule k m f d p e))

  same_fine : (f g : Form m) → f ≡ g → not (same m f g) ≡ false
  same_fine f g e = ap not (ap (λ h. same m h g) e ∙ same_refl m g)

  row_fine : (e : Entry) (k n : ℕ) (d : Node) (f : Form m) → RowShape rule m e k n d f
      → wrong_row rule m e k n d f ≡ false
  unfolding wrong_row RowShape
  row_fine e k n (fixed b) f s = refl
  row_fine e k n (signal t) f s = same_fine f (constant m (holds e t)) s
  row_fine e k n (both l r) f s = refl
  row_fine e k n (either l r) f s = refl
  row_fine e k n (next l v) f s = same_fine f (parameter m (first_of rule k + n)) s
  row_fine e k n (until l r v) f s = same_fine f (parameter m (first_of rule k + n)) s
  row_fine e k n (previous l v) f s = names_fine f k s
  row_fine e k n (since l r v) f s = names_fine f k s

  -- past rows of the shape that the rewriting gives them are not wrong
  pub rows_fine : (e : Entry) (past : List (Form m)) → Shaped rule m e past (length rule)
      → wrong_rows rule m e past ≡ false
  unfolding wrong_rows
  rows_fine e past shaped =
      some_none (length rule) _
      (λ k h.
      some_none (count (node_at rule k)) _
      (λ n c. row_fine e k n (node_at rule k) (form_in m past (first_of rule k + n)) (shaped k n h c)))

  -- a form that names nothing but next and until parameters of earlier records depends on nothing else
  depends_ahead : (f : Form m) (k : ℕ) → names_other rule m f k ≡ false → DependsOn (FutureBefore rule k) m f
  unfolding names_other
  depends_ahead f k e ρ ρ' agree =
      depends_names m f ρ ρ' (λ j n. agree j (⊎_elim (known j n) (λ h. absurd (unnamed j n h)) (less_or_not j m)))
    where
      unnamed : (j : ℕ) → names m f j ≡ true → m ≤ j → ⊥
      unnamed j n h = true≢false (sym n ∙ names_low m f j h)

      known : (j : ℕ) → names m f j ≡ true → j < m → FutureBefore rule k j
      known j n h =
          is_forward rule k j
          (not-false (forward rule k j)
          (ap (λ b. b && not (forward rule k j)) (sym n) ∙ none_at m _ e j h))

  row_shaped : (e : Entry) (k n : ℕ) (d : Node) (f : Form m) → wrong_row rule m e k n d f ≡ false
      → RowShape rule m e k n d f
  unfolding wrong_row RowShape
  row_shaped e k n (fixed b) f w = tt
  row_shaped e k n (signal s) f w = same_eq m f (constant m (holds e s)) (not-false _ w)
  row_shaped e k n (both l r) f w = tt
  row_shaped e k n (either l r) f w = tt
  row_shaped e k n (next l v) f w = same_eq m f (parameter m (first_of rule k + n)) (not-false _ w)
  row_shaped e k n (until l r v) f w = same_eq m f (parameter m (first_of rule k + n)) (not-false _ w)
  row_shaped e k n (previous l v) f w = depends_ahead f k w
  row_shaped e k n (since l r v) f w = depends_ahead f k w

  -- past rows that are not wrong have that shape
  pub rows_shaped : (e : Entry) (past : List (Form m)) → wrong_rows rule m e past ≡ false
      → Shaped rule m e past (length rule)
  unfolding wrong_rows
  rows_shaped e past w k n h c =
      row_shaped e k n (node_at rule k) (form_in m past (first_of rule k + n))
      (none_at (count (node_at rule k)) _ (none_at (length rule) _ w k h) n c)
