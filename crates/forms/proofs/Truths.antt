-- Truth values: the form whose terms are the settings that make a form true.
-- Assumes nothing.
use mathlib.Core.Path.{◌≡◌, refl, sym, ap, ap₂, ◌∙◌}
use mathlib.Core.Bool.{Bool, true, false, ◌&&◌, cond}
use mathlib.Core.Logic.{◌≢◌}
use Prim.Native.Nat.{ℕ, zero, suc, ◌≤◌, ◌<◌}
use native.Mathlib.Omega.{arith}
use lib.Dec.{eqb}
use borrow.Author.Tests.{eq-eqb, ne_eqb, eqb-true, eqb-false}
use Rattle.ground.specs.Fold.{◌⊕◌}
use Rattle.ground.specs.Bits.{bit}
use Rattle.ground.proofs.Xor.{⊕_false, ⊕_comm, ⊕_cancel}
use Rattle.forms.specs.Form.{Form, constant, xor, and, put_in, value, has, truth, each}
use Rattle.forms.proofs.Values.{pairs, value_agree, canonical}
use Rattle.forms.proofs.Values.{value_constant, value_xor, value_and, value_put_in}
use Rattle.forms.proofs.Terms.{picked, has_agree, has_xor, has_false, terms_same}

-- the table has a setting exactly if the form is true under it
pub has_truth : (m : ℕ) (f : Form m) (S : ℕ → Bool) → has m (truth m f) S ≡ value m f S
unfolding has truth value
has_truth zero f S = refl
has_truth (suc m) f S = go (S m) (has_truth m f.0 S) (has_truth m f.1 S)
  where
    go : (b : Bool) → has m (truth m f.0) S ≡ value m f.0 S → has m (truth m f.1) S ≡ value m f.1 S
        → has m (cond b (xor m (truth m f.0) (truth m f.1)) (truth m f.0)) S
        ≡ value m f.0 S ⊕ (b && value m f.1 S)
    go true p q = has_xor m (truth m f.0) (truth m f.1) S ∙ ap₂ ◌⊕◌ p q
    go false p q = p ∙ sym (⊕_false (value m f.0 S))

pub has_each : (m : ℕ) (f g : Form m) (S : ℕ → Bool) → has m (each m f g) S ≡ (has m f S && has m g S)
unfolding has each
has_each zero f g S = refl
has_each (suc m) f g S =
    picked (S m)
    (λ b.
    has m (cond b (each m f.1 g.1) (each m f.0 g.0)) S
    ≡ (has m (cond b f.1 f.0) S && has m (cond b g.1 g.0) S))
    (has_each m f.1 g.1 S) (has_each m f.0 g.0 S)

-- forms with the same terms, of any set
pub has_same : (m : ℕ) (f g : Form m) → ((S : ℕ → Bool) → has m f S ≡ has m g S) → f ≡ g
has_same m f g h = terms_same m f g (λ k l. h (bit k))

pub truth_xor : (m : ℕ) (f g : Form m) → truth m (xor m f g) ≡ xor m (truth m f) (truth m g)
truth_xor m f g =
    has_same m (truth m (xor m f g)) (xor m (truth m f) (truth m g))
    (λ S.
    has_truth m (xor m f g) S ∙ value_xor m f g S
    ∙ sym (has_xor m (truth m f) (truth m g) S ∙ ap₂ ◌⊕◌ (has_truth m f S) (has_truth m g S)))

-- the transform is its own inverse
pub truth_truth : (m : ℕ) (f : Form m) → truth m (truth m f) ≡ f
unfolding truth
truth_truth zero f = refl
truth_truth (suc m) f =
    pairs m (truth_truth m f.0)
    (ap₂ (xor m) (truth_truth m f.0)
    (truth_xor m (truth m f.0) (truth m f.1) ∙ ap₂ (xor m) (truth_truth m f.0) (truth_truth m f.1))
    ∙ cancel f.0 f.1)
  where
    cancel : (a b : Form m) → xor m a (xor m a b) ≡ b
    cancel a b =
        canonical m (xor m a (xor m a b)) b
        (λ ρ.
        value_xor m a (xor m a b) ρ ∙ ap (λ x. value m a ρ ⊕ x) (value_xor m a b ρ)
        ∙ ⊕_cancel (value m a ρ) (value m b ρ))

-- joining by truth values
pub truth_and : (m : ℕ) (f g : Form m) → truth m (and m f g) ≡ each m (truth m f) (truth m g)
truth_and m f g =
    has_same m (truth m (and m f g)) (each m (truth m f) (truth m g))
    (λ S.
    has_truth m (and m f g) S ∙ value_and m f g S
    ∙ sym (has_each m (truth m f) (truth m g) S ∙ ap₂ ◌&&◌ (has_truth m f S) (has_truth m g S)))

pub and_by_truth : (m : ℕ) (f g : Form m) → and m f g ≡ truth m (each m (truth m f) (truth m g))
and_by_truth m f g = sym (truth_truth m (and m f g)) ∙ ap (truth m) (truth_and m f g)

-- putting in by truth values: the table of f, read at the rows' own truth values
pub put_in_by_truth : (m n : ℕ) (f : Form m) (σ : ℕ → Form n) (S : ℕ → Bool)
    → has n (truth n (put_in m n f σ)) S ≡ has m (truth m f) (λ j. has n (truth n (σ j)) S)
put_in_by_truth m n f σ S =
    has_truth n (put_in m n f σ) S ∙ value_put_in m n f σ S
    ∙ value_agree m f (λ j. value n (σ j) S) (λ j. has n (truth n (σ j)) S) (λ j h. sym (has_truth n (σ j) S))
    ∙ sym (has_truth m f (λ j. has n (truth n (σ j)) S))

-- one step of putting in, on tables: a xor (p and b)
pub truth_step : (m : ℕ) (a p b : Form m)
    → truth m (xor m a (and m p b)) ≡ xor m (truth m a) (each m (truth m p) (truth m b))
truth_step m a p b = truth_xor m a (and m p b) ∙ ap (xor m (truth m a)) (truth_and m p b)

pub truth_false : (m : ℕ) → truth m (constant m false) ≡ constant m false
truth_false m =
    has_same m (truth m (constant m false)) (constant m false)
    (λ S. has_truth m (constant m false) S ∙ value_constant m false S ∙ sym (has_false m S))

-- the pass of parameter p: each half with the parameter takes on the half without it
unfoldable pub pass : (m : ℕ) → ℕ → Form m → Form m
pass zero p f = f
pass (suc m) p f = cond (eqb p m) (f.0, xor m f.0 f.1) (pass m p f.0, pass m p f.1)

-- the passes of the parameters below k
unfoldable pub passes : (m : ℕ) → ℕ → Form m → Form m
passes m zero f = f
passes m (suc k) f = pass m k (passes m k f)

pass_low : (m p : ℕ) (f : Form (suc m)) → p < m → pass (suc m) p f ≡ (pass m p f.0, pass m p f.1)
unfolding pass
pass_low m p f h =
    ap (λ b. cond b (f.0, xor m f.0 f.1) (pass m p f.0, pass m p f.1))
    (ne_eqb p m (λ e. let z : ⊥ = omega arith in z))

passes_low : (m k : ℕ) (f : Form (suc m)) → k ≤ m → passes (suc m) k f ≡ (passes m k f.0, passes m k f.1)
unfolding pass passes
passes_low m zero f h = refl
passes_low m (suc k) f h =
    ap (pass (suc m) k) (passes_low m k f (omega arith))
    ∙ pass_low m k (passes m k f.0, passes m k f.1) (omega arith)

-- all m passes give the table
pub passes_truth : (m : ℕ) (f : Form m) → passes m m f ≡ truth m f
unfolding pass passes truth
passes_truth zero f = refl
passes_truth (suc m) f =
    let low : Form m = truth m f.0 in
    let high : Form m = truth m f.1 in
    ap (pass (suc m) m) (passes_low m m f (omega arith) ∙ pairs m (passes_truth m f.0) (passes_truth m f.1))
    ∙ ap (λ b. cond b (low, xor m low high) (pass m m low, pass m m high)) (eq-eqb m m refl)

-- a pass, term by term: S' is S without p
pub has_pass : (m p : ℕ) (f : Form m) (S S' : ℕ → Bool) → p < m → ((j : ℕ) → j ≢ p → S' j ≡ S j) → S' p ≡ false
    → has m (pass m p f) S ≡ has m f S ⊕ (S p && has m f S')
unfolding has pass
has_pass zero p f S S' h e z = let y : ⊥ = omega arith in absurd y
has_pass (suc m) p f S S' h e z = go (eqb p m) refl (λ g l. has_pass m p g S S' l e z)
  where
    top : (b : Bool)
        → has m (cond b (xor m f.0 f.1) f.0) S ≡ has m (cond b f.1 f.0) S ⊕ (b && has m f.0 S)
    top true = has_xor m f.0 f.1 S ∙ ⊕_comm (has m f.0 S) (has m f.1 S)
    top false = sym (⊕_false (has m f.0 S))

    go : (b : Bool) → eqb p m ≡ b → ((g : Form m) → p < m → has m (pass m p g) S ≡ has m g S ⊕ (S p && has m g S'))
        → has (suc m) (cond b (f.0, xor m f.0 f.1) (pass m p f.0, pass m p f.1)) S
        ≡ has (suc m) f S ⊕ (S p && has (suc m) f S')
    go true q r =
        let at : p ≡ m = eqb-true p m q in
        top (S m)
        ∙ ap₂ (λ b x. has m (cond (S m) f.1 f.0) S ⊕ (b && x)) (ap S (sym at))
        (has_agree m f.0 S S' (λ j l. sym (e j (λ x. let y : ⊥ = omega arith in y)))
        ∙ ap (λ b. has m (cond b f.1 f.0) S') (sym z ∙ ap S' at))
    go false q r =
        let ne : p ≡ m → ⊥ = eqb-false p m q in
        let l : p < m = omega arith in
        picked (S m)
        (λ b.
        has m (cond b (pass m p f.1) (pass m p f.0)) S
        ≡ has m (cond b f.1 f.0) S ⊕ (S p && has m (cond b f.1 f.0) S'))
        (r f.1 l) (r f.0 l)
        ∙ ap (λ b. has m (cond (S m) f.1 f.0) S ⊕ (S p && has m (cond b f.1 f.0) S'))
        (sym (e m (λ x. ne (sym x))))
