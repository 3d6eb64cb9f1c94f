-- `form::form_row` goes by the kind of the record.
use mathlib.Core.Path.{◌≡◌}
use mathlib.Core.Logic.{⊎_elim}
use mathlib.Core.List.{List}
use Prim.Native.Nat.{ℕ}
use Rattle.forms.specs.Form.{Form}
use Rattle.forms.specs.Words.{pack}
use Rattle.meaning.specs.Rule.{Node}
use Rattle.meaning.specs.Rewriting.{form_of}
use Rattle.rewriting.specs.declared.kind.Kind.TheVariants.{True, False, Signal, And, Xor, Next, Until}
use Rattle.rewriting.proofs.ByKind.{is_kind, kind_past}
use Rattle.rewriting.proofs.form.form_row.Goals as goal

abbrev Forms : (m : ℕ) → List (Form m) → ℕ → List ℕ → Node → Type 0
Forms m forms first r d = r ≡ pack m (form_of m forms first d)

pub returns-in-True : goal.returns-in-True
unfolding form_of
returns-in-True c forms h =
    is_kind c.args.record (Forms _ forms c.args.first _) True c.in-True.is (c.constant.ensures _)

pub returns-in-False : goal.returns-in-False
unfolding form_of
returns-in-False c forms h =
    is_kind c.args.record (Forms _ forms c.args.first _) False c.in-False.is (c.constant-in-False.ensures _)

pub returns-in-And : goal.returns-in-And
unfolding form_of
returns-in-And c forms h =
    is_kind c.args.record (Forms _ forms c.args.first _) And c.in-And.is
    (c.and.ensures _ _ _ c.requires (c.row.ensures _ forms h) (c.row-in-And.ensures _ forms h))

pub returns-in-Xor : goal.returns-in-Xor
unfolding form_of
returns-in-Xor c forms h =
    is_kind c.args.record (Forms _ forms c.args.first _) Xor c.in-Xor.is
    (c.xor.ensures _ _ _ c.requires (c.row-in-Xor.ensures _ forms h) (c.row-in-Xor-2.ensures _ forms h))

pub returns-in-Signal : goal.returns-in-Signal
unfolding form_of
returns-in-Signal c forms h =
    let d = c.args.record in
    let own = Forms c.args.m forms c.args.first c.parameter.result in
    let is = c.parameter.ensures in
    ⊎_elim (λ q. is_kind d own Signal q is) (⊎_elim (λ q. is_kind d own Next q is)
    (⊎_elim (λ q. is_kind d own Until q is) (kind_past d own is is))) c.in-Signal.is
