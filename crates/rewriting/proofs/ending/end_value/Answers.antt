-- `ending::end_value` goes by the kind of the record.
use mathlib.Core.Path.{◌≡◌, refl}
use mathlib.Core.Logic.{⊎_elim}
use mathlib.Core.Bool.{false}
use Rattle.meaning.specs.Rule.{Node, holds}
use Rattle.meaning.proofs.Ending.{end_value}
use Rattle.rewriting.specs.declared.kind.Kind.TheVariants.{True, False, Signal, And, Xor, Next, Until}
use Rattle.rewriting.specs.Decode.{interval_for}
use Rattle.rewriting.specs.inside.Steps.{entry_in}
use Rattle.rewriting.proofs.ByKind.{is_kind, kind_past}
use Rattle.rewriting.proofs.Endings.{end_is, end_of}
use Rattle.rewriting.proofs.ending.end_value.Goals as goal

pub returns-in-True : goal.returns-in-True
unfolding end_value
returns-in-True c past forms derived alone hp hf hs =
    let step = c.args.step in
    let d = step.record in
    let P = λ (x : Node). false ≡ end_of step past forms derived alone c.args.setting hs false x in
    end_is step past forms derived alone c.args.setting hs _
    (⊎_elim (λ q. is_kind d P True q refl) (⊎_elim (λ q. is_kind d P False q refl)
    (⊎_elim (λ q. is_kind d P And q refl) (⊎_elim (λ q. is_kind d P Xor q refl) (λ q. is_kind d P Next q refl))))
    c.in-True.is)

pub returns-in-Signal : goal.returns-in-Signal
unfolding end_value holds entry_in
returns-in-Signal c past forms derived alone hp hf hs =
    let step = c.args.step in
    let b = c.signal.result in
    end_is step past forms derived alone c.args.setting hs b
    (is_kind step.record (λ x. b ≡ end_of step past forms derived alone c.args.setting hs b x)
    Signal c.in-Signal.is c.signal.ensures)

pub returns-in-Previous : goal.returns-in-Previous
unfolding end_value
returns-in-Previous c past forms derived alone hp hf hs =
    let step = c.args.step in
    let found = c.value-in-Previous.ensures _ _ c.args.step.few (c.row-in-Previous.ensures _ past hp) in
    let b = c.value-in-Previous.result in
    end_is step past forms derived alone c.args.setting hs b
    (kind_past step.record (λ x. b ≡ end_of step past forms derived alone c.args.setting hs b x) found found
    c.in-Previous.is)

pub returns-then-sees_itself : goal.returns-then-sees_itself
unfolding end_value entry_in interval_for
returns-then-sees_itself c past forms derived alone hp hf hs =
    let step = c.args.step in
    let b = c.value.result in
    end_is step past forms derived alone c.args.setting hs b
    (is_kind step.record (λ x. b ≡ end_of step past forms derived alone c.args.setting hs b x) Until c.in-Until.is
    (rw (← c.sees_itself.ensures, c.if-sees_itself.true)
    (c.value.ensures _ _ c.args.step.few (c.row.ensures _ forms hf))))

pub returns-else-sees_itself : goal.returns-else-sees_itself
unfolding end_value entry_in interval_for
returns-else-sees_itself c past forms derived alone hp hf hs =
    let step = c.args.step in
    let b = c.sees_itself.result in
    end_is step past forms derived alone c.args.setting hs b
    (is_kind step.record (λ x. b ≡ end_of step past forms derived alone c.args.setting hs b x) Until c.in-Until.is
    (rw (← c.sees_itself.ensures, c.if-sees_itself.false)))
