-- `derived::derived_row` goes by the kind of the record.
use mathlib.Core.Path.{ap, ◌∙◌}
use Rattle.forms.specs.Form.{constant}
use Rattle.forms.specs.Words.{pack}
use Rattle.meaning.specs.Rule.{holds}
use Rattle.meaning.specs.Rewriting.{put, derived_row}
use Rattle.rewriting.specs.declared.kind.Kind.TheVariants.{Signal, Next, Until}
use Rattle.rewriting.specs.declared.row.Row.TheVariants.{Derived}
use Rattle.rewriting.specs.Decode.{interval_for}
use Rattle.rewriting.specs.inside.Steps.{entry_in, row_by, made_of, now_or, later_of}
use Rattle.rewriting.proofs.ByKind.{is_kind, kind_quiet, kind_past}
use Rattle.rewriting.proofs.Nodes.{Makes}
use Rattle.rewriting.proofs.derived.derived_row.Goals as goal

pub returns-in-True : goal.returns-in-True
unfolding made_of row_by derived_row
returns-in-True c own other forms hm ht hf =
    let step = c.args.step in
    let none = c.constant.ensures _ in
    kind_quiet step.record (Makes Derived step own other forms _) none none none none c.in-True.is

pub returns-in-Signal : goal.returns-in-Signal
unfolding made_of row_by derived_row holds entry_in
returns-in-Signal c own other forms hm ht hf =
    let step = c.args.step in
    is_kind step.record (Makes Derived step own other forms _) Signal c.in-Signal.is
    (c.constant-in-Signal.ensures _ ∙ ap (λ b. pack step.m (constant step.m b)) c.signal.ensures)

pub returns-in-Next : goal.returns-in-Next
unfolding made_of row_by derived_row entry_in interval_for
returns-in-Next c own other forms hm ht hf =
    let step = c.args.step in
    is_kind step.record (Makes Derived step own other forms _) Next c.in-Next.is (c.next_row.ensures _ forms hf)

pub returns-in-Until : goal.returns-in-Until
unfolding made_of row_by derived_row entry_in now_or later_of interval_for
returns-in-Until c own other forms hm ht hf =
    let step = c.args.step in
    is_kind step.record (Makes Derived step own other forms _) Until c.in-Until.is
    (c.now_or.ensures _ _ own (c.row-right.ensures _ forms hf)
    (c.until_later-later.ensures forms own (c.row-left.ensures _ forms hf) hm) hm)

pub returns-in-Previous : goal.returns-in-Previous
unfolding made_of row_by derived_row put
returns-in-Previous c own other forms hm ht hf =
    let step = c.args.step in
    let found = c.put_in.ensures _ _ own c.args.step.few (c.row-row.ensures _ other ht) hm in
    kind_past step.record (Makes Derived step own other forms _) found found c.in-Previous.is
