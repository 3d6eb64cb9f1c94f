-- `past::past_row` goes by the kind of the record.
use mathlib.Core.Path.{ap, ◌∙◌}
use Rattle.forms.specs.Form.{constant}
use Rattle.forms.specs.Words.{pack}
use Rattle.meaning.specs.Rule.{holds}
use Rattle.meaning.specs.Rewriting.{past_row}
use Rattle.rewriting.specs.declared.kind.Kind.TheVariants.{Signal, Previous}
use Rattle.rewriting.specs.declared.row.Row.TheVariants.{Past}
use Rattle.rewriting.specs.Decode.{interval_for}
use Rattle.rewriting.specs.inside.Steps.{entry_in, row_by, made_of, now_or, previous_of, earlier_of}
use Rattle.rewriting.proofs.ByKind.{is_kind, kind_quiet, kind_future, kind_since}
use Rattle.rewriting.proofs.Nodes.{Makes}
use Rattle.rewriting.proofs.past.past_row.Goals as goal

pub returns-in-True : goal.returns-in-True
unfolding made_of row_by past_row
returns-in-True c own other forms hm ht hf =
    let step = c.args.step in
    let none = c.constant.ensures _ in
    kind_quiet step.record (Makes Past step own other forms _) none none none none c.in-True.is

pub returns-in-Signal : goal.returns-in-Signal
unfolding made_of row_by past_row holds entry_in
returns-in-Signal c own other forms hm ht hf =
    let step = c.args.step in
    is_kind step.record (Makes Past step own other forms _) Signal c.in-Signal.is
    (c.constant-in-Signal.ensures _ ∙ ap (λ b. pack step.m (constant step.m b)) c.signal.ensures)

pub returns-in-Next : goal.returns-in-Next
unfolding made_of row_by past_row
returns-in-Next c own other forms hm ht hf =
    let step = c.args.step in
    let itself = c.parameter.ensures in
    kind_future step.record (Makes Past step own other forms _) itself itself c.in-Next.is

pub returns-in-Previous : goal.returns-in-Previous
unfolding made_of row_by past_row entry_in previous_of interval_for
returns-in-Previous c own other forms hm ht hf =
    let step = c.args.step in
    is_kind step.record (Makes Past step own other forms _) Previous c.in-Previous.is
    (c.previous_row.ensures forms other own (c.row-left.ensures _ forms hf) hm ht)

pub returns-in-Since : goal.returns-in-Since
unfolding made_of row_by past_row entry_in now_or earlier_of interval_for
returns-in-Since c own other forms hm ht hf =
    let step = c.args.step in
    kind_since step.record (Makes Past step own other forms _)
    (c.now_or.ensures _ _ own (c.row-right.ensures _ forms hf)
    (c.since_earlier-earlier.ensures forms other own (c.row-left-in-Since.ensures _ forms hf) hm ht) hm)
    c.in-Since.is
