-- `names_missing_at` looks at the record's kind, and then at its signal.
use mathlib.Core.Path.{sym, ap, ◌∙◌}
use lib.Dec.{leb}
use Rattle.rewriting.specs.Decode.{kind_number}
use Rattle.rewriting.proofs.Rules.{record_kind, record_left}
use Rattle.watcher.proofs.Checking.{no_signal}
use Rattle.watcher.proofs.RecordLaws.{names_none, names_one}
use Rattle.watcher.proofs.signals.names_missing_at.Goals as goal

pub returns-in-Signal : goal.returns-in-Signal
unfolding kind_number
returns-in-Signal c =
    let a = c.args in
    let is = c.record_at-record.ensures in
    ap (leb a.signals) (record_left a.rule.now a.k _ is)
    ∙ names_one a.rule.now a.k a.signals
    (sym (record_kind a.rule.now a.k _ is) ∙ ap kind_number c.in-Signal.is)

pub returns-in_default : goal.returns-in_default
returns-in_default c =
    let a = c.args in
    names_none a.rule.now a.k a.signals
    (λ e. no_signal _ c.in_default.not-Signal (record_kind a.rule.now a.k _ c.record_at-record.ensures ∙ e))
