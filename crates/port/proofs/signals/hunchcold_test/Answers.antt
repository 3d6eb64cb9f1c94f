-- `signals::hunchcold_test` looks at the list, at the record and for the number, and then tests.
use mathlib.Core.Path.{sym, ◌∙◌}
use Rattle.port.proofs.Testing.{test_list, test_record, test_missing, test_told}
use Rattle.port.proofs.signals.hunchcold_test.Goals as goal

pub returns-then-wrong_signals : goal.returns-then-wrong_signals
returns-then-wrong_signals c =
    test_list _ _ _ _ (sym c.wrong_signals.ensures ∙ c.if-wrong_signals.true) c.refusal_code.ensures

pub returns-then-wrong_record : goal.returns-then-wrong_record
returns-then-wrong_record c =
    test_record _ _ _ _ (sym c.wrong_signals.ensures ∙ c.if-wrong_signals.false)
    (sym c.wrong_record.ensures ∙ c.if-wrong_record.true) c.refusal_code-then-wrong_record.ensures

pub returns-then-count-number : goal.returns-then-count-number
returns-then-count-number c =
    test_missing _ _ _ _ (sym c.wrong_signals.ensures ∙ c.if-wrong_signals.false)
    (sym c.wrong_record.ensures ∙ c.if-wrong_record.false) c.if-count-number.true
    c.refusal_code-then-count-number.ensures

pub returns : goal.returns
returns c =
    test_told _ _ _ _ (sym c.wrong_signals.ensures ∙ c.if-wrong_signals.false)
    (sym c.wrong_record.ensures ∙ c.if-wrong_record.false) _ c.if-count-number.false
    c.test_signal.ensures c.test_code.ensures
