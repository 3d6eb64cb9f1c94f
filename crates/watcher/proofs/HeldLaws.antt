-- What a state's lists hold, and what holds of them where start would not refuse them.
-- Assumes nothing.
use Rattle.std.proofs.Common.{Ok, Err, is_err}
use mathlib.Core.Path.{◌≡◌, refl, sym, ap₂, ◌∙◌, subst}
use mathlib.Core.Bool.{false, false≢true}
use mathlib.Core.List.{◌++◌}
use Prim.Native.Nat.{ℕ, ◌*◌, ◌≤◌, ◌<◌}
use native.Mathlib.Nat.{le_refl}
use native.Mathlib.Omega.{arith}
use borrow.Author.Tests.{ltb-false}
use lib.Dec.{ltb}
use lib.ListN.{length, drop, take-append-drop}
use lib.Seq.{length-take-le}
use Rattle.meaning.specs.Rule.{Ordered, parameters}
use Rattle.rewriting.specs.Decode.{record_bytes, byte_of, rule_in}
use Rattle.watcher.specs.declared.state.Watcher.{Watcher}
use Rattle.watcher.specs.Answers.{Found}
use Rattle.watcher.specs.Limits.{most_records, most_signals, most_parameters, list_bytes}
use Rattle.watcher.specs.Rules.{records_of}
use Rattle.watcher.specs.State.{rule_of, parameters_of, rule_bytes, list_bytes_of}
use Rattle.watcher.specs.State.{start_refuses}
use Rattle.watcher.proofs.Decoded.{Accepted, fine_tests, neither, length_fine}
use Rattle.watcher.proofs.Decoded.{record_fine, byte_before}
use Rattle.watcher.proofs.Decoded.{rule_in_before, accepted_laid, accepted_ordered, accepted_few}

-- what is not refused is accepted
not_refused : (f : Found) → is_err f ≡ false → f ≡ Ok tt
not_refused (Ok tt) e = refl
not_refused (Err r) e = absurd (false≢true (sym e))

module _ (w : Watcher) (fine : start_refuses w ≡ false) where
  lists_held : (w.records ≤ most_records) × (w.signals ≤ most_signals) × Accepted (rule_bytes w) (list_bytes_of w)
  unfolding start_refuses
  lists_held =
      let a = neither (ltb most_records w.records) _ fine in
      let b = neither (ltb most_signals w.signals) _ a.1 in (
        ltb-false most_records w.records a.0,
        ltb-false most_signals w.signals b.0,
        fine_tests (rule_bytes w) (list_bytes_of w) (not_refused _ b.1),
      )

  -- it has at most 16 records and at most 16 signals
  pub held_most : w.records ≤ most_records
  held_most = lists_held.0

  pub held_listed : w.signals ≤ most_signals
  held_listed = lists_held.1

  module _ (long : length w.rule ≡ list_bytes) where
    -- its rule is that of the bytes without what stands behind
    records_held : records_of (rule_bytes w) ≡ w.records
    unfolding rule_bytes records_of
    records_held =
        let e = length-take-le (record_bytes * w.records) w.rule (omega (arith, held_most)) in omega (arith, e)

    whole : rule_bytes w ++ drop (record_bytes * w.records) w.rule ≡ w.rule
    unfolding rule_bytes
    whole = take-append-drop (record_bytes * w.records) w.rule

    rule_held : rule_in (rule_bytes w) (records_of (rule_bytes w)) ≡ rule_of w
    unfolding rule_of
    rule_held =
        sym (rule_in_before (rule_bytes w) (drop (record_bytes * w.records) w.rule) _ (le_refl _))
        ∙ ap₂ rule_in whole records_held

    -- it has a record, each with a kind, in order, with at most 12 parameters and signals that the list defines
    pub held_some : 0 < w.records
    held_some = subst (λ n. 0 < n) records_held (length_fine (rule_bytes w) lists_held.2.long).some

    pub held_kinds : (k : ℕ) → k < w.records → 1 ≤ byte_of w.rule k 0
    held_kinds k h =
        let l : k < records_of (rule_bytes w) = omega (arith, records_held) in
        subst (λ list. 1 ≤ byte_of list k 0) whole
        (subst (λ b. 1 ≤ b) (sym (byte_before (rule_bytes w) _ k 0 l (omega arith)))
        (record_fine (rule_bytes w) k (accepted_laid (rule_bytes w) (list_bytes_of w) lists_held.2 k l)).low)

    pub held_ordered : Ordered (rule_of w)
    held_ordered = subst Ordered rule_held (accepted_ordered (rule_bytes w) (list_bytes_of w) lists_held.2)

    pub held_few : parameters_of w ≤ most_parameters
    unfolding parameters_of
    held_few =
        subst (λ rule. parameters rule ≤ most_parameters) rule_held
        (accepted_few (rule_bytes w) (list_bytes_of w) lists_held.2)
