-- `layout::write_state` puts field after field in.
use Rattle.std.proofs.Common.{rules, arith, sym, ap, ◌∙◌}
use Rattle.port.specs.Layout.{number_byte, phase_number}
use Rattle.port.specs.Layout.{records_place, signals_place, time_place, word_place, phase_place, zero_place}
use Rattle.port.proofs.Layouts.{number_records, number_signals, number_time, number_word, number_phase, number_zero}
use Rattle.port.proofs.Layouts.{byte_number, begun, put_rule, put_list, put_number, put_byte, finished}
use Rattle.port.proofs.layout.write_state.Goals as goal

pub returns : goal.returns
returns c =
    let w = c.args.state in
    let rule = put_rule w _ _ (begun w _ c.requires) (search rules) c.copy_from_slice.ensures.after in
    let list = put_list w _ _ rule (search rules) c.copy_from_slice-2.ensures.after in
    let records =
    put_number w _ w.records 8 _ _ records_place (omega arith) (omega arith) list c.copy_from_slice-3.ensures.after
    c.to_le_bytes.ensures (λ i a h. number_records _ _ _ _ i h) in
    let signals =
    put_number w _ w.signals 8 _ _ signals_place (omega arith) (omega arith) records c.copy_from_slice-4.ensures.after
    c.to_le_bytes-2.ensures (λ i a h. number_signals _ _ _ _ i a h) in
    let last = c.last-last.ensures in
    let time =
    put_number w _ c.last-last.result.time 4 _ _ time_place (omega arith) (omega arith) signals
    c.copy_from_slice-5.ensures.after c.to_le_bytes-3.ensures
    (λ i a h. number_time _ _ _ _ i a h ∙ ap (λ e. number_byte w.records w.signals e (phase_number w.phase) i) last) in
    let word =
    put_number w _ c.last-last.result.signals 2 _ _ word_place (omega arith) (omega arith) time
    c.copy_from_slice-6.ensures.after c.to_le_bytes-4.ensures
    (λ i a h. number_word _ _ _ _ i a h ∙ ap (λ e. number_byte w.records w.signals e (phase_number w.phase) i) last) in
    let phase =
    put_byte w _ _ phase_place (omega arith) word
    (c.phase_number.ensures ∙ number_phase _ _ _ _ phase_place (omega arith) (omega arith)
    ∙ byte_number w phase_place (omega arith)) in
    finished w _
    (put_byte w _ 0 zero_place (omega arith) phase
    (number_zero _ _ _ _ zero_place (omega arith) ∙ byte_number w zero_place (omega arith)))
