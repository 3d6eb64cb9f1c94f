-- `put_terms` goes by halves: no term gives zeros, one bit gives ones, and two halves are joined at their parameter.
use Rattle.std.proofs.Common.{arith, sym, ap, ◌+◌, ◌-◌, ◌*◌, ◌%◌, ◌^◌}
use Rattle.ground.proofs.Bits.{one_shl}
use Rattle.forms.proofs.Scanning.{seen, unseen, first_alone}
use Rattle.forms.proofs.Putting.{put_none, put_one, put_more, halves_fit}
use Rattle.forms.proofs.table.+put_terms.Goals as goal

pub returns-then-is_none : goal.returns-then-is_none
returns-then-is_none t c =
    put_none _ _ c.args.p c.args.k
    (λ i h l.
    unseen _ _ _ _ (sym c.if-is_none.ensures) c.next_term.ensures i h
    (omega (arith, one_shl c.args.p (omega arith))))

pub returns-then-p-eq0 : goal.returns-then-p-eq0
returns-then-p-eq0 t c =
    let term = seen _ _ _ _ (sym c.if-is_none.ensures) c.next_term.ensures in
    put_one _ _ c.args.p c.args.k c.if-p-eq0.true
    (first_alone _ _ _ _ term.1 (ap (λ x. c.args.k + (1 * 2 ^ x) % 2 ^ 64) c.if-p-eq0.true))

pub put_terms-a-requires : goal.put_terms-a-requires
put_terms-a-requires t c =
    let fit = halves_fit _ _ _ c.if-p-eq0.false (one_shl (c.args.p - 1) (omega arith)) c.requires.1 in
    (omega arith, (omega arith, fit.0))

pub put_terms-b-requires : goal.put_terms-b-requires
put_terms-b-requires t c =
    let fit = halves_fit _ _ _ c.if-p-eq0.false (one_shl (c.args.p - 1) (omega arith)) c.requires.1 in
    (omega arith, (omega arith, fit.1))

pub returns : goal.returns
returns t c =
    put_more _ _ c.args.p c.args.k _ _ _ _ c.if-p-eq0.false
    (one_shl (c.args.p - 1) (omega arith))
    c.put_terms-a.ensures c.put_terms-b.ensures c.mix.ensures
