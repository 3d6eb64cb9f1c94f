-- `bytes::little` meets its contract: one byte more each turn, and zero past the end. Assumes nothing.
use Rattle.std.proofs.Common.{arith, refl, sym, ◌≤◌}
use Rattle.std.proofs.Math.Nat.{sub_self}
use Rattle.ground.specs.Bytes.{little}
use Rattle.ground.proofs.ByteLaws.{little_past, little_more}
use Rattle.ground.proofs.bytes.little.Goals as goal

pub returns-then-bytes-at : goal.returns-then-bytes-at
returns-then-bytes-at g c = sym (little_past c.args.bytes.now c.args.at _ c.if-bytes-at.true)

pub loop-k-init : goal.loop-k-init
unfolding little
loop-k-init g c = rw (sub_self c.min-count.result) refl

pub overflow_mul-number : goal.overflow_mul-number
overflow_mul-number g c =
    let few : c.min-count.result ≤ 8 = omega (arith, c.min-count.ensures) in
    let m = little_more _ c.args.at _ _ (λ i. (c.type_inv.bytes i).fits) few c.loop-k-test.true c.loop-k.auto.k in
    omega (arith, m.0, m.1)

pub overflow_add-number : goal.overflow_add-number
overflow_add-number g c =
    let few : c.min-count.result ≤ 8 = omega (arith, c.min-count.ensures) in
    let m = little_more _ c.args.at _ _ (λ i. (c.type_inv.bytes i).fits) few c.loop-k-test.true c.loop-k.auto.k in
    omega (arith, m.0, m.1)

pub loop-k-preserved : goal.loop-k-preserved
loop-k-preserved g c =
    let few : c.min-count.result ≤ 8 = omega (arith, c.min-count.ensures) in
    let m = little_more _ c.args.at _ _ (λ i. (c.type_inv.bytes i).fits) few c.loop-k-test.true c.loop-k.auto.k in
    grind (arith, m.0)
