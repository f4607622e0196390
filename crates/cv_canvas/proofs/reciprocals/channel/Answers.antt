use Rattle.std.proofs.Common.{arith, ap, ◌∙◌, ◌*◌, ◌/◌}
use Rattle.cv_model.specs.Colours.{covered}
use Rattle.cv_canvas.proofs.ReciprocalLemmas.{by_reciprocal, byte_quotient, product_fits, covered_most}
use Rattle.cv_canvas.proofs.reciprocals.channel.Goals as goal

pub overflow_mul-result : goal.overflow_mul-result
overflow_mul-result c =
    let byte = covered_most c.args.sa c.args.ba (omega arith) (omega arith) in
    let h = product_fits c.doubled.result (covered c.args.sa c.args.ba) c.doubled.ensures.small byte in
    rw (c.from.ensures, c.requires) (omega (arith, h))

pub overflow_cast-result : goal.overflow_cast-result
overflow_cast-result c =
    let byte = covered_most c.args.sa c.args.ba (omega arith) (omega arith) in
    let q = by_reciprocal c.doubled.result (covered c.args.sa c.args.ba) c.doubled.ensures.small byte in
    let h = byte_quotient c.doubled.result (covered c.args.sa c.args.ba) c.doubled.ensures.small in
    rw (c.from.ensures, c.requires) (omega (arith, q, h))

pub returns : goal.returns
returns c =
    let byte = covered_most c.args.sa c.args.ba (omega arith) (omega arith) in
    let q = by_reciprocal c.doubled.result (covered c.args.sa c.args.ba) c.doubled.ensures.small byte in
    rw (c.from.ensures, c.requires) (q ∙ ap (λ n. n / (2 * covered c.args.sa c.args.ba)) c.doubled.ensures.value)
