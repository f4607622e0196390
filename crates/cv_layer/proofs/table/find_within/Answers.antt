use Rattle.std.proofs.Common.{◌∙◌, ◌+◌, ◌-◌, ◌/◌, ◌<◌, ◌≤◌, ap, sym, subst, take, drop, length, arith}
use Rattle.cv_model.specs.declared.feature.Feature.{Feature}
use Rattle.cv_layer.specs.Stretches.{Ascend}
use Rattle.cv_layer.proofs.TableLemmas.{narrowed_first, narrowed_below, narrowed_above, narrowed_end, narrowed_found}
use Rattle.cv_layer.proofs.TableLemmas.{narrowed_none, part_ids, part_at, part_long, IsNarrowed}
use Rattle.cv_layer.proofs.table.find_within.Goals as goal

pub loop-low-init : goal.loop-low-init
loop-low-init c =
    let within : c.args.start + (c.args.end - c.args.start) ≤ length c.args.rows.now =
    omega (arith, c.requires.order, c.requires.within) in
    let part = take (c.args.end - c.args.start) (drop c.args.start c.args.rows.now) in
    subst (λ high. IsNarrowed part c.args.id 0 high) (part_long c.args.rows.now c.args.start (c.args.end - c.args.start) within)
    (narrowed_first part c.args.id)

pub loop-low-preserved-then-id_at-id : goal.loop-low-preserved-then-id_at-id
loop-low-preserved-then-id_at-id c =
    let within : c.args.start + (c.args.end - c.args.start) ≤ length c.args.rows.now =
    omega (arith, c.requires.order, c.requires.within) in
    let fs = c.args.rows.now in
    let start = c.args.start in
    let part = take (c.args.end - c.args.start) (drop start fs) in
    let low = c.loop-low.low in
    let high = c.loop-low.high in
    let was = c.loop-low.invariant in
    let long = part_long fs start (c.args.end - c.args.start) within in
    let up = subst Ascend (sym (part_ids fs start (c.args.end - c.args.start))) c.requires.ascend in
    narrowed_below part c.args.id low high (low + (high - low) / 2) up was (omega (arith, c.loop-low-test.true))
    (λ d. subst (λ (f : Feature). f.id < c.args.id)
    (sym (part_at fs start (c.args.end - c.args.start) (low + (high - low) / 2) d (omega (arith, c.loop-low-test.true, was.within, long))))
    (subst (λ n. n < c.args.id) (c.id_at.ensures d) c.if-id_at-id.true))

pub loop-low-preserved : goal.loop-low-preserved
loop-low-preserved c =
    let within : c.args.start + (c.args.end - c.args.start) ≤ length c.args.rows.now =
    omega (arith, c.requires.order, c.requires.within) in
    let fs = c.args.rows.now in
    let start = c.args.start in
    let part = take (c.args.end - c.args.start) (drop start fs) in
    let low = c.loop-low.low in
    let high = c.loop-low.high in
    let was = c.loop-low.invariant in
    let long = part_long fs start (c.args.end - c.args.start) within in
    let up = subst Ascend (sym (part_ids fs start (c.args.end - c.args.start))) c.requires.ascend in
    narrowed_above part c.args.id low high (low + (high - low) / 2) up was (omega arith)
    (omega (arith, c.loop-low-test.true))
    (λ d. subst (λ (f : Feature). c.args.id ≤ f.id)
    (sym (part_at fs start (c.args.end - c.args.start) (low + (high - low) / 2) d (omega (arith, c.loop-low-test.true, was.within, long))))
    (subst (λ n. c.args.id ≤ n) (c.id_at.ensures d) c.if-id_at-id.false))

pub returns-then-low-count : goal.returns-then-low-count
returns-then-low-count c =
    let within : c.args.start + (c.args.end - c.args.start) ≤ length c.args.rows.now =
    omega (arith, c.requires.order, c.requires.within) in
    let fs = c.args.rows.now in
    let part = take (c.args.end - c.args.start) (drop c.args.start fs) in
    let long = part_long fs c.args.start (c.args.end - c.args.start) within in
    sym (narrowed_end part c.args.id c.loop-low.low c.loop-low.high c.loop-low.invariant
    (omega (arith, c.if-low-count.true, long)))

pub returns-then-id_at-id-2 : goal.returns-then-id_at-id-2
returns-then-id_at-id-2 c =
    let within : c.args.start + (c.args.end - c.args.start) ≤ length c.args.rows.now =
    omega (arith, c.requires.order, c.requires.within) in
    let fs = c.args.rows.now in
    let start = c.args.start in
    let count = (c.args.end - c.args.start) in
    let part = take count (drop start fs) in
    let low = c.loop-low.low in
    let was = c.loop-low.invariant in
    let long = part_long fs start count within in
    let met : low < count = omega (arith, c.if-low-count.false, was.order, was.within, long) in
    sym (narrowed_found part c.args.id low c.loop-low.high was (omega (arith, met, long))
    (λ d. ap (λ (f : Feature). f.id) (part_at fs start count low d met)
    ∙ sym (c.id_at-2.ensures d) ∙ c.if-id_at-id-2.true))

pub returns-else-id_at-id-2 : goal.returns-else-id_at-id-2
returns-else-id_at-id-2 c =
    let within : c.args.start + (c.args.end - c.args.start) ≤ length c.args.rows.now =
    omega (arith, c.requires.order, c.requires.within) in
    let fs = c.args.rows.now in
    let start = c.args.start in
    let count = (c.args.end - c.args.start) in
    let part = take count (drop start fs) in
    let low = c.loop-low.low in
    let was = c.loop-low.invariant in
    let long = part_long fs start count within in
    let met : low < count = omega (arith, c.if-low-count.false, was.order, was.within, long) in
    let up = subst Ascend (sym (part_ids fs start count)) c.requires.ascend in
    sym (narrowed_none part c.args.id low c.loop-low.high up was c.loop-low-test.false
    (λ d l e. c.if-id_at-id-2.false (c.id_at-2.ensures d
    ∙ ap (λ (f : Feature). f.id) (sym (part_at fs start count low d met)) ∙ e)))

pub overflow_add-start : goal.overflow_add-start
overflow_add-start c =
    let long = part_long c.args.rows.now c.args.start (c.args.end - c.args.start) (omega (arith, c.requires.order, c.requires.within)) in
    omega (arith, c.loop-low-test.true, c.loop-low.invariant.within, long, c.ranges.end.fits, c.requires.order)

pub overflow_add-start-2 : goal.overflow_add-start-2
overflow_add-start-2 c =
    let long = part_long c.args.rows.now c.args.start (c.args.end - c.args.start) (omega (arith, c.requires.order, c.requires.within)) in
    omega (arith, c.loop-low.invariant.order, c.loop-low.invariant.within, long, c.ranges.end.fits, c.requires.order)
