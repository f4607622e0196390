use Rattle.std.proofs.Common.{◌<◌, inl, inr, option_to_list, w64, FitsSigned, rules, arith}
use Rattle.std.proofs.lemmas.Int.{to_z-of_z}
use Rattle.cv_model.specs.Markers.{is_marked}
use Rattle.cv_model.specs.Pictures.{half_side}
use Rattle.cv_model.specs.Views.{centre_of}
use Rattle.cv_geom.proofs.RunLemmas.{adds-row}
use Rattle.cv_pen.proofs.BetweenLemmas.{runs-widen}
use Rattle.cv_pen.proofs.RowLemmas.{adds-before, adds-behind, marked-none, marked-beside}
use Rattle.cv_pen.proofs.outlines.put_marker.Goals as goal

pub loop-row-init : goal.loop-row-init
loop-row-init g c =
    let v = c.args.view.now in
    let fits : FitsSigned w64 c.half_side-r.result = search rules in
    let r_is = to_z-of_z w64 c.half_side-r.result fits in
    record {
      north = c.rows_by-rows.ensures.from;
      order = c.rows_by-rows.ensures.order;
      added =
          adds-before (λ i j. is_marked c.args.shape (half_side v c.args.size) (centre_of v i j) c.args.at) c.args.area
          c.rows_by-rows.result.from c.args.into.now
          (λ i j here less.
          marked-none c.args.shape (half_side v c.args.size) (centre_of v i j) c.args.at (rw c.half_side-r.ensures.value at c.half_side-r.ensures.radius.0)
          (rw (r_is, c.half_side-r.ensures.value) at (c.rows_by-rows.ensures.outside j here.north here.south (inl less))));
      cost = omega (arith, c.rows_by-rows.ensures.from, c.rows_by-rows.ensures.end);
    }

pub loop-row-preserved : goal.loop-row-preserved
loop-row-preserved g c =
    let v = c.args.view.now in
    let area = c.args.area in
    let row = c.loop-row.row in
    let told = c.loop-row.invariant in
    let r = half_side v c.args.size in
    let by = c.columns_by-columns.result in
    let some = rw c.half_side-r.ensures.value at c.half_side-r.ensures.radius.0 in
    let fits : FitsSigned w64 c.half_side-r.result = search rules in
    let r_is = to_z-of_z w64 c.half_side-r.result fits in
    let run = rw (r_is, c.half_side-r.ensures.value) at c.marker_between-run.ensures in
    let outside = rw (r_is, c.half_side-r.ensures.value) at c.columns_by-columns.ensures.outside in
    let less : row < area.rows.end =
    omega (arith, c.loop-row-test.true, c.loop-row.auto.row-end, c.rows_by-rows.ensures.end) in
    record {
      north = omega (arith, told.north);
      order = omega (arith, c.loop-row-test.true);
      added =
          adds-row (λ i j. is_marked c.args.shape r (centre_of v i j) c.args.at) area row
          (option_to_list c.marker_between-run.result) c.args.into.now c.loop-row.into c.put_span.new.self told.north less
          (runs-widen (λ i. is_marked c.args.shape r (centre_of v i row) c.args.at) by.from by.end area.columns.from
          area.columns.end (option_to_list c.marker_between-run.result) c.columns_by-columns.ensures.from
          c.columns_by-columns.ensures.end
          (λ i west east out. marked-beside c.args.shape r (centre_of v i row) c.args.at some (outside i west east out))
          run)
          told.added c.in_ok-put_span.ensures.ok;
      cost = omega (arith, told.cost, c.tick.ensures, c.loop-row-test.true);
    }

pub returns-clause-added : goal.returns-clause-added
returns-clause-added g c =
    let v = c.args.view.now in
    let fits : FitsSigned w64 c.half_side-r.result = search rules in
    let r_is = to_z-of_z w64 c.half_side-r.result fits in
    adds-behind (λ i j. is_marked c.args.shape (half_side v c.args.size) (centre_of v i j) c.args.at) c.args.area c.loop-row.row
    c.args.into.now c.loop-row.into
    (λ i j here behind.
    marked-none c.args.shape (half_side v c.args.size) (centre_of v i j) c.args.at (rw c.half_side-r.ensures.value at c.half_side-r.ensures.radius.0)
    (rw (r_is, c.half_side-r.ensures.value) at
    (c.rows_by-rows.ensures.outside j here.north here.south
    (inr (omega (arith, behind, c.loop-row-test.false, c.loop-row.auto.row-end))))))
    c.loop-row.invariant.added
