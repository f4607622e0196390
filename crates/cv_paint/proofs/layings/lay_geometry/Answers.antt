use Rattle.cv_paint.proofs.LayingLemmas.{lays_both}
use Rattle.cv_model.specs.Pictures.{strokes_of}
use Rattle.std.proofs.Common.{arith}
use Rattle.cv_paint.proofs.CostLemmas.{geometry_paid}
use Rattle.cv_paint.proofs.layings.lay_geometry.Goals as goal

pub returns-clause-laid : goal.returns-clause-laid
unfolding strokes_of
returns-clause-laid g c =
    lays_both c.args.view.now _ _ _ _ _ c.in_ok-lay_fill.ensures.laid
    (lays_both c.args.view.now _ _ _ _ _ c.in_ok-lay_pen.ensures.laid c.in_ok-lay_marker.ensures.laid)

pub returns-in_err-lay_fill-clause-cost : goal.returns-in_err-lay_fill-clause-cost
returns-in_err-lay_fill-clause-cost g c =
    omega (arith, geometry_paid c.args.view.now c.args.geometry.now, c.lay_fill.ensures.cost)

pub returns-in_err-lay_pen-clause-cost : goal.returns-in_err-lay_pen-clause-cost
returns-in_err-lay_pen-clause-cost g c =
    omega (arith, geometry_paid c.args.view.now c.args.geometry.now, c.lay_fill.ensures.cost, c.lay_pen.ensures.cost)

pub returns-in_err-lay_marker-clause-cost : goal.returns-in_err-lay_marker-clause-cost
returns-in_err-lay_marker-clause-cost g c =
    omega (
      arith,
      geometry_paid c.args.view.now c.args.geometry.now,
      c.lay_fill.ensures.cost,
      c.lay_pen.ensures.cost,
      c.lay_marker.ensures.cost,
    )

pub returns-clause-cost : goal.returns-clause-cost
returns-clause-cost g c =
    omega (
      arith,
      geometry_paid c.args.view.now c.args.geometry.now,
      c.lay_fill.ensures.cost,
      c.lay_pen.ensures.cost,
      c.lay_marker.ensures.cost,
    )
