use Rattle.std.proofs.Common.{refl}
use Rattle.std.specs.List.{flat_map}
use Rattle.cv_model.specs.Polygons.{edges, crossings, is_inside}
use Rattle.cv_model.specs.Views.{centre_of}
use Rattle.cv_scan.proofs.HeldLemmas.{marks-inside}
use Rattle.cv_scan.proofs.fills.put_crossed.Goals as goal

pub returns-clause-added : goal.returns-clause-added
returns-clause-added g c =
    let v = c.args.view.now in
    marks-inside (λ i j. is_inside (centre_of v i j) c.args.polygon.now)
    (λ i j. crossings (centre_of v i j) (flat_map edges c.args.polygon.now)) c.args.area c.begin.new.scratch
    c.put_marks.new.scratch c.args.into.now c.put_runs.new.into (λ i j. refl) c.in_ok-begin.ensures.none
    c.in_ok-put_marks.ensures.marked c.in_ok-put_runs.ensures
