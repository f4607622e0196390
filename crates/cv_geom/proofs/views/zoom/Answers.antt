use Rattle.std.proofs.Common.{rules, pos}
use Rattle.cv_geom.specs.Views.{scaled_side, resized}
use Rattle.cv_geom.proofs.CauseLemmas.{kept_cause}
use Rattle.cv_geom.proofs.views.zoom.Goals as goal

pub returns-clause-answer : goal.returns-clause-answer
returns-clause-answer c = search rules

pub returns-clause-range : goal.returns-clause-range
returns-clause-range c =
    let v = c.args.view.now in
    rw (returns-clause-answer c) (kept_cause (resized v (pos (scaled_side v.u c.args.num c.args.den))))
