use Rattle.std.proofs.Common.{◌∙◌, sym}
use Rattle.cv_scan.proofs.fills.runs_have_the_spans.Goals as goal

pub returns : goal.returns
returns c = λ test area runs j spans told found i here.
    told.covered i j here ∙ sym (found.covered i here.west here.east)
