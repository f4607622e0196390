use Rattle.std.proofs.Common.{◌∙◌, ap}
use Rattle.std.specs.Result.{result_ok}
use Rattle.cv_top.proofs.WordLemmas.{parsed}
use Rattle.cv_top.proofs.words.count.Goals as goal

pub returns-clause-only : goal.returns-clause-only
returns-clause-only c = λ n h.
    c.ok.ensures.value ∙ ap result_ok (parsed c.args.word.now n c.parse.result c.parse.ensures.value.0 h)
