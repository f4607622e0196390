use Rattle.std.proofs.Common.{sym, ◌∙◌}
use Rattle.cv_script.proofs.StyleLemmas.{stops_all}
use Rattle.cv_script.proofs.styles.stops.Goals as goal

pub returns-clause-exact : goal.returns-clause-exact
returns-clause-exact c =
    stops_all c.loop-rest.stops c.loop-rest.rest.now c.args.words.now
    (sym c.is_empty.ensures ∙ c.loop-rest-test.false) c.loop-rest.invariant.same
