-- A run in which the place is, and one in which it isn't.
use Rattle.std.proofs.Common.{sym, ◌+◌}
use Rattle.cv_layer.proofs.PlaceLemmas.{passed_run, found_run, among_found}
use Rattle.cv_layer.proofs.places.find.Goals as goal

pub loop-from-preserved : goal.loop-from-preserved
loop-from-preserved c =
    passed_run c.args.at c.args.places.now c.loop-from.from c.run_from-run.result.now c.run_from-run.ensures
    c.loop-from.invariant (sym c.in-None.ensures)

pub returns-in-Some-clause-some : goal.returns-in-Some-clause-some
returns-in-Some-clause-some c =
    sym (among_found c.args.at c.args.places.now (c.loop-from.from + c.in-Some.k)
    (found_run c.args.at c.args.places.now c.loop-from.from c.run_from-run.result.now c.in-Some.k
    c.run_from-run.ensures (sym c.in-Some.ensures)))

pub returns-in-Some-clause-there : goal.returns-in-Some-clause-there
returns-in-Some-clause-there c =
    found_run c.args.at c.args.places.now c.loop-from.from c.run_from-run.result.now c.in-Some.k
    c.run_from-run.ensures (sym c.in-Some.ensures)
