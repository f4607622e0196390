use Rattle.std.proofs.Common.{◌∙◌, sym}
use Rattle.cv_tables.proofs.TableLemmas.{cancel_on, cancel_smaller, cancel_none}
use Rattle.cv_tables.proofs.jobs.JobTable.cancel_before.Goals as goal

pub loop-at-smaller : goal.loop-at-smaller
loop-at-smaller c =
    cancel_smaller c.args.canvas c.loop-at.self c.end_at.new.self c.in-Some.at c.in-Some.ensures.1 c.end_at.ensures

pub loop-at-preserved : goal.loop-at-preserved
loop-at-preserved c =
    cancel_on c.args.canvas c.args.count c.loop-at.self c.end_at.new.self c.in-Some.at c.in-Some.ensures.0 c.in-Some.ensures.1
    c.end_at.ensures ∙ c.loop-at.invariant

pub returns : goal.returns
returns c = sym (cancel_none c.args.canvas c.args.count c.loop-at.self c.in_default.ensures) ∙ c.loop-at.invariant
