use Rattle.std.proofs.Common.{rules, ◌≡◌, ◌∙◌, sym, None}
use Rattle.cv_cache.proofs.HeldLemmas.{taken_out, none_left}
use Rattle.cv_cache.proofs.held.drop_dependents.Goals as goal

pub loop-id-smaller : goal.loop-id-smaller
loop-id-smaller c =
    let out = taken_out c.args.layer c.in-Some.id c.loop-id.images c.take_out.new.images c.in-Some.ensures.apart (sym c.in-Some.ensures.found) c.take_out.ensures in
    out.1

pub loop-id-preserved : goal.loop-id-preserved
loop-id-preserved c =
    let out = taken_out c.args.layer c.in-Some.id c.loop-id.images c.take_out.new.images c.in-Some.ensures.apart (sym c.in-Some.ensures.found) c.take_out.ensures in
    (out.0 ∙ c.loop-id.invariant.0, λ keyed. out.2 (c.loop-id.invariant.1 keyed), out.3 ∙ c.loop-id.invariant.2)

pub returns-clause-values : goal.returns-clause-values
returns-clause-values c =
    let none : c.first_dependent.result ≡ None = search rules in
    none_left c.args.layer c.loop-id.images.entries (sym c.first_dependent.ensures.found ∙ none) ∙ c.loop-id.invariant.0
