-- White space, a token that is taken, and one that is refused.
use Rattle.std.proofs.Common.{arith}
use Rattle.std.proofs.lemmas.Result.{err_from_is_err_and}
use Rattle.cv_wkt.specs.Refusals.{geometry_of}
use Rattle.cv_wkt.proofs.ScanLemmas.{IsFront, white_more, token_more, token_refused}
use Rattle.cv_wkt.proofs.PointLemmas.{points_none}
use Rattle.cv_wkt.proofs.text.scan.Goals as goal

pub loop-at-preserved-then-len-eq0 : goal.loop-at-preserved-then-len-eq0
loop-at-preserved-then-len-eq0 c =
    let along = points_none c.args.text.now c.loop-at.at c.in-Ok.next c.loop-at.reader c.take_points.new.self
    c.loop-at.invariant c.in-Ok.ensures c.if-next-at.false in
    white_more c.args.text.now c.rest-rest.result.now c.loop-at.at c.token_len-len.result
    c.take_points.new.self along c.loop-at-test.true c.rest-rest.ensures c.token_len-len.ensures.len
    c.if-len-eq0.true

pub loop-at-preserved : goal.loop-at-preserved
loop-at-preserved c =
    let along = points_none c.args.text.now c.loop-at.at c.in-Ok.next c.loop-at.reader c.take_points.new.self
    c.loop-at.invariant c.in-Ok.ensures c.if-next-at.false in
    let token : IsFront c.args.text.now c.rest-rest.result.now c.front.result.now c.loop-at.at
    c.token_len-len.result c.classify.result = record {
      rest_is = c.rest-rest.ensures;
      len = c.token_len-len.ensures.len;
      some = let some = c.if-len-eq0.false in omega arith;
      fits = c.token_len-len.ensures.within;
      front_is = c.front.ensures;
      kind = c.classify.ensures.kind;
    } in
    token_more c.args.text.now c.rest-rest.result.now c.front.result.now c.loop-at.at c.token_len-len.result
    c.classify.result c.take_points.new.self c.take.new.self along token c.in_ok-take.ensures.ok

pub returns-in_err-take-clause-err : goal.returns-in_err-take-clause-err
unfolding geometry_of
returns-in_err-take-clause-err c =
    let along = points_none c.args.text.now c.loop-at.at c.in-Ok.next c.loop-at.reader c.take_points.new.self
    c.loop-at.invariant c.in-Ok.ensures c.if-next-at.false in
    let token : IsFront c.args.text.now c.rest-rest.result.now c.front.result.now c.loop-at.at
    c.token_len-len.result c.classify.result = record {
      rest_is = c.rest-rest.ensures;
      len = c.token_len-len.ensures.len;
      some = let some = c.if-len-eq0.false in omega arith;
      fits = c.token_len-len.ensures.within;
      front_is = c.front.ensures;
      kind = c.classify.ensures.kind;
    } in
    let passed = err_from_is_err_and c.from_residual.result c.from_residual.ensures.1 in
    rw (passed.1, passed.2)
    (λ other. token_refused c.args.text.now c.rest-rest.result.now c.front.result.now c.loop-at.at
    c.token_len-len.result c.classify.result c.take_points.new.self c.in_err-take.field-0.0 along
    token
    (c.in_err-take.ensures.err other))
