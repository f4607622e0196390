-- White space, a token that is taken, one that is refused, and one that is the header's no more.
use Rattle.std.proofs.Common.{Ok, ap, sym, ◌∙◌, arith}
use Rattle.cv_grid.proofs.HeaderLemmas.{IsToken, header_white, header_taken, header_refused, header_done}
use Rattle.cv_grid.proofs.header.read_header.Goals as goal

pub loop-at-preserved-then-len-eq0 : goal.loop-at-preserved-then-len-eq0
loop-at-preserved-then-len-eq0 c =
    header_white c.args.text.now c.rest-rest.result.now c.loop-at.at c.token_len-len.result
    c.loop-at.reading c.loop-at.invariant c.loop-at-test.true c.rest-rest.ensures
    c.token_len-len.ensures.len c.if-len-eq0.true

pub returns-in-Err-clause-err : goal.returns-in-Err-clause-err
returns-in-Err-clause-err c =
    let token : IsToken c.args.text.now c.rest-rest.result.now c.front.result.now c.loop-at.at
    c.token_len-len.result = record {
      inside = c.loop-at-test.true;
      rest_is = c.rest-rest.ensures;
      len = c.token_len-len.ensures.len;
      some = let some = c.if-len-eq0.false in omega arith;
      fits = c.token_len-len.ensures.within;
      front_is = c.front.ensures;
    } in
    header_refused c.args.text.now c.rest-rest.result.now c.front.result.now c.loop-at.at
    c.token_len-len.result c.loop-at.reading c.in-Err.refusal c.loop-at.invariant token c.in-Err.ensures.value

pub returns-in-None-clause-ok : goal.returns-in-None-clause-ok
returns-in-None-clause-ok c =
    let token : IsToken c.args.text.now c.rest-rest.result.now c.front.result.now c.loop-at.at
    c.token_len-len.result = record {
      inside = c.loop-at-test.true;
      rest_is = c.rest-rest.ensures;
      len = c.token_len-len.ensures.len;
      some = let some = c.if-len-eq0.false in omega arith;
      fits = c.token_len-len.ensures.within;
      front_is = c.front.ensures;
    } in
    header_done c.args.text.now c.rest-rest.result.now c.front.result.now c.loop-at.at
    c.token_len-len.result c.loop-at.reading c.loop-at.invariant token
    (sym (ap Ok c.in-None.is) ∙ c.in-Ok.ensures.value)

pub loop-at-preserved : goal.loop-at-preserved
loop-at-preserved c =
    let token : IsToken c.args.text.now c.rest-rest.result.now c.front.result.now c.loop-at.at
    c.token_len-len.result = record {
      inside = c.loop-at-test.true;
      rest_is = c.rest-rest.ensures;
      len = c.token_len-len.ensures.len;
      some = let some = c.if-len-eq0.false in omega arith;
      fits = c.token_len-len.ensures.within;
      front_is = c.front.ensures;
    } in
    let range = rw c.in-Some.is at c.in-Ok.ensures.range in
    header_taken c.args.text.now c.rest-rest.result.now c.front.result.now c.loop-at.at
    c.token_len-len.result c.loop-at.reading c.in-Some.further c.loop-at.invariant token
    (sym (ap Ok c.in-Some.is) ∙ c.in-Ok.ensures.value) range
