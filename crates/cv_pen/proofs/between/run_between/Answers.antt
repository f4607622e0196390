use Rattle.std.proofs.Common.{arith}
use Rattle.cv_geom.proofs.FallLemmas.{falls-found}
use Rattle.cv_pen.proofs.BetweenLemmas.{run-some, run-none}
use Rattle.cv_pen.proofs.between.run_between.Goals as goal

pub returns-then-from-end : goal.returns-then-from-end
returns-then-from-end g c = λ p q before reached falls_p falls_q.
    let columns = c.args.columns in
    let left = c.search-from.result in
    let low = c.search-from.ensures.from in
    let high = c.search-from.ensures.end in
    let at_left = falls-found p columns.from columns.end left c.requires.order falls_p
    (λ t at. c.search-from.ensures.found p t (λ k r from below call. before k r from below call) at) in
    let at_right = falls-found q left columns.end c.search-end.result high
    (λ i k from order below held. falls_q i k (omega arith) order below held)
    (λ t at. c.search-end.ensures.found q t (λ k r from below call. reached k r (omega arith) below call) at) in
    run-some p q columns.from columns.end left c.search-end.result at_left at_right c.if-from-end.true

pub returns-else-from-end : goal.returns-else-from-end
returns-else-from-end g c = λ p q before reached falls_p falls_q.
    let columns = c.args.columns in
    let left = c.search-from.result in
    let low = c.search-from.ensures.from in
    let high = c.search-from.ensures.end in
    let at_left = falls-found p columns.from columns.end left c.requires.order falls_p
    (λ t at. c.search-from.ensures.found p t (λ k r from below call. before k r from below call) at) in
    let at_right = falls-found q left columns.end c.search-end.result high
    (λ i k from order below held. falls_q i k (omega arith) order below held)
    (λ t at. c.search-end.ensures.found q t (λ k r from below call. reached k r (omega arith) below call) at) in
    run-none p q columns.from columns.end left c.search-end.result at_left at_right c.if-from-end.false
