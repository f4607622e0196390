use Rattle.std.proofs.Common.{refl, ap, ◌∙◌, ◌+◌, slice_get}
use Rattle.std.proofs.lemmas.List.{drop_all}
use Rattle.cv_session.specs.Seats.{now}
use Rattle.cv_session.proofs.MoveLemmas.{stay_put}
use Rattle.cv_session.proofs.RunLemmas.{item_at, first_size, shows_next, shows_all}
use Rattle.cv_session.specs.Plays.{Opens}
use Rattle.cv_session.proofs.seat.Session.first_views.Goals as goal

pub loop-view-init : goal.loop-view-init
loop-view-init c = record {
  at = refl;
  few = c.requires.few;
  sizes = c.requires.sizes;
  moves = λ cs. stay_put (Opens 0 c.args.views.now) cs c.args.self.now;
}

pub show_first-requires : goal.show_first-requires
show_first-requires c =
    let at = item_at c.args.views.now c.loop-view.view-index c.view-item.result c.loop-view-test.true c.view-item.is in
    first_size (now c.loop-view.self) c.args.views.now c.loop-view.canvas c.view-item.result c.loop-view.invariant.sizes
    (ap (slice_get c.args.views.now) c.loop-view.invariant.at ∙ at.1)

pub loop-view-preserved : goal.loop-view-preserved
loop-view-preserved c =
    let at = item_at c.args.views.now c.loop-view.view-index c.view-item.result c.loop-view-test.true c.view-item.is in
    record {
      at = ap (λ n. n + 1) c.loop-view.invariant.at;
      few = c.requires.few;
      sizes = λ canvas view h. c.in_ok-show_first.ensures.sizes canvas view (c.loop-view.invariant.sizes canvas view h);
      moves = shows_next c.args.views.now c.args.self.now c.loop-view.self c.show_first.new.self c.loop-view.view-index c.loop-view.canvas c.view-item.result
          c.loop-view.invariant.at at.0 c.loop-view.invariant.moves c.in_ok-show_first.ensures.shows;
    }

pub returns : goal.returns
returns c = shows_all c.args.views.now c.args.self.now c.loop-view.self c.loop-view.view-index (drop_all c.loop-view.view-index c.args.views.now c.loop-view-test.false) c.loop-view.invariant.moves
