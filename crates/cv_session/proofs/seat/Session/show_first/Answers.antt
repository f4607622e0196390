use Rattle.std.proofs.Common.{sym, subst, OnOk}
use Rattle.cv_event.specs.declared.entry.Act.TheVariants as act
use Rattle.cv_session.specs.Runs.{ShowsFirst}
use Rattle.cv_session.proofs.ObeyLemmas.{on_ok}
use Rattle.cv_session.proofs.RunLemmas.{sizes_stay, shows_view, shows_none}
use Rattle.cv_session.proofs.seat.Session.show_first.Goals as goal

pub returns-in-Some-clause-shows : goal.returns-in-Some-clause-shows
returns-in-Some-clause-shows c =
    subst (λ v. OnOk c.show_view.result (ShowsFirst c.args.self.now c.show_view.new.self c.args.canvas v)) (sym c.in-Some.is)
    (on_ok c.show_view.result (shows_view c.args.self.now c.show_view.new.self c.args.canvas c.in-Some.view) c.show_view.ensures)

pub returns-in-Some-clause-sizes : goal.returns-in-Some-clause-sizes
returns-in-Some-clause-sizes c =
    on_ok c.show_view.result (sizes_stay c.args.self.now c.show_view.new.self (act.View c.args.canvas c.in-Some.view)) c.show_view.ensures

pub returns-in-None-clause-shows : goal.returns-in-None-clause-shows
returns-in-None-clause-shows c =
    subst (ShowsFirst c.args.self.now c.args.self.now c.args.canvas) (sym c.in-None.is) (shows_none c.args.self.now c.args.canvas)
