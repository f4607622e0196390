use Rattle.cv_outside.specs.Seen.{tray_seen}
use Rattle.cv_store.specs.Stores.{project_of}
use Rattle.cv_session.specs.Seats.{now}
use Rattle.cv_session.proofs.RunLemmas.{first_sizes, first_few, fits_shown, run_ends, run_cut, one_less}
use Rattle.cv_session.proofs.run.run_alone.Goals as goal

pub first_views-requires-clause-few : goal.first_views-requires-clause-few
first_views-requires-clause-few g c = first_few c.args.specs.now (project_of c.args.store) c.args.views.now c.requires.fits c.requires.views

pub first_views-requires-clause-sizes : goal.first_views-requires-clause-sizes
first_views-requires-clause-sizes g c =
    first_sizes c.args.specs.now (project_of c.args.store) (now c.in-Ok.session) c.args.views.now c.in-Ok.ensures.state c.requires.views

pub play_all-requires-clause-fits : goal.play_all-requires-clause-fits
play_all-requires-clause-fits g c =
    fits_shown (record { project = project_of c.args.store; canvases = c.args.specs.now }) c.args.views.now c.in-Ok.session c.first_views.new.self c.requires.fits
    c.in-Ok.ensures c.in-Ok-first_views.ensures

pub returns-in-Ok-end-clause-ends : goal.returns-in-Ok-end-clause-ends
returns-in-Ok-end-clause-ends g c =
    let end = rw c.commands.ensures at c.in-Ok-play_all.ensures.ends in
    run_ends (record { project = project_of c.args.store; canvases = c.args.specs.now }) c.args.views.now c.args.script.now c.in-Ok.session c.first_views.new.self
    c.play_all.new.self c.end.new.self c.into_report.result c.in-Ok-play_all.images (tray_seen g.T.Tray c.args.tray.now) (tray_seen g.T.Tray c.play_all.new.tray)
    c.requires.script c.in-Ok.ensures c.in-Ok-first_views.ensures end c.in-Ok-end.ensures c.into_report.ensures.legal c.into_report.ensures.entries
    c.into_report.ensures.refused c.into_report.ensures.images

pub returns-in-Err-Tray-clause-ends : goal.returns-in-Err-Tray-clause-ends
returns-in-Err-Tray-clause-ends g c =
    let end = rw c.commands.ensures at (rw c.in-Err-Tray.field-0-is at c.in-Err-Tray.ensures.ends) in
    run_cut (record { project = project_of c.args.store; canvases = c.args.specs.now }) c.args.views.now c.args.script.now c.in-Ok.session c.first_views.new.self
    c.play_all.new.self c.into_report-in-Err-Tray.result c.in-Err-Tray.image (tray_seen g.T.Tray c.args.tray.now) (tray_seen g.T.Tray c.play_all.new.tray)
    c.requires.script c.in-Ok.ensures c.in-Ok-first_views.ensures end c.into_report-in-Err-Tray.ensures.legal c.into_report-in-Err-Tray.ensures.entries
    c.into_report-in-Err-Tray.ensures.refused (one_less c.in-Err-Tray.image end.images c.into_report-in-Err-Tray.result.images end.number c.into_report-in-Err-Tray.ensures.images)
