-- What was opened can be played.
use Rattle.std.proofs.Common.{map, ap, ◌∙◌}
use Rattle.cv_model.specs.Openings.{canvas_of_file, first_view}
use Rattle.cv_store.specs.Stores.{project_of}
use Rattle.cv_session.proofs.PlayableLemmas.{script_plays}
use Rattle.cv_top.proofs.SessionLemmas.{opening_runs, views_run}
use Rattle.cv_top.proofs.session.play.Goals as goal

pub run_alone-requires-clause-fits : goal.run_alone-requires-clause-fits
run_alone-requires-clause-fits g c =
    let opened = c.args.staged.opened in
    opening_runs opened.file opened.contents (project_of c.in-Ok-store_of.store) c.as_slice.result.now c.requires.can c.in-Ok-store_of.ensures.project
    (c.as_slice.ensures.value ∙ c.in-Ok.ensures ∙ ap (map canvas_of_file) c.canvases.ensures)

pub run_alone-requires-clause-views : goal.run_alone-requires-clause-views
run_alone-requires-clause-views g c =
    views_run c.args.staged.opened.file.canvases c.as_slice.result.now c.as_slice-2.result.now
    (c.as_slice.ensures.value ∙ c.in-Ok.ensures ∙ ap (map canvas_of_file) c.canvases.ensures)
    (c.as_slice-2.ensures.value ∙ c.in-Ok-first_views.ensures ∙ ap (map first_view) c.canvases-2.ensures)

pub run_alone-requires-clause-script : goal.run_alone-requires-clause-script
run_alone-requires-clause-script g c = script_plays c.args.staged.script c.requires.script
