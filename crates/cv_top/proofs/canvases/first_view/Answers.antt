-- An extent in form has a view.
use Rattle.std.proofs.Common.{◌≡◌, ◌∙◌, ap, sym, subst, Option, option_map, IfSome}
use Rattle.std.specs.Result.{result_ok}
use Rattle.cv_model.specs.Positions.{Rectangle}
use Rattle.cv_model.specs.ProjectFiles.{IsShown}
use Rattle.cv_model.specs.Views.{grid_of}
use Rattle.cv_open.proofs.CanvasLemmas.{shown_has_view}
use Rattle.cv_top.proofs.canvases.first_view.Goals as goal

pub returns : goal.returns
returns c =
    let canvas = c.args.canvas.now in
    let shown = subst (λ (o : Option Rectangle). IfSome o (IsShown canvas.width canvas.height)) c.in_ok-canvas.was c.requires.extent in
    c.ok.ensures.value ∙ ap result_ok (c.view_of.ensures.answer ∙ shown_has_view canvas.width canvas.height c.in_ok-canvas.field-0 c.requires.size shown)
    ∙ sym (ap (option_map (λ extent. grid_of extent canvas.width canvas.height)) c.in_ok-canvas.was)
