-- The refusal names the path.
use Rattle.std.proofs.Common.{List, ℕ, ◌++◌, subst, sym}
use Rattle.cv_model.specs.Views.{PixelGrid}
use Rattle.cv_open.specs.Canvases.{canvas_path, lacking}
use Rattle.cv_open.specs.Readings.{only, IsReadAs}
use Rattle.cv_open.proofs.ReadingLemmas.{stays}
use Rattle.cv_open.proofs.canvas.lacking.Goals as goal

pub returns-in-Ok : goal.returns-in-Ok
returns-in-Ok c = λ shelf.
    let wanted = canvas_path c.args.canvas ++ c.args.field.now in
    subst (λ (path : List ℕ). IsReadAs (only {X = PixelGrid} (lacking wanted)) (lacking path) shelf shelf)
    (sym c.in-Ok.ensures) (stays (only {X = PixelGrid} (lacking wanted)) shelf)

pub returns-in-Err : goal.returns-in-Err
returns-in-Err c = λ shelf.
    let all = only {X = PixelGrid} (lacking (canvas_path c.args.canvas ++ c.args.field.now)) in (all, stays all shelf)
