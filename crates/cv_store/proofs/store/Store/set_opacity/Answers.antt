use Rattle.std.proofs.Common.{ap, subst, refl, Some, ◌≡◌, List}
use Rattle.std.specs.Prelude.{slice_get}
use Rattle.cv_model.specs.declared.layer.LayerFrame.{LayerFrame}
use Rattle.cv_model.specs.declared.edit.Edit.TheVariants.{SetOpacity}
use Rattle.cv_model.specs.Layers.{Layer}
use Rattle.cv_store.specs.Stores.{RevisedLayer, with_frame}
use Rattle.cv_store.proofs.Changes.{frame_none, frame_ok}
use Rattle.cv_store.proofs.Verdicts.{place_refused}
use Rattle.cv_store.proofs.store.Store.set_opacity.Goals as goal

pub returns-in-Err-clause-answer : goal.returns-in-Err-clause-answer
returns-in-Err-clause-answer c =
    place_refused c.args.self.now (SetOpacity c.args.layer c.args.opacity) c.args.layer c.in-Err.error refl refl refl refl
    c.in-Err.ensures

pub returns-clause-answer : goal.returns-clause-answer
returns-clause-answer c =
    let here = subst (λ (l : List RevisedLayer). slice_get l c.in-Ok.at ≡ Some c.row.result.now) c.layers.ensures.layers
    c.row.ensures in (
      frame_none c.args.self.now (SetOpacity c.args.layer c.args.opacity) c.args.layer c.in-Ok.at c.layers.ensures.kept
          c.in-Ok.ensures.0 (λ (layer : Layer). record layer { opacity = c.args.opacity }) c.row.result.now here c.in-Ok.ensures.1 refl refl refl refl refl
          refl refl refl,
      c.reframe.ensures.version,
    )

pub returns-clause-ok : goal.returns-clause-ok
returns-clause-ok c =
    let here = subst (λ (l : List RevisedLayer). slice_get l c.in-Ok.at ≡ Some c.row.result.now) c.layers.ensures.layers
    c.row.ensures in
    let row = c.row.result.now in
    frame_ok c.args.self.now (SetOpacity c.args.layer c.args.opacity) c.args.layer c.in-Ok.at c.layers.ensures.kept
    c.in-Ok.ensures.0 (λ (layer : Layer). record layer { opacity = c.args.opacity }) row _ here
    (ap (λ (w : LayerFrame). with_frame (record w { opacity = c.args.opacity }) row) c.frame-was.ensures) refl refl refl
    refl c.reframe.new.self (c.reframe.ensures.made row here)
