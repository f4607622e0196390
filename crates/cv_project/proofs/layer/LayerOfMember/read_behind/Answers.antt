use Rattle.std.proofs.Common.{◌∙◌}
use Rattle.cv_model.specs.declared.project.LayerFile.{LayerFile}
use Rattle.cv_project.proofs.LayerLemmas.{AreLayers-push}
use Rattle.cv_project.proofs.layer.LayerOfMember.read_behind.Goals as goal

pub returns-clause-kept : goal.returns-clause-kept
returns-clause-kept c =
    AreLayers-push c.args.before.now _ c.requires (record {
      id = c.in_ok-id.ensures.kept;
      name = c.in_ok-name.ensures.kept;
      source = c.in_ok-source.ensures.kept;
      mask = c.in_ok-mask.ensures.kept;
      join = c.in_ok-join.ensures.kept;
      style = c.in_ok-style.ensures.kept.0;
      fits = c.in_ok-style.ensures.kept.1 ∙ c.is_grid-grid.ensures;
    }) c.in_ok-new_id.ensures.held
