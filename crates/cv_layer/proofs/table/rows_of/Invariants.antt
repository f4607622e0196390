use Rattle.std.proofs.Common.{◌≡◌, sum_by}
use Rattle.cv_model.specs.Edits.{feature_vertices}
use Rattle.cv_model.specs.Features.{ids_of}
use Rattle.cv_layer.specs.Stretches.{AreStretches}
use Rattle.cv_layer.specs.Tables.{feature_values}
use Rattle.cv_layer.proofs.table.rows_of.Given as goal

-- the features so far are in their rows, their ids in the stretches, and they are counted
abbrev pub invariant-loop-feature : goal.invariant-loop-feature
invariant-loop-feature l = record {
  made : l.rows ≡ l.yielded;
  stretches : AreStretches l.stretches.items (ids_of l.yielded);
  vertices : l.vertices ≡ sum_by feature_vertices l.yielded;
  values : l.values ≡ sum_by feature_values l.yielded;
}
