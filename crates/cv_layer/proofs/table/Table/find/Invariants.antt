use Rattle.std.proofs.Common.{◌≡◌, ◌<◌, ℕ, false, take}
use Rattle.std.specs.Prelude.{slice_index_or as get_or}
use Rattle.cv_model.specs.declared.feature.Feature.{Feature}
use Rattle.cv_model.specs.Edits.{is_feature}
use Rattle.cv_layer.proofs.StretchLemmas.{total}
use Rattle.cv_layer.proofs.table.Table.find.Given as goal

-- none of the features so far has the id
abbrev pub invariant-loop-stretch : goal.invariant-loop-stretch
invariant-loop-stretch l = record {
  start : l.start ≡ total (take l.stretch-index l.stretch-items);
  none : (k : ℕ) (d : Feature) → k < l.start → is_feature l.id (get_or l.self.features k d) ≡ false;
}
