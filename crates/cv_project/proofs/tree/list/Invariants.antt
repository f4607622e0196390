use Rattle.std.proofs.Common.{◌≡◌, All, map, take}
use Rattle.serde_json.specs.View.{view}
use Rattle.cv_project.proofs.tree.list.Given as goal

-- the trees of the parts so far
abbrev pub invariant-loop-part : goal.invariant-loop-part
invariant-loop-part g l = record {
  trees : map view l.values.items ≡ map g.T.Part.stands (take l.part-index l.parts);
  kept : All g.T.Part.kept (take l.part-index l.parts);
}
