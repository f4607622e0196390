use Rattle.std.proofs.Common.{Some, sym, ap, ◌∙◌, ◌+◌}
use Rattle.serde_json.specs.View.{view}
use Rattle.cv_project.specs.Nodes.{TreeNode}
use Rattle.cv_project.specs.Seen.{seen}
use Rattle.cv_project.proofs.PathLemmas.{path_text-Field}
use Rattle.cv_project.proofs.FieldLemmas.{field-some}
use Rattle.cv_project.proofs.node.Node.field.Goals as goal

pub returns : goal.returns
returns c =
    let step = path_text-Field (record {
      ref_ptr =
          (c.args.self.ref_ptr.0, c.args.self.ref_ptr.1 + 0);
      now = c.args.self.now.path;
    }) c.args.name in
    ap (λ p. Some (let node : TreeNode = record { path = p; value = view c.in_ok-value.value.now } in
    node)) step
    ∙ sym (field-some c.args.name.now (seen c.args.self.now)
    (view c.in_ok-value.value.now) c.in_ok-value.ensures
    (sym c.is_null.ensures ∙ c.if-is_null.false))
