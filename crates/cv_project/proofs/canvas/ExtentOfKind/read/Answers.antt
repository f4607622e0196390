use Rattle.std.proofs.Common.{◌≡◌, Some, Err, Ok, ap, sym, ◌∙◌}
use Rattle.serde_json.specs.Find.{as_array}
use Rattle.serde_json.specs.View.{items_view}
use Rattle.cv_project.specs.Answers.{◌>>=◌}
use Rattle.cv_project.specs.Canvases.{rectangle_of}
use Rattle.cv_project.specs.Seen.{seen}
use Rattle.cv_project.proofs.CanvasLemmas.{extent_of-four, extent_of-other}
use Rattle.cv_project.proofs.canvas.ExtentOfKind.read.Goals as goal

pub returns-then-items-ne4-clause-exact : goal.returns-then-items-ne4-clause-exact
returns-then-items-ne4-clause-exact c =
    let found : as_array (seen c.args.node.now).value ≡ Some (items_view c.as_slice-items.result.now) =
    sym (ap (λ xs. Some (items_view xs)) c.as_slice-items.ensures.value ∙ c.in-Some.ensures
    ∙ ap as_array c.value.ensures) in
    λ other. extent_of-other (seen c.args.node.now) c.as_slice-items.result.now found c.if-items-ne4.true
    ∙ sym (ap Err (c.wrong_kind-then-items-ne4.ensures other))

pub returns-in-Err-clause-exact : goal.returns-in-Err-clause-exact
returns-in-Err-clause-exact c =
    let found : as_array (seen c.args.node.now).value ≡ Some (items_view c.as_slice-items.result.now) =
    sym (ap (λ xs. Some (items_view xs)) c.as_slice-items.ensures.value ∙ c.in-Some.ensures
    ∙ ap as_array c.value.ensures) in
    λ other. extent_of-four (seen c.args.node.now) c.as_slice-items.result.now found c.if-items-ne4.false
    ∙ ap (λ r. r >>= λ zs. Ok (rectangle_of zs)) (c.in-Err.ensures.exact other)

pub returns-in-Ok-clause-exact : goal.returns-in-Ok-clause-exact
returns-in-Ok-clause-exact c =
    let found : as_array (seen c.args.node.now).value ≡ Some (items_view c.as_slice-items.result.now) =
    sym (ap (λ xs. Some (items_view xs)) c.as_slice-items.ensures.value ∙ c.in-Some.ensures
    ∙ ap as_array c.value.ensures) in
    extent_of-four (seen c.args.node.now) c.as_slice-items.result.now found c.if-items-ne4.false
    ∙ ap (λ r. r >>= λ zs. Ok (rectangle_of zs)) c.in-Ok.ensures.exact
    ∙ ap Ok (sym (c.rectangle.ensures ∙ ap rectangle_of c.as_slice.ensures))
