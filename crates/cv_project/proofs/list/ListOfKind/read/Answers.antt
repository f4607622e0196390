use Rattle.std.proofs.Common.{◌≡◌, Some, Err, List, length, sym, ap, ◌∙◌, subst}
use Rattle.serde_json.specs.Find.{as_array}
use Rattle.serde_json.specs.View.{items_view}
use Rattle.cv_project.specs.Answers.{Answers}
use Rattle.cv_project.specs.Seen.{seen}
use Rattle.cv_project.proofs.ListLemmas.{list_of-members, list_of-limit}
use Rattle.cv_project.proofs.list.ListOfKind.read.Goals as goal

pub returns-then-is_between-clause-exact : goal.returns-then-is_between-clause-exact
returns-then-is_between-clause-exact g c =
    let k = c.args.self.now in
    let vs = c.as_slice-items.result.now in
    let found : as_array (seen c.args.node.now).value ≡ Some (items_view vs) =
    sym (ap (λ xs. Some (items_view xs)) c.as_slice-items.ensures.value ∙ c.in-Some.ensures
    ∙ ap as_array c.value.ensures) in
    let few = sym c.is_between.ensures ∙ c.if-is_between.true in
    subst (Answers c.members.result) (sym (list_of-members k.least k.most (g.M.Member.made k.of)
    (seen c.args.node.now) vs found few)) c.members.ensures.exact

pub returns-else-is_between-clause-exact : goal.returns-else-is_between-clause-exact
returns-else-is_between-clause-exact g c =
    let k = c.args.self.now in
    let vs = c.as_slice-items.result.now in
    let found : as_array (seen c.args.node.now).value ≡ Some (items_view vs) =
    sym (ap (λ xs. Some (items_view xs)) c.as_slice-items.ensures.value ∙ c.in-Some.ensures
    ∙ ap as_array c.value.ensures) in
    let few = sym c.is_between.ensures ∙ c.if-is_between.false in
    λ other. list_of-limit k.least k.most (g.M.Member.made k.of) (seen c.args.node.now) vs found few
    ∙ sym (ap Err (c.limit.ensures other))
