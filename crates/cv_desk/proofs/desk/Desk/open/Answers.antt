use Rattle.std.proofs.Common.{◌∙◌, sym, ap, map}
use Rattle.cv_model.specs.Layers.{Opening}
use Rattle.cv_store.specs.Stores.{project_of}
use Rattle.cv_event.specs.States.{replay}
use Rattle.cv_tables.specs.Tabs.{Tab}
use Rattle.cv_desk.proofs.OpeningLemmas.{opened_desk, specs_back}
use Rattle.cv_desk.proofs.desk.Desk.open.Goals as goal

pub invariant_of-result : goal.invariant_of-result
invariant_of-result c =
    opened_desk c.args.store c.args.canvases.now c.in-Ok.canvases c.new.result c.new-2.result.entries c.new-2.result.spare
    c.of.result.value c.of-2.result.value c.len.ensures.kept c.requires c.in-Ok.ensures c.new.ensures c.new-2.ensures c.of.ensures c.of-2.ensures

pub returns-clause-ok : goal.returns-clause-ok
returns-clause-ok c =
    let o : Opening = record {
      project = project_of c.of.result.value;
      canvases = map (λ (tab : Tab). tab.spec) c.of-2.result.value;
    } in
    let canvases = ap (map (λ (tab : Tab). tab.spec)) (c.of-2.ensures ∙ c.in-Ok.ensures) ∙ specs_back c.args.canvases.now in (
      c.new-2.ensures,
      (λ i. record { project = project_of (c.of.ensures i); canvases = canvases i }),
      sym (invariant_of-result c).shows ∙ ap (replay o) c.new-2.ensures,
    )
