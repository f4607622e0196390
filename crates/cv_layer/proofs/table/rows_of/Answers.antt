use Rattle.std.proofs.Common.{◌∙◌, ◌++◌, ◌∷◌, [], ap, subst, sym, length, refl, rules}
use Rattle.std.proofs.lemmas.List.{map-append}
use Rattle.std.proofs.lemmas.List.Sums.{sum_by_push}
use Rattle.cv_model.specs.Edits.{feature_vertices}
use Rattle.cv_model.specs.Features.{ids_of}
use Rattle.cv_model.specs.declared.feature.Feature.{Feature}
use Rattle.cv_layer.specs.Stretches.{AreStretches}
use Rattle.cv_layer.specs.Tables.{feature_values}
use Rattle.cv_layer.proofs.table.rows_of.Goals as goal

pub loop-feature-init : goal.loop-feature-init
loop-feature-init c = record {
  made = search rules;
  stretches = subst (λ l. AreStretches l []) (sym c.new-stretches.ensures.items) (λ i. []);
  vertices = λ i. 0;
  values = λ i. 0;
}

pub loop-feature-preserved : goal.loop-feature-preserved
loop-feature-preserved c = record {
  made = search rules;
  stretches =
      let feature = c.in-Some.feature in
      let same = c.id.ensures ∙ ap (λ (f : Feature). f.id) c.in_ok-row.ensures in
      subst (AreStretches c.put.new.stretches.items)
      (ap (λ n. ids_of c.loop-feature.yielded ++ n ∷ []) same
      ∙ sym (map-append (λ (f : Feature). f.id) c.loop-feature.yielded (feature ∷ [])))
      (c.in_ok-put.ensures (ids_of c.loop-feature.yielded) (c.id.result ∷ []) c.loop-feature.invariant.stretches c.of-in-loop-feature.ensures);
  vertices = rw (
    sum_by_push feature_vertices c.loop-feature.yielded c.in-Some.feature,
    c.in_ok-vertices-2.ensures,
    c.in_ok-vertices.ensures,
    c.in_ok-row.ensures,
    c.loop-feature.invariant.vertices,
  ) refl;
  values = rw (
    sum_by_push feature_values c.loop-feature.yielded c.in-Some.feature,
    c.in_ok-values.ensures,
    ap length c.values.ensures,
    c.in_ok-row.ensures,
    c.loop-feature.invariant.values,
  )
      refl;
}
