use Rattle.std.proofs.Common.{◌∙◌, sym, ap, length, List}
use Rattle.std.specs.Prelude.{sum_by}
use Rattle.cv_model.specs.declared.feature.Feature.{Feature}
use Rattle.cv_model.specs.declared.layer.LayerData.{LayerData}
use Rattle.cv_model.specs.Edits.{feature_vertices}
use Rattle.cv_model.specs.Geometries.{counted}
use Rattle.cv_model.specs.Layers.{contents_of}
use Rattle.cv_layer.specs.Tables.{feature_values}
use Rattle.cv_store.specs.Tallies.{data_tally}
use Rattle.cv_store.proofs.adding.data_tally.Goals as goal

pub returns-in-Text : goal.returns-in-Text
returns-in-Text c =
    let all = c.features.ensures.features in
    let vertices = c.vertices_of.ensures
    ∙ ap (λ (l : List Feature). counted (sum_by feature_vertices l)) c.features-in-Text.ensures.features in
    let values = c.values_of.ensures
    ∙ ap (λ (l : List Feature). counted (sum_by feature_values l)) c.features-in-Text-2.ensures.features in
    (λ i. record { features = length (all i); vertices = vertices i; values = values i; cells = 0 })
    ∙ ap (λ (given : LayerData). data_tally (contents_of given)) (sym c.in-Text.is)
