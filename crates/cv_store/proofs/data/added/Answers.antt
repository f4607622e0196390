use Rattle.std.proofs.Common.{◌≡◌, ◌∙◌, ap, subst, length, List, insert}
use Rattle.cv_model.specs.declared.feature.Feature.{Feature}
use Rattle.cv_model.specs.declared.edit.Edit.TheVariants.{AddFeature, InsertFeature}
use Rattle.cv_model.specs.Layers.{Features}
use Rattle.cv_layer.specs.Tables.{TableParts}
use Rattle.cv_store.specs.Data.{changed, table_seen, Judges}
use Rattle.cv_store.proofs.Changes.{if_ok}
use Rattle.cv_store.proofs.FeatureEdits.{added_as}
use Rattle.cv_store.proofs.Openings.{insert_end}
use Rattle.cv_store.proofs.data.added.Goals as goal

pub returns-clause-answer : goal.returns-clause-answer
returns-clause-answer c =
    let t = c.args.table.now in
    subst (Judges c.inserted.result) (added_as c.args.room t.columns t.features c.requires c.len.result
    c.args.feature.now (c.len.ensures ∙ ap length c.rows.ensures.rows)) c.inserted.ensures.answer

pub returns-clause-made : goal.returns-clause-made
returns-clause-made c =
    let t = c.args.table.now in
    let f = c.args.feature.now in
    let long = c.len.ensures ∙ ap length c.rows.ensures.rows in
    if_ok c.inserted.result (λ (made : TableParts). table_seen made ≡ changed (InsertFeature 0 c.len.result f) (table_seen t))
    (λ (made : TableParts). table_seen made ≡ changed (AddFeature 0 f) (table_seen t))
    (λ made made_is h. h ∙ ap (λ n. Features t.columns (insert t.features n f)) long
    ∙ ap (λ (l : List Feature). Features t.columns l) (insert_end t.features f)) c.inserted.ensures.made
