use Rattle.std.proofs.Common.{◌≡◌, ◌∙◌, sym, ap, subst, refl, ◌||◌, Option}
use Rattle.std.specs.Option.{option_map_or}
use Rattle.cv_model.specs.Edits.{feature_vertices}
use Rattle.cv_model.specs.Geometries.{GeometryLists, vertices_of}
use Rattle.cv_store.specs.Tallies.{exchange, passes, vertex_tally, IsPartOf}
use Rattle.cv_store.proofs.FeatureEdits.{geometry_by, unknown_feature, known_feature, geometry_part, geometry_full}
use Rattle.cv_store.proofs.data.with_geometry.Goals as goal

pub returns-in_default-clause-answer : goal.returns-in_default-clause-answer
returns-in_default-clause-answer c =
    let t = c.args.table.now in
    geometry_by c.args.room t.columns t.features c.requires c.args.id c.args.geometry.now
    (unknown_feature t.columns t.features c.args.id (sym c.find.ensures ∙ c.in_default.is)) refl

pub is_passed-requires : goal.is_passed-requires
is_passed-requires c =
    let t = c.args.table.now in
    let row = c.row_at.result.now in
    let tally = λ (g : Option GeometryLists). vertex_tally (option_map_or vertices_of g 0) in
    let old : c.geometry_tally-was.result ≡ vertex_tally (feature_vertices row) =
    c.geometry_tally-was.ensures ∙ ap tally c.geometry.ensures in
    subst (λ part. IsPartOf part c.args.room.sums) (sym old) (geometry_part c.args.room t.columns t.features c.requires
    c.args.id c.in-Some.at row (sym c.in-Some.ensures) c.row_at.ensures.row c.row_at.ensures.kept.distinct)

pub returns-then-is_passed-clause-answer : goal.returns-then-is_passed-clause-answer
returns-then-is_passed-clause-answer c =
    let t = c.args.table.now in
    let room = c.args.room in
    let row = c.row_at.result.now in
    let tally = λ (g : Option GeometryLists). vertex_tally (option_map_or vertices_of g 0) in
    let old : c.geometry_tally-was.result ≡ vertex_tally (feature_vertices row) =
    c.geometry_tally-was.ensures ∙ ap tally c.geometry.ensures in
    let new : c.geometry_tally.result ≡ tally c.args.geometry.now =
    c.geometry_tally.ensures ∙ ap tally c.as_ref.ensures.value in
    let full = geometry_full room t.columns t.features c.requires c.args.id c.in-Some.at row (sym c.in-Some.ensures)
    c.row_at.ensures.row c.row_at.ensures.kept.distinct c.args.geometry.now
    ∙ (λ i. room.spent || passes (exchange room.sums (sym old i) (sym new i))) ∙ sym c.if-is_passed.ensures in
    geometry_by room t.columns t.features c.requires c.args.id c.args.geometry.now
    (known_feature t.columns t.features c.args.id c.in-Some.at (sym c.in-Some.ensures)) full

pub returns-in-Err-clause-answer : goal.returns-in-Err-clause-answer
returns-in-Err-clause-answer c =
    let t = c.args.table.now in
    let room = c.args.room in
    let row = c.row_at.result.now in
    let tally = λ (g : Option GeometryLists). vertex_tally (option_map_or vertices_of g 0) in
    let old : c.geometry_tally-was.result ≡ vertex_tally (feature_vertices row) =
    c.geometry_tally-was.ensures ∙ ap tally c.geometry.ensures in
    let new : c.geometry_tally.result ≡ tally c.args.geometry.now =
    c.geometry_tally.ensures ∙ ap tally c.as_ref.ensures.value in
    let full = geometry_full room t.columns t.features c.requires c.args.id c.in-Some.at row (sym c.in-Some.ensures)
    c.row_at.ensures.row c.row_at.ensures.kept.distinct c.args.geometry.now
    ∙ (λ i. room.spent || passes (exchange room.sums (sym old i) (sym new i))) ∙ sym c.if-is_passed.ensures in
    geometry_by room t.columns t.features c.requires c.args.id c.args.geometry.now
    (known_feature t.columns t.features c.args.id c.in-Some.at (sym c.in-Some.ensures)) full

pub returns-in-Ok-with_geometry-clause-answer : goal.returns-in-Ok-with_geometry-clause-answer
returns-in-Ok-with_geometry-clause-answer c =
    let t = c.args.table.now in
    let room = c.args.room in
    let row = c.row_at.result.now in
    let tally = λ (g : Option GeometryLists). vertex_tally (option_map_or vertices_of g 0) in
    let old : c.geometry_tally-was.result ≡ vertex_tally (feature_vertices row) =
    c.geometry_tally-was.ensures ∙ ap tally c.geometry.ensures in
    let new : c.geometry_tally.result ≡ tally c.args.geometry.now =
    c.geometry_tally.ensures ∙ ap tally c.as_ref.ensures.value in
    let full = geometry_full room t.columns t.features c.requires c.args.id c.in-Some.at row (sym c.in-Some.ensures)
    c.row_at.ensures.row c.row_at.ensures.kept.distinct c.args.geometry.now
    ∙ (λ i. room.spent || passes (exchange room.sums (sym old i) (sym new i))) ∙ sym c.if-is_passed.ensures in
    geometry_by room t.columns t.features c.requires c.args.id c.args.geometry.now
    (known_feature t.columns t.features c.args.id c.in-Some.at (sym c.in-Some.ensures)) full

pub returns-in-Err-with_geometry-clause-answer : goal.returns-in-Err-with_geometry-clause-answer
returns-in-Err-with_geometry-clause-answer c =
    let t = c.args.table.now in
    let room = c.args.room in
    let row = c.row_at.result.now in
    let tally = λ (g : Option GeometryLists). vertex_tally (option_map_or vertices_of g 0) in
    let old : c.geometry_tally-was.result ≡ vertex_tally (feature_vertices row) =
    c.geometry_tally-was.ensures ∙ ap tally c.geometry.ensures in
    let new : c.geometry_tally.result ≡ tally c.args.geometry.now =
    c.geometry_tally.ensures ∙ ap tally c.as_ref.ensures.value in
    let full = geometry_full room t.columns t.features c.requires c.args.id c.in-Some.at row (sym c.in-Some.ensures)
    c.row_at.ensures.row c.row_at.ensures.kept.distinct c.args.geometry.now
    ∙ (λ i. room.spent || passes (exchange room.sums (sym old i) (sym new i))) ∙ sym c.if-is_passed.ensures in
    geometry_by room t.columns t.features c.requires c.args.id c.args.geometry.now
    (known_feature t.columns t.features c.args.id c.in-Some.at (sym c.in-Some.ensures)) full
