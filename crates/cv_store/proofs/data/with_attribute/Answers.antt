use Rattle.std.proofs.Common.{◌∙◌, sym, ap, refl}
use Rattle.std.specs.Prelude.{position, bytes_eq, is_none}
use Rattle.cv_store.proofs.FeatureEdits.{attribute_by, unknown_feature, known_feature, attribute_full}
use Rattle.cv_store.proofs.data.with_attribute.Goals as goal

pub returns-in_default-clause-answer : goal.returns-in_default-clause-answer
returns-in_default-clause-answer c =
    let t = c.args.table.now in
    let column = c.args.column.now in
    let value = c.args.value.now in
    attribute_by c.args.room t.columns t.features c.requires c.args.id column value
    (unknown_feature t.columns t.features c.args.id (sym c.find.ensures ∙ c.in_default.is))
    (attribute_full c.args.room t.columns t.features c.requires c.args.id column value)
    refl

pub returns-then-room-clause-answer : goal.returns-then-room-clause-answer
returns-then-room-clause-answer c =
    let t = c.args.table.now in
    let column = c.args.column.now in
    let value = c.args.value.now in
    attribute_by c.args.room t.columns t.features c.requires c.args.id column value
    (known_feature t.columns t.features c.args.id c.in-Some.at (sym c.in-Some.ensures))
    (attribute_full c.args.room t.columns t.features c.requires c.args.id column value ∙ c.if-room.true)
    refl

pub returns-in_default-column_in-clause-answer : goal.returns-in_default-column_in-clause-answer
returns-in_default-column_in-clause-answer c =
    let t = c.args.table.now in
    let column = c.args.column.now in
    let value = c.args.value.now in
    attribute_by c.args.room t.columns t.features c.requires c.args.id column value
    (known_feature t.columns t.features c.args.id c.in-Some.at (sym c.in-Some.ensures))
    (attribute_full c.args.room t.columns t.features c.requires c.args.id column value ∙ c.if-room.false)
    (ap is_none (ap (position (bytes_eq column)) (sym c.columns.ensures) ∙ sym c.column_in.ensures
    ∙ c.in_default-column_in.is))

pub returns-in-Ok-clause-answer : goal.returns-in-Ok-clause-answer
returns-in-Ok-clause-answer c =
    let t = c.args.table.now in
    let column = c.args.column.now in
    let value = c.args.value.now in
    attribute_by c.args.room t.columns t.features c.requires c.args.id column value
    (known_feature t.columns t.features c.args.id c.in-Some.at (sym c.in-Some.ensures))
    (attribute_full c.args.room t.columns t.features c.requires c.args.id column value ∙ c.if-room.false)
    (ap is_none (ap (position (bytes_eq column)) (sym c.columns.ensures) ∙ sym c.in-Some-column_in.ensures))

pub returns-in-Err-clause-answer : goal.returns-in-Err-clause-answer
returns-in-Err-clause-answer c =
    let t = c.args.table.now in
    let column = c.args.column.now in
    let value = c.args.value.now in
    attribute_by c.args.room t.columns t.features c.requires c.args.id column value
    (known_feature t.columns t.features c.args.id c.in-Some.at (sym c.in-Some.ensures))
    (attribute_full c.args.room t.columns t.features c.requires c.args.id column value ∙ c.if-room.false)
    (ap is_none (ap (position (bytes_eq column)) (sym c.columns.ensures) ∙ sym c.in-Some-column_in.ensures))
