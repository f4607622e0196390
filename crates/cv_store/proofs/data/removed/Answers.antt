use Rattle.std.proofs.Common.{◌∙◌, sym}
use Rattle.cv_store.proofs.FeatureEdits.{removed_by, unknown_feature, known_feature, removed_full}
use Rattle.cv_store.proofs.data.removed.Goals as goal

pub returns-in_default-clause-answer : goal.returns-in_default-clause-answer
returns-in_default-clause-answer c =
    let t = c.args.table.now in
    removed_by c.args.room t.columns t.features c.requires c.args.id
    (unknown_feature t.columns t.features c.args.id (sym c.find.ensures ∙ c.in_default.is))
    (removed_full c.args.room t.columns t.features c.requires c.args.id)

pub returns-then-room-clause-answer : goal.returns-then-room-clause-answer
returns-then-room-clause-answer c =
    let t = c.args.table.now in
    removed_by c.args.room t.columns t.features c.requires c.args.id
    (known_feature t.columns t.features c.args.id c.in-Some.at (sym c.in-Some.ensures))
    (removed_full c.args.room t.columns t.features c.requires c.args.id ∙ c.if-room.true)

pub returns-in-Ok-clause-answer : goal.returns-in-Ok-clause-answer
returns-in-Ok-clause-answer c =
    let t = c.args.table.now in
    removed_by c.args.room t.columns t.features c.requires c.args.id
    (known_feature t.columns t.features c.args.id c.in-Some.at (sym c.in-Some.ensures))
    (removed_full c.args.room t.columns t.features c.requires c.args.id ∙ c.if-room.false)

pub returns-in-Err-clause-answer : goal.returns-in-Err-clause-answer
returns-in-Err-clause-answer c =
    let t = c.args.table.now in
    removed_by c.args.room t.columns t.features c.requires c.args.id
    (known_feature t.columns t.features c.args.id c.in-Some.at (sym c.in-Some.ensures))
    (removed_full c.args.room t.columns t.features c.requires c.args.id ∙ c.if-room.false)
