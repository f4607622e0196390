use Rattle.std.proofs.Common.{◌≡◌, ◌∙◌, sym, ap, refl, not, ◌||◌, length}
use Rattle.std.specs.Prelude.{is_some}
use Rattle.std.specs.List.{list_any}
use Rattle.cv_model.specs.declared.feature.Feature.{Feature}
use Rattle.cv_model.specs.Edits.{is_feature, is_uneven}
use Rattle.cv_model.specs.Layers.{Features}
use Rattle.cv_store.specs.declared.tally.Tally.{Tally}
use Rattle.cv_store.specs.Tallies.{exchange, passes, no_tally}
use Rattle.cv_store.proofs.FeatureEdits.{inserted_by, any_position, inserted_full, differ, alike, above, not_above}
use Rattle.cv_store.proofs.data.inserted.Goals as goal

pub returns-then-is_some-clause-answer : goal.returns-then-is_some-clause-answer
returns-then-is_some-clause-answer c =
    let t = c.args.table.now in
    let room = c.args.room in
    let f = c.args.feature.now in
    let known = any_position t.columns t.features f.id ∙ ap is_some (sym c.find.ensures) ∙ sym c.if-is_some.ensures in
    inserted_by room t.columns t.features c.requires c.args.place f known
    refl
    refl

pub returns-then-is_passed-clause-answer : goal.returns-then-is_passed-clause-answer
returns-then-is_passed-clause-answer c =
    let t = c.args.table.now in
    let room = c.args.room in
    let f = c.args.feature.now in
    let known = any_position t.columns t.features f.id ∙ ap is_some (sym c.find.ensures) ∙ sym c.if-is_some.ensures in
    let full = inserted_full room t.columns t.features c.requires c.args.place f
    ∙ ap (λ (t : Tally). room.spent || passes (exchange room.sums no_tally t)) (sym c.feature_tally.ensures)
    ∙ sym c.if-is_passed.ensures in
    inserted_by room t.columns t.features c.requires c.args.place f known
    full
    refl

pub returns-then-place-len-clause-answer : goal.returns-then-place-len-clause-answer
returns-then-place-len-clause-answer c =
    let t = c.args.table.now in
    let room = c.args.room in
    let f = c.args.feature.now in
    let known = any_position t.columns t.features f.id ∙ ap is_some (sym c.find.ensures) ∙ sym c.if-is_some.ensures in
    let full = inserted_full room t.columns t.features c.requires c.args.place f
    ∙ ap (λ (t : Tally). room.spent || passes (exchange room.sums no_tally t)) (sym c.feature_tally.ensures)
    ∙ sym c.if-is_passed.ensures in
    let long : c.len.result ≡ length t.features = c.len.ensures ∙ ap length c.rows.ensures.rows in
    let behind = above (length t.features) c.args.place (rw long at c.if-place-len.true) in
    inserted_by room t.columns t.features c.requires c.args.place f known
    full
    (ap (λ b. b || is_uneven f (Features t.columns t.features)) behind)

pub returns-then-len-columns-clause-answer : goal.returns-then-len-columns-clause-answer
returns-then-len-columns-clause-answer c =
    let t = c.args.table.now in
    let room = c.args.room in
    let f = c.args.feature.now in
    let known = any_position t.columns t.features f.id ∙ ap is_some (sym c.find.ensures) ∙ sym c.if-is_some.ensures in
    let full = inserted_full room t.columns t.features c.requires c.args.place f
    ∙ ap (λ (t : Tally). room.spent || passes (exchange room.sums no_tally t)) (sym c.feature_tally.ensures)
    ∙ sym c.if-is_passed.ensures in
    let long : c.len.result ≡ length t.features = c.len.ensures ∙ ap length c.rows.ensures.rows in
    let before = not_above (length t.features) c.args.place (rw long at c.if-place-len.false) in
    let uneven = ap not (differ (length f.values) (length t.columns) (λ same. c.if-len-columns.true
    (c.len-2.ensures ∙ same ∙ ap length (sym c.columns.ensures)))) in
    inserted_by room t.columns t.features c.requires c.args.place f known
    full
    (λ i. before i || uneven i)

pub returns-in-Err-clause-answer : goal.returns-in-Err-clause-answer
returns-in-Err-clause-answer c =
    let t = c.args.table.now in
    let room = c.args.room in
    let f = c.args.feature.now in
    let known = any_position t.columns t.features f.id ∙ ap is_some (sym c.find.ensures) ∙ sym c.if-is_some.ensures in
    let full = inserted_full room t.columns t.features c.requires c.args.place f
    ∙ ap (λ (t : Tally). room.spent || passes (exchange room.sums no_tally t)) (sym c.feature_tally.ensures)
    ∙ sym c.if-is_passed.ensures in
    let long : c.len.result ≡ length t.features = c.len.ensures ∙ ap length c.rows.ensures.rows in
    let before = not_above (length t.features) c.args.place (rw long at c.if-place-len.false) in
    let even = ap not (alike (length f.values) (length t.columns) (sym c.len-2.ensures ∙ c.if-len-columns.false
    ∙ ap length c.columns.ensures)) in
    inserted_by room t.columns t.features c.requires c.args.place f known
    full
    (λ i. before i || even i)

pub returns-in-Ok-with_feature-clause-answer : goal.returns-in-Ok-with_feature-clause-answer
returns-in-Ok-with_feature-clause-answer c =
    let t = c.args.table.now in
    let room = c.args.room in
    let f = c.args.feature.now in
    let known = any_position t.columns t.features f.id ∙ ap is_some (sym c.find.ensures) ∙ sym c.if-is_some.ensures in
    let full = inserted_full room t.columns t.features c.requires c.args.place f
    ∙ ap (λ (t : Tally). room.spent || passes (exchange room.sums no_tally t)) (sym c.feature_tally.ensures)
    ∙ sym c.if-is_passed.ensures in
    let long : c.len.result ≡ length t.features = c.len.ensures ∙ ap length c.rows.ensures.rows in
    let before = not_above (length t.features) c.args.place (rw long at c.if-place-len.false) in
    let even = ap not (alike (length f.values) (length t.columns) (sym c.len-2.ensures ∙ c.if-len-columns.false
    ∙ ap length c.columns.ensures)) in
    inserted_by room t.columns t.features c.requires c.args.place f known
    full
    (λ i. before i || even i)

pub returns-in-Err-with_feature-clause-answer : goal.returns-in-Err-with_feature-clause-answer
returns-in-Err-with_feature-clause-answer c =
    let t = c.args.table.now in
    let room = c.args.room in
    let f = c.args.feature.now in
    let known = any_position t.columns t.features f.id ∙ ap is_some (sym c.find.ensures) ∙ sym c.if-is_some.ensures in
    let full = inserted_full room t.columns t.features c.requires c.args.place f
    ∙ ap (λ (t : Tally). room.spent || passes (exchange room.sums no_tally t)) (sym c.feature_tally.ensures)
    ∙ sym c.if-is_passed.ensures in
    let long : c.len.result ≡ length t.features = c.len.ensures ∙ ap length c.rows.ensures.rows in
    let before = not_above (length t.features) c.args.place (rw long at c.if-place-len.false) in
    let even = ap not (alike (length f.values) (length t.columns) (sym c.len-2.ensures ∙ c.if-len-columns.false
    ∙ ap length c.columns.ensures)) in
    inserted_by room t.columns t.features c.requires c.args.place f known
    full
    (λ i. before i || even i)

pub with_feature-requires-clause-fresh : goal.with_feature-requires-clause-fresh
with_feature-requires-clause-fresh c =
    let t = c.args.table.now in
    ap (λ (f : Feature). list_any (is_feature f.id) t.features) c.in-Ok.ensures
    ∙ any_position t.columns t.features c.args.feature.now.id ∙ ap is_some (sym c.find.ensures)
    ∙ sym c.if-is_some.ensures
