use Rattle.std.proofs.Common.{◌≡◌, ◌∙◌, sym, ap, subst, refl, Some, suc, map, ◌||◌}
use Rattle.std.specs.Prelude.{slice_get, position}
use Rattle.cv_model.specs.Layers.{Contents, Core}
use Rattle.cv_layer.specs.Layers.{RevisedCore, contents_seen}
use Rattle.cv_store.specs.declared.room.Room.{Room}
use Rattle.cv_store.specs.Stores.{layer_of, has_id}
use Rattle.cv_store.specs.Answers.{IsChange, is_spent}
use Rattle.cv_store.specs.Data.{changed, answer_to, refusal, HasRoom}
use Rattle.cv_store.proofs.Changes.{unknown, core_change, core_ok, if_ok, got_ok}
use Rattle.cv_store.proofs.DataEdits.{data_is, verdict_unknown, verdict_here, has_room, over_here, full}
use Rattle.cv_store.proofs.Limits.{or_right}
use Rattle.cv_store.proofs.Verdicts.{answered, on_ok}
use Rattle.cv_store.proofs.store.Store.change.Goals as goal

pub returns-in-None-clause-answer : goal.returns-in-None-clause-answer
returns-in-None-clause-answer c =
    let s = c.args.self.now in
    verdict_unknown s c.args.edit.now c.args.layer (data_is c.args.edit.now c.args.layer c.requires)
    (unknown s c.args.layer c.layers.result.now c.layers.ensures.layers (sym c.find.ensures ∙ c.in-None.is))

pub changed-requires-clause-room : goal.changed-requires-clause-room
changed-requires-clause-room c =
    let s = c.args.self.now in
    let e = c.args.edit.now in
    let n = c.in-Some.at in
    let row = c.row.result.now in
    let was = c.layers.ensures.kept in
    let is = data_is e c.args.layer c.requires in
    let place = ap (position (has_id c.args.layer)) (sym c.layers.ensures.layers) ∙ sym c.in-Some.ensures in
    let here = subst (λ l. slice_get l n ≡ Some row) c.layers-2.ensures.layers c.row.ensures in
    let held = c.contents.ensures.contents ∙ ap (λ (l : RevisedCore). l.core.contents) (c.value-was.ensures
    ∙ c.layer.ensures) in
    subst (λ (p : Room × Contents). HasRoom p.0 p.1) (λ i. (sym c.room.ensures.room i, sym held i))
    (has_room s e c.args.layer n was place row here is)

pub returns-in-Err-clause-answer : goal.returns-in-Err-clause-answer
returns-in-Err-clause-answer c =
    let s = c.args.self.now in
    let e = c.args.edit.now in
    let n = c.in-Some.at in
    let row = c.row.result.now in
    let was = c.layers.ensures.kept in
    let is = data_is e c.args.layer c.requires in
    let place = ap (position (has_id c.args.layer)) (sym c.layers.ensures.layers) ∙ sym c.in-Some.ensures in
    let here = subst (λ l. slice_get l n ≡ Some row) c.layers-2.ensures.layers c.row.ensures in
    let held = c.contents.ensures.contents ∙ ap (λ (l : RevisedCore). l.core.contents) (c.value-was.ensures
    ∙ c.layer.ensures) in
    let told : answer_to c.room.result (contents_seen c.contents.result.now) e
    ≡ refusal e row.layer.core.contents (is_spent s || full s e c.args.layer n was place row here is) =
    λ i. answer_to (c.room.ensures.room i) (held i) e in
    verdict_here s e c.args.layer n was place row here is ∙ sym told ∙ c.in-Err.ensures.answer

pub put-requires-clause-change : goal.put-requires-clause-change
put-requires-clause-change c =
    let s = c.args.self.now in
    let e = c.args.edit.now in
    let n = c.in-Some.at in
    let row = c.row.result.now in
    let was = c.layers.ensures.kept in
    let is = data_is e c.args.layer c.requires in
    let place = ap (position (has_id c.args.layer)) (sym c.layers.ensures.layers) ∙ sym c.in-Some.ensures in
    let here = subst (λ l. slice_get l n ≡ Some row) c.layers-2.ensures.layers c.row.ensures in
    let held = c.contents.ensures.contents ∙ ap (λ (l : RevisedCore). l.core.contents) (c.value-was.ensures
    ∙ c.layer.ensures) in
    let told : answer_to c.room.result (contents_seen c.contents.result.now) e
    ≡ refusal e row.layer.core.contents (is_spent s || full s e c.args.layer n was place row here is) =
    λ i. answer_to (c.room.ensures.room i) (held i) e in
    let calm = is.leaves row.layer.core.contents (is_spent s || full s e c.args.layer n was place row here is) (sym told
    ∙ c.in-Ok.ensures.answer) in
    let small = over_here s e c.args.layer n was place row here is
    ∙ or_right (is_spent s) (full s e c.args.layer n was place row here is) calm in
    let f : Core → Core = λ core. record core { contents = (changed e core.contents) } in
    let g : Core → Contents → Core = λ core contents. record core { contents = contents } in
    let P : RevisedCore → Type 0 = λ made. made ≡ record {
      core = g c.value-was.result.now.core (contents_seen c.in-Ok.contents);
      revision = c.next.result;
    } in
    let eq : ◌≡◌ {A = RevisedCore} (record {
      core = g c.value-was.result.now.core (contents_seen c.in-Ok.contents);
      revision = c.next.result;
    }) (record { core = f row.layer.core; revision = suc s.version }) = λ i. record {
      core = g (ap (λ (l : RevisedCore). l.core) (c.value-was.ensures ∙ c.layer.ensures) i)
          ((c.in-Ok.ensures.made ∙ ap (changed e) held) i);
      revision = c.next.ensures i;
    } in
    if_ok c.with_contents-made.result P (IsChange s n)
    (λ made made_is h. core_change s e c.args.layer n was place f row here refl small made (h ∙ eq))
    c.with_contents-made.ensures

pub returns-clause-answer : goal.returns-clause-answer
returns-clause-answer c =
    let s = c.args.self.now in
    let e = c.args.edit.now in
    let n = c.in-Some.at in
    let row = c.row.result.now in
    let was = c.layers.ensures.kept in
    let is = data_is e c.args.layer c.requires in
    let place = ap (position (has_id c.args.layer)) (sym c.layers.ensures.layers) ∙ sym c.in-Some.ensures in
    let here = subst (λ l. slice_get l n ≡ Some row) c.layers-2.ensures.layers c.row.ensures in
    let held = c.contents.ensures.contents ∙ ap (λ (l : RevisedCore). l.core.contents) (c.value-was.ensures
    ∙ c.layer.ensures) in
    let told : answer_to c.room.result (contents_seen c.contents.result.now) e
    ≡ refusal e row.layer.core.contents (is_spent s || full s e c.args.layer n was place row here is) =
    λ i. answer_to (c.room.ensures.room i) (held i) e in
    answered s e c.put.result (verdict_here s e c.args.layer n was place row here is ∙ sym told ∙ c.in-Ok.ensures.answer)
    c.put.ensures.version

pub returns-clause-ok : goal.returns-clause-ok
returns-clause-ok c =
    let s = c.args.self.now in
    let e = c.args.edit.now in
    let n = c.in-Some.at in
    let row = c.row.result.now in
    let was = c.layers.ensures.kept in
    let is = data_is e c.args.layer c.requires in
    let place = ap (position (has_id c.args.layer)) (sym c.layers.ensures.layers) ∙ sym c.in-Some.ensures in
    let here = subst (λ l. slice_get l n ≡ Some row) c.layers-2.ensures.layers c.row.ensures in
    let held = c.contents.ensures.contents ∙ ap (λ (l : RevisedCore). l.core.contents) (c.value-was.ensures
    ∙ c.layer.ensures) in
    let told : answer_to c.room.result (contents_seen c.contents.result.now) e
    ≡ refusal e row.layer.core.contents (is_spent s || full s e c.args.layer n was place row here is) =
    λ i. answer_to (c.room.ensures.room i) (held i) e in
    let calm = is.leaves row.layer.core.contents (is_spent s || full s e c.args.layer n was place row here is) (sym told
    ∙ c.in-Ok.ensures.answer) in
    let small = over_here s e c.args.layer n was place row here is
    ∙ or_right (is_spent s) (full s e c.args.layer n was place row here is) calm in
    let f : Core → Core = λ core. record core { contents = (changed e core.contents) } in
    let g : Core → Contents → Core = λ core contents. record core { contents = contents } in
    let P : RevisedCore → Type 0 = λ made. made ≡ record {
      core = g c.value-was.result.now.core (contents_seen c.in-Ok.contents);
      revision = c.next.result;
    } in
    let eq : ◌≡◌ {A = RevisedCore} (record {
      core = g c.value-was.result.now.core (contents_seen c.in-Ok.contents);
      revision = c.next.result;
    }) (record { core = f row.layer.core; revision = suc s.version }) = λ i. record {
      core = g (ap (λ (l : RevisedCore). l.core) (c.value-was.ensures ∙ c.layer.ensures) i)
          ((c.in-Ok.ensures.made ∙ ap (changed e) held) i);
      revision = c.next.ensures i;
    } in
    on_ok c.put.result _ _ (λ put. core_ok s e c.args.layer n was place f row here (λ core. refl) is.touches
    is.background (is.steps (map layer_of s.layers)) put.0
    (got_ok c.with_contents-made.result P put.0 put.1 c.with_contents-made.ensures ∙ eq) c.put.new.self put.2)
    c.put.ensures.made
