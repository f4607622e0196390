-- Each turn passes a layer, or adds it with its image.
use Rattle.std.proofs.Common.{◌≡◌, ◌∙◌, sym, subst, ◌+◌, ◌-◌, ◌++◌, ◌∷◌, [], List, Option, arith, rules}
use Rattle.cv_model.specs.Paintings.{Painting, SlotFrame}
use Rattle.cv_store.specs.Stores.{input_in}
use Rattle.cv_map.proofs.SlotLemmas.{Along, passed, added, painting_of}
use Rattle.cv_map.proofs.slots.paint_slots.Goals as goal

pub loop-at-preserved-in_default : goal.loop-at-preserved-in_default
loop-at-preserved-in_default c =
    let l = c.loop-at in
    let one : l.at ≡ (l.at - 1) + 1 = let t = c.loop-at-test.true in omega arith in
    passed c.args.store.now c.args.view.now l.slots l.layers (l.at - 1)
    (subst (Along c.args.store.now c.args.view.now l.slots l.layers) one l.invariant)
    (sym c.slot_at.ensures ∙ c.in_default.is)

pub loop-at-preserved : goal.loop-at-preserved
loop-at-preserved c =
    let l = c.loop-at in
    let one : l.at ≡ (l.at - 1) + 1 = let t = c.loop-at-test.true in omega arith in
    let frames : c.put.new.self ≡ l.slots ++ record { id = c.in-Some.frame.id; opacity = c.in-Some.frame.opacity; blend = c.in-Some.frame.blend } ∷ [] =
    search rules in
    let images : c.put-in-loop-at.new.self ≡ l.layers ++ painting_of c.args.view.now (input_in c.args.store.now c.in-Some.frame.id) ∷ [] =
    search rules in
    subst (λ (f : List SlotFrame). Along c.args.store.now c.args.view.now f c.put-in-loop-at.new.self (l.at - 1)) (sym frames)
    (subst (λ (i : List (Option Painting)). Along c.args.store.now c.args.view.now
    (l.slots ++ record { id = c.in-Some.frame.id; opacity = c.in-Some.frame.opacity; blend = c.in-Some.frame.blend } ∷ []) i (l.at - 1)) (sym images)
    (added c.args.store.now c.args.view.now l.slots l.layers (l.at - 1) c.in-Some.frame
    (subst (Along c.args.store.now c.args.view.now l.slots l.layers) one l.invariant)
    (sym c.slot_at.ensures ∙ c.in-Some.is)))
