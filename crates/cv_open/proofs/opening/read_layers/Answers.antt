-- Each turn reads the next layer, or ends the reads.
use Rattle.std.proofs.Common.{◌≡◌, ◌+◌, ◌∷◌, ◌++◌, List, [], drop, refl, sym, ap, subst, ◌∙◌, arith, rules}
use Rattle.std.proofs.lemmas.List.{drop_more}
use Rattle.cv_outside.specs.Seen.{shelf_seen}
use Rattle.cv_model.specs.declared.layer.LayerData.{LayerData}
use Rattle.cv_open.specs.declared.room.Left.{Left}
use Rattle.cv_open.specs.Opened.{layers_read}
use Rattle.cv_open.specs.Readings.{LeadsTo}
use Rattle.cv_open.specs.Rooms.{all_left}
use Rattle.cv_open.proofs.OpenedLemmas.{layer_led, layer_ended}
use Rattle.cv_open.proofs.ReadingLemmas.{stays, shelf_stays, stands_on}
use Rattle.cv_open.proofs.opening.read_layers.Goals as goal

pub loop-layer-init : goal.loop-layer-init
loop-layer-init g c =
    let shelf = shelf_seen g.F.Shelf c.args.shelf.now in
    let all = layers_read 0 all_left [] c.args.layers.now in record {
      at = refl;
      few = c.requires;
      stands = shelf_stays shelf;
      leads =
          subst (λ (left : Left). LeadsTo all (layers_read 0 left c.new-contents.result c.args.layers.now) shelf shelf) (sym c.all-left.ensures)
          (subst (λ (contents : List LayerData). LeadsTo all (layers_read 0 all_left contents c.args.layers.now) shelf shelf) (sym c.new-contents.ensures)
          (stays all shelf));
    }

pub returns-then-is_err-clause-read : goal.returns-then-is_err-clause-read
returns-then-is_err-clause-read g c =
    let l = c.loop-layer in
    let xs = c.args.layers.now in
    let x = c.layer-item.result in
    let here : drop l.layer-index xs ≡ x ∷ drop (l.layer-index + 1) xs = drop_more xs l.layer-index x (omega arith)
    ∙ ap (λ y. y ∷ drop (l.layer-index + 1) xs) (sym c.layer-item.is) in (
      layers_read (l.place + 1) c.in-Ok.read.left (l.contents ++ c.in-Ok.read.contents ∷ []) (drop (l.layer-index + 1) xs),
      layer_led (layers_read 0 all_left [] xs) l.place l.left l.contents (drop l.layer-index xs) (drop (l.layer-index + 1) xs) x
          (shelf_seen g.F.Shelf c.args.shelf.now) (shelf_seen g.F.Shelf l.shelf) (shelf_seen g.F.Shelf c.read_layer.new.shelf)
          c.in-Ok.read here l.invariant.stands l.invariant.leads c.in-Ok.ensures.read,
    )

pub returns-in-Err-clause-read : goal.returns-in-Err-clause-read
returns-in-Err-clause-read g c =
    let l = c.loop-layer in
    let xs = c.args.layers.now in
    let x = c.layer-item.result in
    let here : drop l.layer-index xs ≡ x ∷ drop (l.layer-index + 1) xs = drop_more xs l.layer-index x (omega arith)
    ∙ ap (λ y. y ∷ drop (l.layer-index + 1) xs) (sym c.layer-item.is) in
    layer_ended (layers_read 0 all_left [] xs) l.place l.left l.contents (drop l.layer-index xs) (drop (l.layer-index + 1) xs) x
    (shelf_seen g.F.Shelf c.args.shelf.now) (shelf_seen g.F.Shelf l.shelf) (shelf_seen g.F.Shelf c.read_layer.new.shelf)
    c.in-Err.end here l.invariant.stands l.invariant.leads c.in-Err.ensures.read

pub loop-layer-preserved : goal.loop-layer-preserved
loop-layer-preserved g c =
    let l = c.loop-layer in
    let xs = c.args.layers.now in
    let x = c.layer-item.result in
    let here : drop l.layer-index xs ≡ x ∷ drop (l.layer-index + 1) xs = drop_more xs l.layer-index x (omega arith)
    ∙ ap (λ y. y ∷ drop (l.layer-index + 1) xs) (sym c.layer-item.is) in
    let old = shelf_seen g.F.Shelf c.args.shelf.now in
    let half = shelf_seen g.F.Shelf l.shelf in
    let new = shelf_seen g.F.Shelf c.read_layer.new.shelf in
    let all = layers_read 0 all_left [] xs in
    let kept : c.put.new.self ≡ l.contents ++ c.in-Ok.read.contents ∷ [] = search rules in record {
      at = ap (λ n. n + 1) l.invariant.at;
      few = l.invariant.few;
      stands = stands_on old half new l.invariant.stands c.in-Ok.ensures.stands;
      leads =
          subst (λ (contents : List LayerData). LeadsTo all (layers_read (l.place + 1) c.in-Ok.read.left contents (drop (l.layer-index + 1) xs)) old new) (sym kept)
          (layer_led all l.place l.left l.contents (drop l.layer-index xs) (drop (l.layer-index + 1) xs) x old half new
          c.in-Ok.read here l.invariant.stands l.invariant.leads c.in-Ok.ensures.read);
    }
