use Rattle.std.proofs.Common.{◌≡◌, ◌∙◌, ap, sym, subst, Some, List}
use Rattle.std.specs.Prelude.{position, slice_get, option_map}
use Rattle.cv_store.specs.Stores.{RevisedLayer, id_of, has_id, core_of}
use Rattle.cv_store.proofs.Lists.{at_position, find_at, find_lacks, lacks_position}
use Rattle.cv_store.proofs.store.Store.found.Goals as goal

pub returns-in-Some : goal.returns-in-Some
returns-in-Some c =
    let rows = c.args.self.now.layers in
    let place = ap (position (has_id c.args.id)) (sym c.layers.ensures.layers) ∙ sym c.in-Some.ensures in
    let here = subst (λ (l : List RevisedLayer). slice_get l c.in-Some.at ≡ Some c.row.result.now)
    c.layers-in-Some.ensures.layers c.row.ensures in
    ap Some c.layer.ensures
    ∙ sym (ap (option_map core_of) (find_at id_of c.args.id rows c.in-Some.at c.row.result.now (at_position id_of
    c.args.id rows c.in-Some.at place) here))

pub returns-in-None : goal.returns-in-None
returns-in-None c =
    let rows = c.args.self.now.layers in
    let none = ap (position (has_id c.args.id)) (sym c.layers.ensures.layers) ∙ sym c.find.ensures ∙ c.in-None.is in
    sym (ap (option_map core_of) (find_lacks id_of c.args.id rows (lacks_position id_of c.args.id rows none)))
