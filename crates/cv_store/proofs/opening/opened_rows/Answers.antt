use Rattle.std.proofs.Common.{◌≡◌, ◌∙◌, sym, ap, subst, ◌∷◌, ◌++◌, map, List}
use Rattle.std.specs.Prelude.{zip, nat_eq}
use Rattle.std.specs.List.{IsDistinct, list_any}
use Rattle.std.specs.Vec.Iter.{into_iter_items}
use Rattle.cv_store.specs.Stores.{RevisedLayer, id_of, has_id}
use Rattle.cv_store.specs.Opened.{FileRow, opened_row}
use Rattle.cv_store.proofs.Openings.{ids_opened, fresh}
use Rattle.cv_store.proofs.opening.opened_rows.Goals as goal

pub insert-requires-clause-fresh : goal.insert-requires-clause-fresh
insert-requires-clause-fresh c =
    let at = c.loop-file in
    let row : FileRow = (c.in-Some.file, c.in-Some-next.data) in
    let files = into_iter_items c.next.new.self in
    let datas = into_iter_items c.next-in-loop-file.new.self in
    let zipped : zip (into_iter_items at.file-iterator) (into_iter_items at.rest) ≡ row ∷ zip files datas =
    λ i. zip (c.in-Some.ensures.steps.0 i) (c.in-Some-next.ensures.items i) in
    let all = zip c.args.files.items c.args.contents.items in
    let whole = ap (λ (z : List FileRow). at.made ++ map opened_row z) (sym zipped) ∙ at.invariant.0 in
    let distinct = subst (IsDistinct nat_eq) (sym (ap (map id_of) whole ∙ ids_opened all)) c.requires.distinct in
    ap (λ (r : RevisedLayer). list_any (has_id (id_of r)) at.made) c.in_ok-row.ensures
    ∙ fresh at.made (opened_row row) (map opened_row (zip files datas)) distinct
