use Rattle.std.proofs.Common.{◌≡◌, ◌∙◌, ap, sym, subst, Some, length, ◌<◌}
use Rattle.std.specs.Prelude.{insert, remove, slice_get}
use Rattle.cv_store.specs.Maps.{rows_of, IsLayerMap}
use Rattle.cv_store.proofs.Lists.{got}
use Rattle.cv_store.proofs.MapLemmas.{map_move, rows_move}
use Rattle.cv_store.proofs.layers.LayerMap.shift.Goals as goal

pub invariant_of-self : goal.invariant_of-self
invariant_of-self c =
    let es = c.self.inside.rows.entries in
    let found = got (rows_of es) c.args.from (subst (λ l. c.args.from < length l) (sym c.self.view_is) c.requires.0) in
    subst (λ l. IsLayerMap l c.self.inside.sums) (sym c.move_index.ensures.entries)
    (map_move es c.self.inside.sums c.args.from c.args.to found.0 c.self.invariant found.1)

pub returns : goal.returns
returns c = λ row at.
    let es = c.self.inside.rows.entries in
    let here = subst (λ l. slice_get l c.args.from ≡ Some row) (sym c.self.view_is) at in
    ap rows_of c.move_index.ensures.entries
    ∙ rows_move es c.args.from c.args.to row c.self.invariant.keyed here
    ∙ ap (λ l. insert (remove l c.args.from) c.args.to row) c.self.view_is
