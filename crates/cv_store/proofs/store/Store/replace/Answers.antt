use Rattle.std.proofs.Common.{◌≡◌, ◌∙◌, ap, sym, subst, Some, length, ◌<◌, arith, map, set, suc, ◌+◌, false}
use Rattle.std.specs.Prelude.{slice_get}
use Rattle.cv_model.specs.Edits.{is_over}
use Rattle.cv_store.specs.Stores.{StoreParts, layer_of, with_core, IsStore}
use Rattle.cv_store.proofs.Lists.{got}
use Rattle.cv_store.proofs.Kept.{kept_set}
use Rattle.cv_store.proofs.store.Store.replace.Goals as goal

pub invariant_of-self-2 : goal.invariant_of-self-2
invariant_of-self-2 c =
    let was : StoreParts = record {
      background = c.self.inside.background;
      layers = c.self.inside.layers;
      version = c.self.inside.version;
    } in
    let later = c.self.inside.version + 1 in
    let next : later ≡ suc was.version = omega arith in
    let found = got was.layers c.args.at (subst (λ (s : StoreParts). c.args.at < length s.layers) (sym
    c.self.view_is) c.requires.within) in
    let row = found.0 in
    let seen = subst (λ (s : StoreParts). slice_get s.layers c.args.at ≡ Some row) c.self.view_is found.1 in
    let new = with_core c.args.layer row in
    let revised = c.requires.revised ∙ ap (λ (s : StoreParts). suc s.version) (sym c.self.view_is) in
    subst (λ l. IsStore (record { background = was.background; layers = l; version = later })) (sym (c.in_ok-set_layer.ensures.ok row found.1))
    (kept_set was was.background later c.self.invariant next c.args.at row new found.1 (c.requires.same row seen)
    (omega (arith, revised), omega (arith, revised))
    (subst (λ (s : StoreParts). is_over (set (map layer_of s.layers) c.args.at new.layer) ≡ false) (sym
    c.self.view_is) (c.requires.small row seen)))
