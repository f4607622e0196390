use Rattle.std.proofs.Common.{◌≡◌, sym, subst, refl, length, ◌<◌, arith, map, suc, ◌+◌}
use Rattle.cv_store.specs.Stores.{StoreParts, layer_of, with_frame, IsStore}
use Rattle.cv_store.proofs.Lists.{got}
use Rattle.cv_store.proofs.MapLemmas.{layer_at}
use Rattle.cv_store.proofs.Kept.{kept_set, over_set, all_at, IsRevised}
use Rattle.cv_store.proofs.store.Store.reframe.Goals as goal

pub invariant_of-self : goal.invariant_of-self
invariant_of-self c =
    let was : StoreParts = record {
      background = c.self.inside.background;
      layers = c.self.inside.layers;
      version = c.self.inside.version;
    } in
    let later = c.self.inside.version + 1 in
    let next : later ≡ suc was.version = omega arith in
    let found = got was.layers c.args.at (subst (λ (s : StoreParts). c.args.at < length s.layers) (sym
    c.self.view_is) c.requires.within) in
    let row = found.0 in
    let new = with_frame c.args.frame row in
    subst (λ l. IsStore (record { background = was.background; layers = l; version = later })) (sym (c.set_frame.ensures row found.1))
    (kept_set was was.background later c.self.invariant next c.args.at row new found.1 refl
    (let r = all_at (IsRevised was.version) was.layers c.args.at row c.self.invariant.revised found.1 in
    (r.0, let below = r.1 in omega (arith, below)))
    (over_set (map layer_of was.layers) c.args.at row.layer new.layer c.self.invariant.within (layer_at was.layers
    c.args.at row found.1) refl))
