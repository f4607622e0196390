use Rattle.std.proofs.Common.{◌≡◌, sym, subst, length, ◌<◌, arith, suc, ◌+◌}
use Rattle.cv_store.specs.Stores.{StoreParts, IsStore}
use Rattle.cv_store.proofs.Lists.{got}
use Rattle.cv_store.proofs.Kept.{kept_move}
use Rattle.cv_store.proofs.store.Store.shift.Goals as goal

pub invariant_of-self : goal.invariant_of-self
invariant_of-self c =
    let was : StoreParts = record {
      background = c.self.inside.background;
      layers = c.self.inside.layers;
      version = c.self.inside.version;
    } in
    let later = c.self.inside.version + 1 in
    let next : later ≡ suc was.version = omega arith in
    let found = got was.layers c.args.from (subst (λ (s : StoreParts). c.args.from < length s.layers) (sym
    c.self.view_is) c.requires.within.0) in
    let row = found.0 in
    subst (λ l. IsStore (record { background = was.background; layers = l; version = later })) (sym (c.shift.ensures row found.1))
    (kept_move was was.background later c.self.invariant next c.args.from c.args.to row found.1)
