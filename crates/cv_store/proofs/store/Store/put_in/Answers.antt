use Rattle.std.proofs.Common.{◌≡◌, ◌∙◌, ap, sym, subst, arith, map, insert, suc, ◌+◌, false}
use Rattle.std.specs.List.{list_any}
use Rattle.cv_model.specs.Edits.{is_over}
use Rattle.cv_store.specs.Stores.{StoreParts, layer_of, id_of, IsStore}
use Rattle.cv_store.proofs.Lists.{has, lacks_any}
use Rattle.cv_store.proofs.Kept.{kept_insert}
use Rattle.cv_store.proofs.store.Store.put_in.Goals as goal

pub invariant_of-self-2 : goal.invariant_of-self-2
invariant_of-self-2 c =
    let was : StoreParts = record {
      background = c.self.inside.background;
      layers = c.self.inside.layers;
      version = c.self.inside.version;
    } in
    let later = c.self.inside.version + 1 in
    let next : later ≡ suc was.version = omega arith in
    let revised = c.requires.revised ∙ ap (λ (s : StoreParts). suc s.version) (sym c.self.view_is) in
    let fresh = subst (λ (s : StoreParts). list_any (has id_of (id_of c.args.row)) s.layers ≡ false) (sym
    c.self.view_is) c.requires.fresh in
    subst (λ l. IsStore (record { background = was.background; layers = l; version = later })) (sym c.in_ok-insert.ensures.ok)
    (kept_insert was was.background later c.self.invariant next c.args.at c.args.row (lacks_any id_of (id_of c.args.row)
    was.layers fresh)
    (omega (arith, revised), omega (arith, revised))
    (subst (λ (s : StoreParts). is_over (insert (map layer_of s.layers) c.args.at c.args.row.layer) ≡ false) (sym
    c.self.view_is) c.requires.small))
