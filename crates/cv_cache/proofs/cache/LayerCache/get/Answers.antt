use Rattle.std.proofs.Common.{◌≡◌, ◌∙◌, sym, ap, subst, Some, IfOk, OnErr}
use Rattle.cv_model.specs.Paintings.{Painting}
use Rattle.cv_layer.specs.Stamps.{stamp_list}
use Rattle.cv_cache.specs.Caches.{Looked, Serves, IsKeyedIn}
use Rattle.cv_cache.proofs.HeldLemmas.{seen_in, looked_ok, looked_err, looked_keyed}
use Rattle.cv_cache.proofs.cache.LayerCache.get.Goals as goal

pub invariant_of-self-2 : goal.invariant_of-self-2
invariant_of-self-2 c =
    looked_keyed c.in-Some.images c.get.new.images c.args.layer (stamp_list c.args.stamps.now) c.args.view.now c.get.result
    (subst IsKeyedIn c.in-Some.is c.self.invariant) c.get.ensures.err c.get.ensures.ok

pub returns-clause-ok : goal.returns-clause-ok
returns-clause-ok c =
    let was : seen_in (Some c.in-Some.images) ≡ c.args.self.now = ap seen_in (sym c.in-Some.is) ∙ c.self.view_is in
    subst (λ old. IfOk c.get.result (Looked old (seen_in (Some c.get.new.images)) c.args.layer (stamp_list c.args.stamps.now) c.args.view.now)) was
    (looked_ok c.in-Some.images c.get.new.images c.args.layer (stamp_list c.args.stamps.now) c.args.view.now c.get.result
    (subst IsKeyedIn c.in-Some.is c.self.invariant) c.get.ensures.ok)

pub returns-clause-err : goal.returns-clause-err
returns-clause-err c =
    let was : seen_in (Some c.in-Some.images) ≡ c.args.self.now = ap seen_in (sym c.in-Some.is) ∙ c.self.view_is in
    subst (λ old. OnErr c.get.result ((seen_in (Some c.get.new.images) ≡ old) × (p : Painting) × Serves old c.args.layer (stamp_list c.args.stamps.now) c.args.view.now p)) was
    (looked_err c.in-Some.images c.get.new.images c.args.layer (stamp_list c.args.stamps.now) c.args.view.now c.get.result
    (subst IsKeyedIn c.in-Some.is c.self.invariant) c.get.ensures.err)
