use Rattle.std.proofs.Common.{◌≡◌, ◌∙◌, sym, ap, subst, Some, OnOk}
use Rattle.cv_cache.specs.Caches.{CacheParts, put_front, IsKeyedIn}
use Rattle.cv_cache.proofs.HeldLemmas.{seen_in, put_ok, put_keyed}
use Rattle.cv_cache.proofs.cache.LayerCache.put.Goals as goal

pub invariant_of-self-2 : goal.invariant_of-self-2
invariant_of-self-2 c =
    put_keyed c.in-Some.images c.put.new.images c.args.painted c.put.result
    (subst IsKeyedIn c.in-Some.is c.self.invariant) c.put.ensures.ok c.put.ensures.err

pub returns-clause-ok : goal.returns-clause-ok
returns-clause-ok c =
    let was : seen_in (Some c.in-Some.images) ≡ c.args.self.now = ap seen_in (sym c.in-Some.is) ∙ c.self.view_is in
    subst (λ (old : CacheParts). OnOk c.put.result (seen_in (Some c.put.new.images) ≡ record { paintings = put_front old.capacity c.args.painted old.paintings; capacity = old.capacity })) was
    (put_ok c.in-Some.images c.put.new.images c.args.painted c.put.result
    (subst IsKeyedIn c.in-Some.is c.self.invariant) c.put.ensures.few c.put.ensures.some c.put.ensures.ok)
