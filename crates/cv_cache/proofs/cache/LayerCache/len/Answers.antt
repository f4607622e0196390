use Rattle.std.proofs.Common.{◌≡◌, ◌∙◌, ◌≤◌, sym, ap, subst, nat_eq, Some, None, length, map}
use Rattle.std.specs.List.{IsDistinct}
use Rattle.cv_cache.specs.Caches.{CacheParts, painted_id, IsKeyedIn}
use Rattle.cv_cache.proofs.HeldLemmas.{seen_in, length_values, ids_are, none_apart}
use Rattle.cv_cache.proofs.cache.LayerCache.len.Goals as goal

pub returns-in-Some-clause-len : goal.returns-in-Some-clause-len
returns-in-Some-clause-len c =
    let was : seen_in (Some c.in-Some.images) ≡ c.args.self.now = ap seen_in (sym c.in-Some.is) ∙ c.self.view_is in
    c.count.ensures.len ∙ sym (length_values c.in-Some.images.entries)
    ∙ ap (λ (seen : CacheParts). length seen.paintings) was

pub returns-in-Some-clause-few : goal.returns-in-Some-clause-few
returns-in-Some-clause-few c =
    let was : seen_in (Some c.in-Some.images) ≡ c.args.self.now = ap seen_in (sym c.in-Some.is) ∙ c.self.view_is in
    subst (λ (seen : CacheParts). length seen.paintings ≤ seen.capacity) was
    (subst (λ n. n ≤ c.in-Some.images.cap) (sym (length_values c.in-Some.images.entries)) c.count.ensures.few)

pub returns-in-Some-clause-apart : goal.returns-in-Some-clause-apart
returns-in-Some-clause-apart c =
    let was : seen_in (Some c.in-Some.images) ≡ c.args.self.now = ap seen_in (sym c.in-Some.is) ∙ c.self.view_is in
    subst (λ (seen : CacheParts). IsDistinct nat_eq (map painted_id seen.paintings)) was
    (subst (IsDistinct nat_eq) (sym (ids_are c.in-Some.images.entries (subst IsKeyedIn c.in-Some.is c.self.invariant)))
    c.count.ensures.apart)

pub returns-in-None-clause-apart : goal.returns-in-None-clause-apart
returns-in-None-clause-apart c =
    let was : seen_in None ≡ c.args.self.now = ap seen_in (sym c.in-None.is) ∙ c.self.view_is in
    subst (λ (seen : CacheParts). IsDistinct nat_eq (map painted_id seen.paintings)) was none_apart
