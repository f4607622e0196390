-- Pans compose, so that a cache's images stay at pans of the present view.
use Rattle.std.proofs.Common.{◌≡◌, ◌∙◌, sym, ap, refl, subst, ℕ, suc, ◌+◌, ◌-◌, ◌*◌, ◌%◌, ◌==◌, Bool, true, false}
use Rattle.std.proofs.Common.{◌&&◌, List, [], ◌∷◌, Option, Some, None, is_some, slice_get, option_map, option_and_then}
use Rattle.std.proofs.Common.{IsSomeAnd, fold, arith, if◌then◌else◌, ℤ, pos, negsuc, ◌+ℤ◌, ◌-ℤ◌, unsigned_abs}
use Rattle.std.specs.List.{AllByRecursion}
use Rattle.std.specs.Option.{option_or, option_map_or}
use Rattle.std.specs.Ordering.{int_eq}
use Rattle.std.specs.Int.{◌∣◌}
use Rattle.std.proofs.Math.Nat.{dvd-add, dvd-sub, zero-mod}
use Rattle.std.proofs.lemmas.Bool.{and_parts, false≢true, eqb-true}
use Rattle.std.proofs.lemmas.Bool.Decides.{Decides-int_eq}
use Rattle.std.proofs.lemmas.Int.{ints}
use Rattle.std.proofs.lemmas.Nat.Gcd.{dvd_of_mod-eq-zero, mod-eq-zero_of_dvd}
use Rattle.cv_model.specs.declared.edit.Edit.{Edit}
use Rattle.cv_model.specs.declared.edit.EditError.{EditError}
use Rattle.cv_model.specs.Views.{PixelGrid, natural}
use Rattle.cv_model.specs.Pans.{whole_steps, are_alike, pan_of, is_pan}
use Rattle.cv_event.specs.declared.entry.Act.{Act}
use Rattle.cv_event.specs.declared.entry.Act.TheVariants as act
use Rattle.cv_event.specs.declared.entry.Entry.{Entry}
use Rattle.cv_event.specs.declared.entry.Fate.TheVariants.{Stored, Kept, Dropped}
use Rattle.cv_event.specs.declared.entry.How.{How}
use Rattle.cv_event.specs.declared.slot.Slot.{Slot}
use Rattle.cv_event.specs.declared.slot.Standing.TheVariants.{Missed}
use Rattle.cv_event.specs.States.{Job, Cached, Canvas, State, job_in, view_on, stays, keeps_cache, image_of_slot}
use Rattle.cv_event.specs.States.{did, after, begin}
use Rattle.cv_event.specs.Legality.{is_view, shows, is_fresh, on_canvas, is_taken, fate_of, Allows, LegalFrom}
use Rattle.cv_event.specs.Histories.{view_given, cached, image_on, cache_behind}
use Rattle.cv_event.specs.ViewLaws.{IsPannedTo, CachedViewsArePans}
use Rattle.cv_event.proofs.CacheLemmas.{cache_of_one_canvas}
use Rattle.cv_event.proofs.PresentLemmas.{all_same, all_filter, behind_looked, behind_delivered, empty_at}
use Rattle.cv_event.proofs.TakenLemmas.{view_one}

-- ---- pans

-- a distance is filled by whole steps of this length
abbrev is_filled : ℕ → ℤ → Bool
is_filled length distance = unsigned_abs distance % length == 0

steps_there : (length : ℕ) (distance : ℤ) → is_some (whole_steps length distance) ≡ is_filled length distance
steps_there length distance = by (is_filled length distance) _ _ _
  where
    by : (t n : Bool) (p q : ℤ) → is_some (if t then (if n then Some p else Some q) else None) ≡ t
    by true true p q = refl
    by true false p q = refl
    by false n p q = refl

-- a pan in words: pixels and sizes are the same, and whole steps fill both distances
abbrev is_moved : PixelGrid → PixelGrid → Bool
is_moved a b =
    are_alike a b
    && (is_filled (2 * natural a.u) (b.lx2 -ℤ a.lx2) && is_filled (2 * natural a.u) (a.ty2 -ℤ b.ty2))

pan_is : (a b : PixelGrid) → is_pan a b ≡ is_moved a b
unfolding pan_of
pan_is a b =
    by (are_alike a b) (whole_steps (2 * natural a.u) (b.lx2 -ℤ a.lx2)) (whole_steps (2 * natural a.u) (a.ty2 -ℤ b.ty2))
    ∙ λ i. are_alike a b && (steps_there (2 * natural a.u) (b.lx2 -ℤ a.lx2) i && steps_there (2 * natural a.u) (a.ty2 -ℤ b.ty2) i)
  where
    by : (t : Bool) (x y : Option ℤ)
        → is_some {T = ℤ × ℤ} (if t then option_and_then (λ dx. option_map (λ dy. (dx, dy)) y) x else None)
        ≡ (t && (is_some x && is_some y))
    by false x y = refl
    by true None y = refl
    by true (Some dx) None = refl
    by true (Some dx) (Some dy) = refl

-- the distance of a sum
sum_filled : (m : ℕ) (x y z : ℤ) → z ≡ x +ℤ y → m ∣ unsigned_abs x → m ∣ unsigned_abs y → m ∣ unsigned_abs z
sum_filled m (pos a) (pos b) z e p q = subst (λ n. m ∣ n) (sym (same z e)) (dvd-add m p q)
  where
    same : (z : ℤ) → z ≡ pos a +ℤ pos b → unsigned_abs z ≡ a + b
    same (pos n) e = omega (arith, ints, e)
    same (negsuc n) e = absurd (omega (arith, ints, e))
sum_filled m (negsuc a) (negsuc b) z e p q = subst (λ n. m ∣ n) (sym (same z e)) (dvd-add m p q)
  where
    same : (z : ℤ) → z ≡ negsuc a +ℤ negsuc b → unsigned_abs z ≡ suc a + suc b
    same (pos n) e = absurd (omega (arith, ints, e))
    same (negsuc n) e = omega (arith, ints, e)
sum_filled m (pos a) (negsuc b) z e p q =
    subst (λ n. m ∣ n) (sym (same z e)) (dvd-add m (dvd-sub m p q) (dvd-sub m q p))
  where
    same : (z : ℤ) → z ≡ pos a +ℤ negsuc b → unsigned_abs z ≡ (a - suc b) + (suc b - a)
    same (pos n) e = omega (arith, ints, e)
    same (negsuc n) e = omega (arith, ints, e)
sum_filled m (negsuc a) (pos b) z e p q =
    subst (λ n. m ∣ n) (sym (same z e)) (dvd-add m (dvd-sub m q p) (dvd-sub m p q))
  where
    same : (z : ℤ) → z ≡ negsuc a +ℤ pos b → unsigned_abs z ≡ (b - suc a) + (suc a - b)
    same (pos n) e = omega (arith, ints, e)
    same (negsuc n) e = omega (arith, ints, e)

filled_more : (length : ℕ) (x y z : ℤ) → z ≡ x +ℤ y → is_filled length x ≡ true → is_filled length y ≡ true
    → is_filled length z ≡ true
filled_more length x y z e p q =
    let one = dvd_of_mod-eq-zero length (eqb-true (unsigned_abs x % length) 0 p) in
    let other = dvd_of_mod-eq-zero length (eqb-true (unsigned_abs y % length) 0 q) in
    ap (λ n. n == 0) (mod-eq-zero_of_dvd length (sum_filled length x y z e one other))

-- pixels of one side and one size
alike_is : (a b : PixelGrid) → are_alike a b ≡ true → (a.u ≡ b.u) × (a.w ≡ b.w) × (a.h ≡ b.h)
alike_is a b h =
    let units = and_parts (int_eq a.u b.u) _ h in
    let sizes = and_parts (a.w == b.w) (a.h == b.h) units.1 in
    ((Decides-int_eq a.u b.u).0 units.0, eqb-true a.w b.w sizes.0, eqb-true a.h b.h sizes.1)

-- a pan of a pan is one
pub pan_more : (a b c : PixelGrid) → is_pan a b ≡ true → is_pan b c ≡ true → is_pan a c ≡ true
pan_more a b c p q =
    let one = and_parts (are_alike a b) _ (sym (pan_is a b) ∙ p) in
    let other = and_parts (are_alike b c) _ (sym (pan_is b c) ∙ q) in
    let moved = and_parts (is_filled (2 * natural a.u) (b.lx2 -ℤ a.lx2)) (is_filled (2 * natural a.u) (a.ty2 -ℤ b.ty2)) one.1 in
    let same = alike_is a b one.0 in
    let alike : are_alike a c ≡ true =
    (λ i. int_eq (same.0 i) c.u && (same.1 i == c.w && same.2 i == c.h)) ∙ other.0 in
    let then_moved : (is_filled (2 * natural a.u) (c.lx2 -ℤ b.lx2) && is_filled (2 * natural a.u) (b.ty2 -ℤ c.ty2)) ≡ true =
    (λ i. is_filled (2 * natural (same.0 i)) (c.lx2 -ℤ b.lx2) && is_filled (2 * natural (same.0 i)) (b.ty2 -ℤ c.ty2)) ∙ other.1 in
    let further = and_parts (is_filled (2 * natural a.u) (c.lx2 -ℤ b.lx2)) (is_filled (2 * natural a.u) (b.ty2 -ℤ c.ty2)) then_moved in
    let across = filled_more (2 * natural a.u) (b.lx2 -ℤ a.lx2) (c.lx2 -ℤ b.lx2) (c.lx2 -ℤ a.lx2) (omega (arith, ints)) moved.0 further.0 in
    let down = filled_more (2 * natural a.u) (a.ty2 -ℤ b.ty2) (b.ty2 -ℤ c.ty2) (a.ty2 -ℤ c.ty2) (omega (arith, ints)) moved.1 further.1 in
    pan_is a c ∙ λ i. alike i && (across i && down i)

-- a view is a pan of itself
none_filled : (length : ℕ) (x : ℤ) → is_filled length (x -ℤ x) ≡ true
none_filled length x =
    let none : x -ℤ x ≡ pos 0 = omega (arith, ints) in
    ap (is_filled length) none ∙ ap (λ n. n == 0) (zero-mod length)

pan_self : (v : PixelGrid) → are_alike v v ≡ true → is_pan v v ≡ true
pan_self v alike =
    pan_is v v
    ∙ λ i. alike i && (none_filled (2 * natural v.u) v.lx2 i && none_filled (2 * natural v.u) v.ty2 i)

pub view_same : (a b : PixelGrid) → is_view a b ≡ true → a ≡ b
view_same a b h =
    let parts = and_parts (are_alike a b) _ h in
    let corner = and_parts (int_eq a.lx2 b.lx2) (int_eq a.ty2 b.ty2) parts.1 in
    let left = (Decides-int_eq a.lx2 b.lx2).0 corner.0 in
    let top = (Decides-int_eq a.ty2 b.ty2).0 corner.1 in
    let size = alike_is a b parts.0 in
    λ i. record { lx2 = left i; ty2 = top i; u = size.0 i; w = size.1 i; h = size.2 i }

view_pan : (a b : PixelGrid) → is_view a b ≡ true → is_pan a b ≡ true
view_pan a b h =
    let parts = and_parts (are_alike a b) _ h in
    let same = view_same a b h in
    ap (λ v. is_pan v b) same ∙ pan_self b (ap (λ v. are_alike v b) (sym same) ∙ parts.0)

-- ---- a cache

-- another view keeps what it is a pan of
viewed : (b : Bool) (v : Option PixelGrid) (view : PixelGrid) (cache : List Cached)
    → AllByRecursion (IsPannedTo v) cache
    → AllByRecursion (IsPannedTo (option_or (if b then Some view else None) v))
    (if b then (if keeps_cache v view then cache else []) else cache)
viewed false v view cache h = h
viewed true None view cache h = tt
viewed true (Some old) view cache h = by (is_pan old view) refl
  where
    by : (k : Bool) → is_pan old view ≡ k → AllByRecursion (IsPannedTo (Some view)) (if k then cache else [])
    by true e =
        all_same (IsPannedTo (Some old)) (IsPannedTo (Some view)) (λ image p. pan_more image.view old view p e) cache h
    by false e = tt

edited : (s : State) (c : ℕ) (e : Edit) (v : Option EditError) → AllByRecursion (IsPannedTo (view_on s c)) (cached s c)
    → AllByRecursion (IsPannedTo (view_on s c)) (cache_behind s c (act.Edit e v) (cached s c))
edited s c e None h =
    all_filter (IsPannedTo (view_on s c)) (IsPannedTo (view_on s c)) (stays s.project e) (λ image left p. p) (cached s c) h
edited s c e (Some error) h = h

-- what is stored is at its canvas's view
stored_shows : (s : State) (job : Job) (slot : Slot) → Stored ≡ fate_of s job slot
    → IsPannedTo (view_on s job.canvas) (image_of_slot job slot)
stored_shows s job slot h = by job.ended h
  where
    at_view : (o : Option PixelGrid) → option_map_or (is_view job.view) o false ≡ true
        → IsPannedTo o (image_of_slot job slot)
    at_view None h = absurd (false≢true h)
    at_view (Some v) h = view_pan job.view v h

    on : (o : Option Canvas) → option_map_or (λ canvas. is_taken canvas job slot) o false ≡ true
        → IsPannedTo (option_and_then (λ (k : Canvas). k.view) o) (image_of_slot job slot)
    on None h = absurd (false≢true h)
    on (Some canvas) h =
        at_view canvas.view (and_parts (shows canvas job.view) _ (and_parts (is_fresh canvas job slot) _ h).0).0

    kept : (b : Bool) → Stored ≡ (if b then Stored else Kept) → b ≡ true
    kept true h = refl
    kept false h = absurd cc

    by : (o : Option How) → Stored ≡ (if is_some o then Dropped else if on_canvas is_taken s job slot then Stored else Kept)
        → IsPannedTo (view_on s job.canvas) (image_of_slot job slot)
    by None h = on (slice_get s.canvases job.canvas) (kept (on_canvas is_taken s job slot) h)
    by (Some g) h = absurd cc

stored_pan : (s : State) (who c j at : ℕ) (image : Cached) → Allows s who (act.Deliver j at Stored)
    → image_on s c j at ≡ Some image → IsPannedTo (view_on s c) image
stored_pan s who c j at image allowed is = by (job_in s.jobs j) allowed is
  where
    of_slot : (job : Job) (o : Option Slot)
        → IsSomeAnd o (λ slot. (slot.standing ≡ Missed who) × (Stored ≡ fate_of s job slot))
        → (b : Bool) → (job.canvas == c) ≡ b → (if b then option_map (image_of_slot job) o else None) ≡ Some image
        → IsPannedTo (view_on s c) image
    of_slot job None nothing b on h = absurd nothing
    of_slot job (Some slot) allowed false on h = absurd cc
    of_slot job (Some slot) allowed true on h =
        let same : image_of_slot job slot ≡ image = cc in
        let here = eqb-true job.canvas c on in
        subst (IsPannedTo (view_on s c)) same
        (subst (λ k. IsPannedTo (view_on s k) (image_of_slot job slot)) here (stored_shows s job slot allowed.1))

    by : (o : Option Job)
        → IsSomeAnd o (λ (job : Job). IsSomeAnd (slice_get job.slots at) (λ slot. (slot.standing ≡ Missed who) × (Stored ≡ fate_of s job slot)))
        → option_and_then (λ (job : Job). if job.canvas == c then option_map (image_of_slot job) (slice_get job.slots at) else None) o ≡ Some image
        → IsPannedTo (view_on s c) image
    by None nothing h = absurd nothing
    by (Some job) allowed h = of_slot job (slice_get job.slots at) allowed (job.canvas == c) refl h

pan_one : (s : State) (who c : ℕ) (a : Act) → Allows s who a → AllByRecursion (IsPannedTo (view_on s c)) (cached s c)
    → AllByRecursion (IsPannedTo (view_on (did s who a) c)) (cache_behind s c a (cached s c))
pan_one s who c a allowed h =
    subst (λ v. AllByRecursion (IsPannedTo v) (cache_behind s c a (cached s c))) (sym (view_one s who a c allowed))
    (by a allowed)
  where
    by : (a : Act) → Allows s who a
        → AllByRecursion (IsPannedTo (option_or (view_given c a) (view_on s c))) (cache_behind s c a (cached s c))
    by (act.Edit e v) allowed = edited s c e v h
    by (act.View k view) allowed = viewed (k == c) (view_on s c) view (cached s c) h
    by (act.Start k j) allowed = h
    by (act.Look j at hit) allowed = behind_looked (IsPannedTo (view_on s c)) s c j at hit h
    by (act.Deliver j at fate) allowed =
        behind_delivered (IsPannedTo (view_on s c)) s c j at fate
        (λ is image there. stored_pan s who c j at image (subst (λ f. Allows s who (act.Deliver j at f)) is allowed) there) h
    by (act.Compose j) allowed = h
    by (act.Finish j) allowed = h
    by (act.Fail j) allowed = h
    by (act.Cancel j) allowed = h
    by (act.Preview j bits) allowed = h
    by (act.Save k j) allowed = h

pan_all : (s : State) (rest : List Entry) (c : ℕ) → LegalFrom s rest
    → AllByRecursion (IsPannedTo (view_on s c)) (cached s c)
    → AllByRecursion (IsPannedTo (view_on (fold after s rest) c)) (cached (fold after s rest) c)
pan_all s [] c legal h = h
pan_all s (entry ∷ rest) c legal h =
    pan_all (after s entry) rest c legal.1
    (subst (AllByRecursion (IsPannedTo (view_on (after s entry) c))) (sym (cache_of_one_canvas s entry.caller c entry.act))
    (pan_one s entry.caller c entry.act legal.0 h))

pub cached_views_are_pans : CachedViewsArePans
cached_views_are_pans o journal c legal =
    pan_all (begin o) journal c legal (empty_at (IsPannedTo (view_on (begin o) c)) o.canvases c)
