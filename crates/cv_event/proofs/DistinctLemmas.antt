-- A cache has at most one image of each layer, and no more than its canvas's capacity.
use Rattle.std.proofs.Common.{◌≡◌, ◌∙◌, sym, ap, refl, subst, ℕ, zero, suc, ◌≤◌, ◌==◌, nat_eq, Bool, true, false}
use Rattle.std.proofs.Common.{cond, List, [], ◌∷◌, ◌++◌, length, map, filter, find, take, Option, Some, None, slice_get}
use Rattle.std.proofs.Common.{option_map, option_and_then, option_to_list, fold, arith, if◌then◌else◌}
use Rattle.std.specs.List.{AllByRecursion, IsDistinct}
use Rattle.std.specs.Option.{option_map_or}
use Rattle.std.proofs.lemmas.Bool.Decides.{nat_tests}
use Rattle.std.proofs.lemmas.Bool.{eqb-true}
use Rattle.cv_model.specs.declared.edit.Edit.{Edit}
use Rattle.cv_model.specs.declared.edit.EditError.{EditError}
use Rattle.cv_model.specs.declared.project.CanvasSpec.{CanvasSpec}
use Rattle.cv_event.specs.declared.entry.Act.{Act}
use Rattle.cv_event.specs.declared.entry.Act.TheVariants as act
use Rattle.cv_event.specs.declared.entry.Entry.{Entry}
use Rattle.cv_event.specs.declared.entry.Fate.{Fate}
use Rattle.cv_event.specs.declared.entry.Fate.TheVariants.{Stored, Kept, Dropped}
use Rattle.cv_event.specs.States.{Cached, Canvas, State, view_on, is_of, drop_first, to_front, put_front, stays}
use Rattle.cv_event.specs.States.{keeps_cache, did, after, new_canvas, begin, replay}
use Rattle.cv_event.specs.Histories.{cached, capacity_on, image_on, cache_behind}
use Rattle.cv_event.specs.ViewLaws.{layer_of, CachedLayersAreDistinct}
use Rattle.cv_event.proofs.CacheLemmas.{cache_of_one_canvas}
use Rattle.cv_event.proofs.DueLemmas.{canvases_stay}
use Rattle.cv_event.proofs.ShownLemmas.{settled_one}

-- ---- the layers of images

abbrev Other : ℕ → ℕ → Type 0
Other layer id = nat_eq layer id ≡ false

-- none of these images is of the layer
abbrev AreOther : ℕ → List Cached → Type 0
AreOther layer images = AllByRecursion (Other layer) (map layer_of images)

abbrev pub AreApart : List Cached → Type 0
AreApart images = IsDistinct nat_eq (map layer_of images)

other_dropped : (layer : ℕ) (test : Cached → Bool) (xs : List Cached) → AreOther layer xs → AreOther layer (drop_first test xs)
other_dropped layer test [] h = tt
other_dropped layer test (x ∷ xs) h = by (test x) (other_dropped layer test xs h.1)
  where
    by : (b : Bool) → AreOther layer (drop_first test xs) → AreOther layer (if b then xs else x ∷ drop_first test xs)
    by true more = h.1
    by false more = (h.0, more)

other_kept : (layer : ℕ) (test : Cached → Bool) (xs : List Cached) → AreOther layer xs → AreOther layer (filter test xs)
other_kept layer test [] h = tt
other_kept layer test (x ∷ xs) h = by (test x) (other_kept layer test xs h.1)
  where
    by : (b : Bool) → AreOther layer (filter test xs) → AreOther layer (if b then x ∷ filter test xs else filter test xs)
    by true more = (h.0, more)
    by false more = more

other_taken : (layer n : ℕ) (xs : List Cached) → AreOther layer xs → AreOther layer (take n xs)
other_taken layer zero xs h = tt
other_taken layer (suc n) [] h = tt
other_taken layer (suc n) (x ∷ xs) h = (h.0, other_taken layer n xs h.1)

-- images apart stay so
apart_dropped : (test : Cached → Bool) (xs : List Cached) → AreApart xs → AreApart (drop_first test xs)
unfolding IsDistinct
apart_dropped test [] h = tt
apart_dropped test (x ∷ xs) h = by (test x) (apart_dropped test xs h.1)
  where
    by : (b : Bool) → AreApart (drop_first test xs) → AreApart (if b then xs else x ∷ drop_first test xs)
    by true more = h.1
    by false more = (other_dropped x.layer test xs h.0, more)

apart_kept : (test : Cached → Bool) (xs : List Cached) → AreApart xs → AreApart (filter test xs)
unfolding IsDistinct
apart_kept test [] h = tt
apart_kept test (x ∷ xs) h = by (test x) (apart_kept test xs h.1)
  where
    by : (b : Bool) → AreApart (filter test xs) → AreApart (if b then x ∷ filter test xs else filter test xs)
    by true more = (other_kept x.layer test xs h.0, more)
    by false more = more

apart_taken : (n : ℕ) (xs : List Cached) → AreApart xs → AreApart (take n xs)
unfolding IsDistinct
apart_taken zero xs h = tt
apart_taken (suc n) [] h = tt
apart_taken (suc n) (x ∷ xs) h = (other_taken x.layer n xs h.0, apart_taken n xs h.1)

other_way : (a b : ℕ) → (a == b) ≡ false → nat_eq b a ≡ false
other_way a b h = grind (arith, nat_tests)

-- behind the first image of a layer there is no other
gone : (layer : ℕ) (xs : List Cached) → AreApart xs → AreOther layer (drop_first (is_of layer) xs)
unfolding IsDistinct
gone layer [] h = tt
gone layer (x ∷ xs) h = by (x.layer == layer) refl (gone layer xs h.1)
  where
    by : (b : Bool) → (x.layer == layer) ≡ b → AreOther layer (drop_first (is_of layer) xs)
        → AreOther layer (if b then xs else x ∷ drop_first (is_of layer) xs)
    by true is more = subst (λ id. AreOther id xs) (eqb-true x.layer layer is) h.0
    by false is more = (other_way x.layer layer is, more)

-- what is found is of the layer
found_front : (layer : ℕ) (xs : List Cached) → AreApart xs → AreApart (to_front layer xs)
unfolding IsDistinct
found_front layer xs h = by (find (is_of layer) xs) refl
  where
    found_is : (xs : List Cached) (x : Cached) → find (is_of layer) xs ≡ Some x → x.layer ≡ layer
    found_is [] x e = absurd cc
    found_is (y ∷ ys) x e = of (y.layer == layer) refl e (found_is ys x)
      where
        of : (b : Bool) → (y.layer == layer) ≡ b → cond b (Some y) (find (is_of layer) ys) ≡ Some x
            → (find (is_of layer) ys ≡ Some x → x.layer ≡ layer) → x.layer ≡ layer
        of true is e more =
            let same : y ≡ x = cc in
            ap layer_of (sym same) ∙ eqb-true y.layer layer is
        of false is e more = more e

    by : (o : Option Cached) → find (is_of layer) xs ≡ o
        → AreApart (option_to_list o ++ drop_first (is_of layer) xs)
    by None is = apart_dropped (is_of layer) xs h
    by (Some x) is =
        (subst (λ id. AreOther id (drop_first (is_of layer) xs)) (sym (found_is xs x is)) (gone layer xs h), apart_dropped (is_of layer) xs h)

apart_put : (n : ℕ) (image : Cached) (xs : List Cached) → AreApart xs → AreApart (put_front n image xs)
unfolding IsDistinct
apart_put n image xs h =
    apart_taken n (image ∷ drop_first (is_of image.layer) xs)
    (gone image.layer xs h, apart_dropped (is_of image.layer) xs h)

-- ---- how many there are

few_kept : (test : Cached → Bool) (xs : List Cached) → length (filter test xs) ≤ length xs
few_kept test [] = omega arith
few_kept test (x ∷ xs) = by (test x) (few_kept test xs)
  where
    by : (b : Bool) → length (filter test xs) ≤ length xs
        → length (if b then x ∷ filter test xs else filter test xs) ≤ suc (length xs)
    by true few = omega (arith, few)
    by false few = omega (arith, few)

few_taken : (n : ℕ) (xs : List Cached) → length (take n xs) ≤ n
few_taken zero xs = omega arith
few_taken (suc n) [] = omega arith
few_taken (suc n) (x ∷ xs) = omega (arith, few_taken n xs)

-- as many as before: the one that is found, and the others
few_front : (test : Cached → Bool) (xs : List Cached)
    → length (option_to_list (find test xs) ++ drop_first test xs) ≤ length xs
few_front test [] = omega arith
few_front test (x ∷ xs) = by (test x) (few_front test xs)
  where
    more : (o : Option Cached) (ys : List Cached) → length (option_to_list o ++ ys) ≤ length xs
        → length (option_to_list o ++ (x ∷ ys)) ≤ suc (length xs)
    more None ys few = omega (arith, few)
    more (Some y) ys few = omega (arith, few)

    by : (b : Bool) → length (option_to_list (find test xs) ++ drop_first test xs) ≤ length xs
        → length (option_to_list (cond b (Some x) (find test xs)) ++ (if b then xs else x ∷ drop_first test xs)) ≤ suc (length xs)
    by true few = omega arith
    by false few = more (find test xs) (drop_first test xs) few

-- ---- behind an act

abbrev AreFew : ℕ → List Cached → Type 0
AreFew n images = AreApart images × (length images ≤ n)

few_fronted : (n : ℕ) (o : Option Cached) (cache : List Cached) → AreFew n cache
    → AreFew n (option_map_or (λ (image : Cached). to_front image.layer cache) o cache)
few_fronted n None cache h = h
few_fronted n (Some image) cache h =
    (found_front image.layer cache h.0, omega (arith, h.1, few_front (is_of image.layer) cache))

few_put : (n : ℕ) (o : Option Cached) (cache : List Cached) → AreFew n cache
    → AreFew n (option_map_or (λ image. put_front n image cache) o cache)
few_put n None cache h = h
few_put n (Some image) cache h =
    (apart_put n image cache h.0, few_taken n (image ∷ drop_first (is_of image.layer) cache))

no_images : (n : ℕ) → AreFew n []
unfolding IsDistinct
no_images n = (tt, omega arith)

few_viewed : (n : ℕ) (a b : Bool) (cache : List Cached) → AreFew n cache
    → AreFew n (if a then (if b then cache else []) else cache)
few_viewed n true true cache h = h
few_viewed n true false cache h = no_images n
few_viewed n false b cache h = h

few_edited : (s : State) (c n : ℕ) (e : Edit) (v : Option EditError) (cache : List Cached) → AreFew n cache
    → AreFew n (cache_behind s c (act.Edit e v) cache)
few_edited s c n e None cache h =
    (apart_kept (stays s.project e) cache h.0, omega (arith, h.1, few_kept (stays s.project e) cache))
few_edited s c n e (Some error) cache h = h

few_looked : (s : State) (c n j at : ℕ) (hit : Bool) (cache : List Cached) → AreFew n cache
    → AreFew n (cache_behind s c (act.Look j at hit) cache)
few_looked s c n j at true cache h = few_fronted n (image_on s c j at) cache h
few_looked s c n j at false cache h = h

few_delivered : (s : State) (c j at : ℕ) (fate : Fate) (cache : List Cached) → AreFew (capacity_on s c) cache
    → AreFew (capacity_on s c) (cache_behind s c (act.Deliver j at fate) cache)
few_delivered s c j at Stored cache h = few_put (capacity_on s c) (image_on s c j at) cache h
few_delivered s c j at Kept cache h = h
few_delivered s c j at Dropped cache h = h

few_one : (s : State) (c : ℕ) (a : Act) (cache : List Cached) → AreFew (capacity_on s c) cache
    → AreFew (capacity_on s c) (cache_behind s c a cache)
few_one s c (act.Edit e v) cache h = few_edited s c (capacity_on s c) e v cache h
few_one s c (act.View k view) cache h =
    few_viewed (capacity_on s c) (k == c) (keeps_cache (view_on s c) view) cache h
few_one s c (act.Start k j) cache h = h
few_one s c (act.Look j at hit) cache h = few_looked s c (capacity_on s c) j at hit cache h
few_one s c (act.Deliver j at fate) cache h = few_delivered s c j at fate cache h
few_one s c (act.Compose j) cache h = h
few_one s c (act.Finish j) cache h = h
few_one s c (act.Fail j) cache h = h
few_one s c (act.Cancel j) cache h = h
few_one s c (act.Preview j bits) cache h = h
few_one s c (act.Save k j) cache h = h

-- a capacity stays
capacity_here : (o : Option Canvas)
    → option_map_or (λ (k : Canvas). k.spec.capacity) o 0
    ≡ option_map_or (λ (n : ℕ). n) (option_and_then (λ (k : Canvas). Some k.spec.capacity) o) 0
capacity_here None = refl
capacity_here (Some k) = refl

capacity_one : (s : State) (who c : ℕ) (a : Act) → capacity_on (did s who a) c ≡ capacity_on s c
capacity_one s who c a =
    capacity_here (slice_get (did s who a).canvases c)
    ∙ ap (λ (o : Option ℕ). option_map_or (λ (n : ℕ). n) o 0) (settled_one (λ (k : Canvas). Some k.spec.capacity) (record { viewed = λ view k. refl; cache = λ cache k. refl }) (λ j job k. refl) s who c a)
    ∙ sym (capacity_here (slice_get s.canvases c))

few_more : (s : State) (rest : List Entry) (c : ℕ) → AreFew (capacity_on s c) (cached s c)
    → AreFew (capacity_on (fold after s rest) c) (cached (fold after s rest) c)
few_more s [] c h = h
few_more s (entry ∷ rest) c h =
    few_more (after s entry) rest c
    (subst (λ n. AreFew n (cached (after s entry) c)) (sym (capacity_one s entry.caller c entry.act))
    (subst (AreFew (capacity_on s c)) (sym (cache_of_one_canvas s entry.caller c entry.act))
    (few_one s c entry.act (cached s c) h)))

few_first : (specs : List CanvasSpec) (c : ℕ)
    → AreFew (option_map_or (λ (k : Canvas). k.spec.capacity) (slice_get (map new_canvas specs) c) 0)
    (option_map_or (λ (k : Canvas). k.cache) (slice_get (map new_canvas specs) c) [])
few_first [] c = no_images 0
few_first (spec ∷ specs) zero = no_images spec.capacity
few_first (spec ∷ specs) (suc c) = few_first specs c

capacity_opened : (o : Option Canvas)
    → option_map_or (λ (k : Canvas). k.spec.capacity) o 0
    ≡ option_map_or (λ (spec : CanvasSpec). spec.capacity) (option_map (λ (k : Canvas). k.spec) o) 0
capacity_opened None = refl
capacity_opened (Some k) = refl

pub cached_layers_are_distinct : CachedLayersAreDistinct
cached_layers_are_distinct o journal c =
    let few = few_more (begin o) journal c (few_first o.canvases c) in
    let capacity : capacity_on (replay o journal) c ≡ option_map_or (λ (spec : CanvasSpec). spec.capacity) (slice_get o.canvases c) 0 =
    capacity_opened (slice_get (replay o journal).canvases c)
    ∙ ap (λ (x : Option CanvasSpec). option_map_or (λ (spec : CanvasSpec). spec.capacity) x 0) (canvases_stay o journal c) in
    (few.0, subst (λ n. length (cached (replay o journal) c) ≤ n) capacity few.1)
