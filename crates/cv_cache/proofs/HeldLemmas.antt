-- The entries of a cache by their keys, and its paintings by their layers.
use Rattle.std.proofs.Common.{◌≡◌, ◌∙◌, sym, ap, refl, subst, ℕ, zero, suc, ◌-◌, ◌<◌, ◌≤◌, ◌==◌, nat_eq, Bool, true}
use Rattle.std.proofs.Common.{false, not, cond, List, [], ◌∷◌, ◌++◌, map, length, find, take, Option, Some, None}
use Rattle.std.proofs.Common.{option_map, option_to_list, arith, if◌then◌else◌, take_all, Result, Ok, Err, IfOk, OnOk, OnErr}
use Rattle.std.proofs.Common.{IfSome, IsSomeAnd, MatchOption}
use Rattle.std.specs.List.{AllByRecursion, IsDistinct}
use Rattle.std.specs.Map.{keys_of, values_of, lookup, lookup_entry, remove_entry}
use Rattle.std.specs.Option.{option_map_or}
use Rattle.std.proofs.lemmas.Bool.Decides.{nat_tests}
use Rattle.lru.specs.LruCache.{LruCache, lru_cache, promoted, put_entries}
use Rattle.cv_model.specs.Paintings.{Painting, Stamp}
use Rattle.cv_model.specs.Views.{PixelGrid}
use Rattle.cv_cache.specs.Caches.{CacheParts, painted_id, is_of, drop_first, to_front, put_front, depends_on}
use Rattle.cv_cache.specs.Caches.{independent, Suits, Serves, Looked, IsKeyed, paintings_in, capacity_in}

abbrev Entries : Type 0
Entries = List (ℕ × Painting)

abbrev pub painting_of : ℕ × Painting → Painting
painting_of e = e.1

-- a test of a key and of the layer that it names
tests_same : (layer key id : ℕ) → key ≡ id → (id == layer) ≡ nat_eq layer key
tests_same layer key id same = ap (λ n. n == layer) (sym same) ∙ by layer key
  where
    by : (layer key : ℕ) → (key == layer) ≡ nat_eq layer key
    by layer key = grind (arith, nat_tests)

-- what is found is what is looked up
pub found : (layer : ℕ) (es : Entries) → IsKeyed es → find (is_of layer) (values_of es) ≡ option_map painting_of (lookup_entry
    (nat_eq layer) es)
found layer [] keyed = refl
found layer (e ∷ es) keyed = by (nat_eq layer e.0) (tests_same layer e.0 (painted_id e.1) keyed.0) (found layer es keyed.1)
  where
    by : (b : Bool) → is_of layer e.1 ≡ b → find (is_of layer) (values_of es) ≡ option_map painting_of (lookup_entry (nat_eq
        layer) es)
        → cond (is_of layer e.1) (Some e.1) (find (is_of layer) (values_of es))
        ≡ option_map painting_of (cond b (Some e) (lookup_entry (nat_eq layer) es))
    by true same more = ap (λ b. cond b (Some e.1) (find (is_of layer) (values_of es))) same
    by false same more = ap (λ b. cond b (Some e.1) (find (is_of layer) (values_of es))) same ∙ more

pub looked_up : (layer : ℕ) (es : Entries) → lookup (nat_eq layer) es ≡ option_map painting_of (lookup_entry (nat_eq layer) es)
looked_up layer [] = refl
looked_up layer (e ∷ es) = by (nat_eq layer e.0) (looked_up layer es)
  where
    by : (b : Bool) → lookup (nat_eq layer) es ≡ option_map painting_of (lookup_entry (nat_eq layer) es)
        → cond b (Some e.1) (lookup (nat_eq layer) es) ≡ option_map painting_of (cond b (Some e) (lookup_entry (nat_eq layer) es))
    by true more = refl
    by false more = more

pub found_is : (layer : ℕ) (es : Entries) → IsKeyed es → find (is_of layer) (values_of es) ≡ lookup (nat_eq layer) es
found_is layer es keyed = found layer es keyed ∙ sym (looked_up layer es)

-- an entry that is taken out
pub removed : (layer : ℕ) (es : Entries) → IsKeyed es → values_of (remove_entry (nat_eq layer) es) ≡ drop_first (is_of layer)
    (values_of es)
removed layer [] keyed = refl
removed layer (e ∷ es) keyed = by (nat_eq layer e.0) (tests_same layer e.0 (painted_id e.1) keyed.0) (removed layer es keyed.1)
  where
    by : (b : Bool) → is_of layer e.1 ≡ b
        → values_of (remove_entry (nat_eq layer) es) ≡ drop_first (is_of layer) (values_of es)
        → values_of (cond b es (e ∷ remove_entry (nat_eq layer) es))
        ≡ (if is_of layer e.1 then values_of es else e.1 ∷ drop_first (is_of layer) (values_of es))
    by true same more =
        sym (ap (λ b. if b then values_of es else e.1 ∷ drop_first (is_of layer) (values_of es)) same)
    by false same more =
        ap (λ ps. e.1 ∷ ps) more
        ∙ sym (ap (λ b. if b then values_of es else e.1 ∷ drop_first (is_of layer) (values_of es)) same)

pub keyed_removed : (layer : ℕ) (es : Entries) → IsKeyed es → IsKeyed (remove_entry (nat_eq layer) es)
keyed_removed layer [] keyed = tt
keyed_removed layer (e ∷ es) keyed = by (nat_eq layer e.0) (keyed_removed layer es keyed.1)
  where
    by : (b : Bool) → IsKeyed (remove_entry (nat_eq layer) es) → IsKeyed (cond b es (e ∷ remove_entry (nat_eq layer) es))
    by true more = keyed.1
    by false more = (keyed.0, more)

-- nothing is taken out where nothing is found
none_dropped : {A : Type 0} (test : A → Bool) (xs : List A) → find test xs ≡ None → drop_first test xs ≡ xs
none_dropped test [] h = refl
none_dropped {A} test (x ∷ xs) h = by (test x) h (none_dropped test xs)
  where
    by : (b : Bool) → cond b (Some x) (find test xs) ≡ None → (find test xs ≡ None → drop_first test xs ≡ xs)
        → (if b then xs else x ∷ drop_first test xs) ≡ x ∷ xs
    by true h more = absurd cc
    by false h more = ap (λ ys. x ∷ ys) (more h)

-- where something is found, one is taken out
one_dropped : {A : Type 0} (test : A → Bool) (xs : List A) (y : A) → find test xs ≡ Some y
    → suc (length (drop_first test xs)) ≡ length xs
one_dropped test [] y h = absurd cc
one_dropped {A} test (x ∷ xs) y h = by (test x) h (one_dropped test xs y)
  where
    by : (b : Bool) → cond b (Some x) (find test xs) ≡ Some y
        → (find test xs ≡ Some y → suc (length (drop_first test xs)) ≡ length xs)
        → suc (length (if b then xs else x ∷ drop_first test xs)) ≡ suc (length xs)
    by true h more = refl
    by false h more = ap suc (more h)

-- ---- a hit

entry_is : (layer : ℕ) (es : Entries) (e : ℕ × Painting) → IsKeyed es → lookup_entry (nat_eq layer) es ≡ Some e
    → e.0 ≡ painted_id e.1
entry_is layer [] e keyed h = absurd cc
entry_is layer (x ∷ es) e keyed h = by (nat_eq layer x.0) h (entry_is layer es e keyed.1)
  where
    by : (b : Bool) → cond b (Some x) (lookup_entry (nat_eq layer) es) ≡ Some e
        → (lookup_entry (nat_eq layer) es ≡ Some e → e.0 ≡ painted_id e.1) → e.0 ≡ painted_id e.1
    by true h more =
        let same : x ≡ e = cc in
        subst (λ (y : ℕ × Painting). y.0 ≡ painted_id y.1) same keyed.0
    by false h more = more h

pub promoted_values : (layer : ℕ) (es : Entries) → IsKeyed es → values_of (promoted (nat_eq layer) es) ≡ to_front layer
    (values_of es)
promoted_values layer es keyed = by (lookup_entry (nat_eq layer) es) refl
  where
    by : (o : Option (ℕ × Painting)) → lookup_entry (nat_eq layer) es ≡ o
        → values_of (option_map_or (λ e. e ∷ remove_entry (nat_eq layer) es) o es) ≡ to_front layer (values_of es)
    by None is =
        let none : find (is_of layer) (values_of es) ≡ None = found layer es keyed ∙ ap (option_map painting_of) is in
        sym (none_dropped (is_of layer) (values_of es) none)
        ∙ ap (λ (o : Option Painting). option_to_list o ++ drop_first (is_of layer) (values_of es)) (sym none)
    by (Some e) is =
        let some : find (is_of layer) (values_of es) ≡ Some e.1 = found layer es keyed ∙ ap (option_map painting_of) is in
        ap (λ ps. e.1 ∷ ps) (removed layer es keyed)
        ∙ ap (λ (o : Option Painting). option_to_list o ++ drop_first (is_of layer) (values_of es)) (sym some)

pub keyed_promoted : (layer : ℕ) (es : Entries) → IsKeyed es → IsKeyed (promoted (nat_eq layer) es)
keyed_promoted layer es keyed = by (lookup_entry (nat_eq layer) es) refl
  where
    by : (o : Option (ℕ × Painting)) → lookup_entry (nat_eq layer) es ≡ o
        → IsKeyed (option_map_or (λ e. e ∷ remove_entry (nat_eq layer) es) o es)
    by None is = keyed
    by (Some e) is = (entry_is layer es e keyed is, keyed_removed layer es keyed)

-- ---- a painting that is put in

values_taken : (n : ℕ) (es : Entries) → values_of (take n es) ≡ take n (values_of es)
values_taken zero es = refl
values_taken (suc n) [] = refl
values_taken (suc n) (e ∷ es) = ap (λ ps. e.1 ∷ ps) (values_taken n es)

keyed_taken : (n : ℕ) (es : Entries) → IsKeyed es → IsKeyed (take n es)
keyed_taken zero es keyed = tt
keyed_taken (suc n) [] keyed = tt
keyed_taken (suc n) (e ∷ es) keyed = (keyed.0, keyed_taken n es keyed.1)

pub length_values : (es : Entries) → length (values_of es) ≡ length es
length_values [] = refl
length_values (e ∷ es) = ap suc (length_values es)

cut : (cap : ℕ) (v : Painting) (ps : List Painting) → 0 < cap → v ∷ take (cap - 1) ps ≡ take cap (v ∷ ps)
cut zero v ps some = absurd (omega (arith, some))
cut (suc n) v ps some =
    let less : suc n - 1 ≡ n = omega arith in
    ap (λ m. v ∷ take m ps) less

pub put_values : (es : Entries) (cap k : ℕ) (v : Painting) → IsKeyed es → k ≡ painted_id v → length es ≤ cap → 0 < cap
    → values_of (put_entries nat_eq (lru_cache es cap) k v) ≡ put_front cap v (values_of es)
put_values es cap k v keyed key few some =
    by (lookup_entry (nat_eq k) es) refl ∙ ap (λ id. take cap (v ∷ drop_first (is_of id) (values_of es))) key
  where
    by : (o : Option (ℕ × Painting)) → lookup_entry (nat_eq k) es ≡ o
        → values_of (option_map_or (λ (e : ℕ × Painting). (e.0, v) ∷ remove_entry (nat_eq k) es) o ((k, v) ∷ take (cap - 1) es))
        ≡ take cap (v ∷ drop_first (is_of k) (values_of es))
    by None is =
        let none : find (is_of k) (values_of es) ≡ None = found k es keyed ∙ ap (option_map painting_of) is in
        ap (λ ps. v ∷ ps) (values_taken (cap - 1) es)
        ∙ cut cap v (values_of es) some
        ∙ ap (λ ps. take cap (v ∷ ps)) (sym (none_dropped (is_of k) (values_of es) none))
    by (Some e) is =
        let there : find (is_of k) (values_of es) ≡ Some e.1 = found k es keyed ∙ ap (option_map painting_of) is in
        ap (λ ps. v ∷ ps) (removed k es keyed)
        ∙ sym (take_all cap (v ∷ drop_first (is_of k) (values_of es)) (omega (arith, few, one_dropped (is_of k) (values_of es) e.1 there, length_values es)))

looked_key : (k : ℕ) (es : Entries) (e : ℕ × Painting) → lookup_entry (nat_eq k) es ≡ Some e → k ≡ e.0
looked_key k [] e h = absurd cc
looked_key k (x ∷ es) e h = by (nat_eq k x.0) refl h (looked_key k es e)
  where
    by : (b : Bool) → nat_eq k x.0 ≡ b → cond b (Some x) (lookup_entry (nat_eq k) es) ≡ Some e
        → (lookup_entry (nat_eq k) es ≡ Some e → k ≡ e.0) → k ≡ e.0
    by true is h more =
        let same : x ≡ e = cc in
        let equal : k ≡ x.0 = equal_by k x.0 is in
        equal ∙ ap (λ (y : ℕ × Painting). y.0) same
      where
        equal_by : (a b : ℕ) → nat_eq a b ≡ true → a ≡ b
        equal_by a b h = grind (arith, nat_tests)
    by false is h more = more h

pub keyed_put : (es : Entries) (cap k : ℕ) (v : Painting) → IsKeyed es → k ≡ painted_id v
    → IsKeyed (put_entries nat_eq (lru_cache es cap) k v)
keyed_put es cap k v keyed key = by (lookup_entry (nat_eq k) es) refl
  where
    by : (o : Option (ℕ × Painting)) → lookup_entry (nat_eq k) es ≡ o
        → IsKeyed (option_map_or (λ (e : ℕ × Painting). (e.0, v) ∷ remove_entry (nat_eq k) es) o ((k, v) ∷ take (cap - 1) es))
    by None is = (key, keyed_taken (cap - 1) es keyed)
    by (Some e) is = (sym (looked_key k es e is) ∙ key, keyed_removed k es keyed)

-- ---- what doesn't depend on a layer

abbrev pub depends : ℕ → ℕ × Painting → Bool
depends layer e = depends_on layer e.1

-- no entry is found: all are independent
pub none_depend : (layer : ℕ) (es : Entries) → find (depends layer) es ≡ None → values_of es ≡ independent layer (values_of es)
none_depend layer [] h = refl
none_depend layer (e ∷ es) h = by (depends layer e) h (none_depend layer es)
  where
    by : (b : Bool) → cond b (Some e) (find (depends layer) es) ≡ None
        → (find (depends layer) es ≡ None → values_of es ≡ independent layer (values_of es))
        → e.1 ∷ values_of es ≡ (if not b then e.1 ∷ independent layer (values_of es) else independent layer (values_of es))
    by true h more = absurd cc
    by false h more = ap (λ ps. e.1 ∷ ps) (more h)

itself : (n : ℕ) → nat_eq n n ≡ true
itself n = grind (arith, nat_tests)

other_way : (a b : ℕ) → nat_eq a b ≡ false → nat_eq b a ≡ false
other_way a b h = grind (arith, nat_tests)

-- the key of an entry that is found is another one than all before it
found_other : (key : ℕ) (test : ℕ × Painting → Bool) (es : Entries) (e : ℕ × Painting)
    → AllByRecursion (λ (k : ℕ). nat_eq key k ≡ false) (keys_of es) → find test es ≡ Some e → nat_eq key e.0 ≡ false
found_other key test [] e others h = absurd cc
found_other key test (x ∷ es) e others h = by (test x) h (found_other key test es e others.1)
  where
    by : (b : Bool) → cond b (Some x) (find test es) ≡ Some e → (find test es ≡ Some e → nat_eq key e.0 ≡ false)
        → nat_eq key e.0 ≡ false
    by true h more =
        let same : x ≡ e = cc in
        subst (λ (y : ℕ × Painting). nat_eq key y.0 ≡ false) same others.0
    by false h more = more h

-- the first that depends is taken out by its key, and what is independent stays
pub dependent_removed : (layer : ℕ) (es : Entries) (e : ℕ × Painting) → IsDistinct nat_eq (keys_of es)
    → find (depends layer) es ≡ Some e
    → (independent layer (values_of (remove_entry (nat_eq e.0) es)) ≡ independent layer (values_of es))
    × (suc (length (remove_entry (nat_eq e.0) es)) ≡ length es)
unfolding IsDistinct
dependent_removed layer [] e apart h = absurd cc
dependent_removed layer (x ∷ es) e apart h = by (depends layer x) refl h (dependent_removed layer es e apart.1)
  where
    by : (b : Bool) → depends layer x ≡ b → cond b (Some x) (find (depends layer) es) ≡ Some e
        → (find (depends layer) es ≡ Some e
        → (independent layer (values_of (remove_entry (nat_eq e.0) es)) ≡ independent layer (values_of es))
        × (suc (length (remove_entry (nat_eq e.0) es)) ≡ length es))
        → (independent layer (values_of (cond (nat_eq e.0 x.0) es (x ∷ remove_entry (nat_eq e.0) es)))
        ≡ (if not (depends layer x) then x.1 ∷ independent layer (values_of es) else independent layer (values_of es)))
        × (suc (length (cond (nat_eq e.0 x.0) es (x ∷ remove_entry (nat_eq e.0) es))) ≡ suc (length es))
    by true is h more =
        let same : x ≡ e = cc in
        let key : nat_eq e.0 x.0 ≡ true = ap (λ (y : ℕ × Painting). nat_eq y.0 x.0) (sym same) ∙ itself x.0 in (
          ap (λ b. independent layer (values_of (cond b es (x ∷ remove_entry (nat_eq e.0) es)))) key
              ∙ sym (ap (λ b. if not b then x.1 ∷ independent layer (values_of es) else independent layer (values_of es)) is),
          ap (λ b. suc (length (cond b es (x ∷ remove_entry (nat_eq e.0) es)))) key,
        )
    by false is h more =
        let rest = more h in
        let key : nat_eq e.0 x.0 ≡ false = other_way x.0 e.0 (found_other x.0 (depends layer) es e apart.0 h) in (
          ap (λ b. independent layer (values_of (cond b es (x ∷ remove_entry (nat_eq e.0) es)))) key
              ∙ ap (λ b. if not b then x.1 ∷ independent layer (values_of (remove_entry (nat_eq e.0) es)) else independent layer (values_of (remove_entry (nat_eq e.0) es))) is
              ∙ ap (λ ps. x.1 ∷ ps) rest.0
              ∙ sym (ap (λ b. if not b then x.1 ∷ independent layer (values_of es) else independent layer (values_of es)) is),
          ap (λ b. suc (length (cond b es (x ∷ remove_entry (nat_eq e.0) es)))) key ∙ ap suc rest.1,
        )

-- ---- how many there are

-- no layers differ
pub none_apart : IsDistinct nat_eq (map painted_id [])
unfolding IsDistinct
none_apart = tt

-- layers are the keys
pub ids_are : (es : Entries) → IsKeyed es → map painted_id (values_of es) ≡ keys_of es
ids_are [] keyed = refl
ids_are (e ∷ es) keyed = ap (λ id. id ∷ map painted_id (values_of es)) (sym keyed.0) ∙ ap (λ ids. e.0 ∷ ids) (ids_are es keyed.1)

-- ---- what a look makes of a cache that is there

abbrev pub seen_in : Option (LruCache ℕ Painting) → CacheParts
seen_in images = record { paintings = paintings_in images; capacity = capacity_in images }

abbrev pub Got : LruCache ℕ Painting → LruCache ℕ Painting → ℕ → List Stamp → PixelGrid → Option Painting → Type 0
Got before after layer stamps view o = MatchOption o
    ((after ≡ before) × IfSome (lookup (nat_eq layer) before.entries) (λ p. Suits stamps view p → ⊥))
    (λ p. (lookup (nat_eq layer) before.entries ≡ Some p) × Suits stamps view p
    × (after ≡ lru_cache (promoted (nat_eq layer) before.entries) before.cap))

abbrev pub Failed : LruCache ℕ Painting → LruCache ℕ Painting → ℕ → List Stamp → PixelGrid → Type 0
Failed before after layer stamps view =
    (after ≡ before) × IsSomeAnd (lookup (nat_eq layer) before.entries) (Suits stamps view)

pub looked_ok : {E : Type 0} (before after : LruCache ℕ Painting) (layer : ℕ) (stamps : List Stamp) (view : PixelGrid)
    (result : Result (Option Painting) E) → IsKeyed before.entries → IfOk result (Got before after layer stamps view)
    → IfOk result (Looked (seen_in (Some before)) (seen_in (Some after)) layer stamps view)
looked_ok before after layer stamps view (Err e) keyed h = tt
looked_ok before after layer stamps view (Ok None) keyed h =
    (λ p serves. none p serves, ap (λ c. seen_in (Some c)) h.0)
  where
    none : (p : Painting) → Serves (seen_in (Some before)) layer stamps view p → ⊥
    none p serves =
        subst (λ o. IfSome o (λ p. Suits stamps view p → ⊥)) (sym (found_is layer before.entries keyed) ∙ serves.0) h.1 serves.1
looked_ok before after layer stamps view (Ok (Some p)) keyed h = (
  (found_is layer before.entries keyed ∙ h.0, h.1),
  ap (λ c. seen_in (Some c)) h.2
      ∙ ap (λ ps. record { paintings = ps; capacity = before.cap }) (promoted_values layer before.entries keyed),
)

pub looked_err : {E : Type 0} (before after : LruCache ℕ Painting) (layer : ℕ) (stamps : List Stamp) (view : PixelGrid)
    (result : Result (Option Painting) E) → IsKeyed before.entries → OnErr result (Failed before after layer stamps view)
    → OnErr result ((seen_in (Some after) ≡ seen_in (Some before))
    × (p : Painting) × Serves (seen_in (Some before)) layer stamps view p)
looked_err before after layer stamps view (Ok o) keyed h = tt
looked_err {E} before after layer stamps view (Err e) keyed h =
    let found = by (lookup (nat_eq layer) before.entries) refl h.1 in
    (ap (λ c. seen_in (Some c)) h.0, found.0, found.1)
  where
    by : (o : Option Painting) → lookup (nat_eq layer) before.entries ≡ o → IsSomeAnd o (Suits stamps view)
        → (p : Painting) × Serves (seen_in (Some before)) layer stamps view p
    by None is suits = absurd suits
    by (Some p) is suits = (p, (found_is layer before.entries keyed ∙ is, suits))

pub looked_keyed : {E : Type 0} (before after : LruCache ℕ Painting) (layer : ℕ) (stamps : List Stamp) (view : PixelGrid)
    (result : Result (Option Painting) E) → IsKeyed before.entries → OnErr result (Failed before after layer stamps view)
    → IfOk result (Got before after layer stamps view) → IsKeyed after.entries
looked_keyed before after layer stamps view (Err e) keyed failed got =
    subst (λ (c : LruCache ℕ Painting). IsKeyed c.entries) (sym failed.0) keyed
looked_keyed before after layer stamps view (Ok None) keyed failed got =
    subst (λ (c : LruCache ℕ Painting). IsKeyed c.entries) (sym got.0) keyed
looked_keyed before after layer stamps view (Ok (Some p)) keyed failed got =
    subst (λ (c : LruCache ℕ Painting). IsKeyed c.entries) (sym got.2) (keyed_promoted layer before.entries keyed)

-- ---- what a painting makes of it

pub put_ok : {E : Type 0} (before after : LruCache ℕ Painting) (painted : Painting) (result : Result (Unit {0}) E)
    → IsKeyed before.entries → length before.entries ≤ before.cap → 0 < before.cap
    → OnOk result (after ≡ lru_cache (put_entries nat_eq before (painted_id painted) painted) before.cap)
    → OnOk result (seen_in (Some after)
    ≡ record { paintings = put_front before.cap painted (values_of before.entries); capacity = before.cap })
put_ok before after painted (Err e) keyed few some h = tt
put_ok before after painted (Ok u) keyed few some h =
    ap (λ c. seen_in (Some c)) h
    ∙ ap (λ ps. record { paintings = ps; capacity = before.cap }) (put_values before.entries before.cap (painted_id painted) painted keyed refl few some)

pub put_keyed : {E : Type 0} (before after : LruCache ℕ Painting) (painted : Painting) (result : Result (Unit {0}) E)
    → IsKeyed before.entries
    → OnOk result (after ≡ lru_cache (put_entries nat_eq before (painted_id painted) painted) before.cap)
    → OnErr result (after ≡ before) → IsKeyed after.entries
put_keyed before after painted (Err e) keyed ok err =
    subst (λ (c : LruCache ℕ Painting). IsKeyed c.entries) (sym err) keyed
put_keyed before after painted (Ok u) keyed ok err =
    subst (λ (c : LruCache ℕ Painting). IsKeyed c.entries) (sym ok) (keyed_put before.entries before.cap (painted_id painted) painted keyed refl)

-- ---- the first that depends on a layer is taken out

pub taken_out : (layer id : ℕ) (before after : LruCache ℕ Painting) → IsDistinct nat_eq (keys_of before.entries)
    → option_map (λ (e : ℕ × Painting). e.0) (find (depends layer) before.entries) ≡ Some id
    → after ≡ lru_cache (remove_entry (nat_eq id) before.entries) before.cap
    → (independent layer (values_of after.entries) ≡ independent layer (values_of before.entries))
    × (length after.entries < length before.entries) × (IsKeyed before.entries → IsKeyed after.entries)
    × (after.cap ≡ before.cap)
taken_out layer id before after apart first out = by (find (depends layer) before.entries) refl first
  where
    by : (o : Option (ℕ × Painting)) → find (depends layer) before.entries ≡ o
        → option_map (λ (e : ℕ × Painting). e.0) o ≡ Some id
        → (independent layer (values_of after.entries) ≡ independent layer (values_of before.entries))
        × (length after.entries < length before.entries) × (IsKeyed before.entries → IsKeyed after.entries)
        × (after.cap ≡ before.cap)
    by None is first = absurd cc
    by (Some e) is first =
        let key : e.0 ≡ id = cc in
        let entries : after.entries ≡ remove_entry (nat_eq e.0) before.entries =
        ap (λ (c : LruCache ℕ Painting). c.entries) out ∙ ap (λ k. remove_entry (nat_eq k) before.entries) (sym key) in
        let removed = dependent_removed layer before.entries e apart is in
        (ap (λ es. independent layer (values_of es)) entries ∙ removed.0, omega (arith, removed.1, ap length entries), λ keyed. subst IsKeyed (sym entries) (keyed_removed e.0 before.entries keyed), ap (λ (c : LruCache ℕ Painting). c.cap) out)

pub none_left : (layer : ℕ) (es : Entries) → option_map (λ (e : ℕ × Painting). e.0) (find (depends layer) es) ≡ None
    → values_of es ≡ independent layer (values_of es)
none_left layer es h = none_depend layer es (by (find (depends layer) es) h)
  where
    by : (o : Option (ℕ × Painting)) → option_map (λ (e : ℕ × Painting). e.0) o ≡ None → o ≡ None
    by None h = refl
    by (Some e) h = absurd cc
