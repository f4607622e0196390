-- Packed cells: how many there are, which stands at a place, and what a further or another number leaves.
use Rattle.std.proofs.Common.{◌≡◌, ◌≢◌, ◌∙◌, sym, ap, refl, ℕ, zero, suc, ◌<◌, Bool, true, false}
use Rattle.std.proofs.Common.{List, [], ◌∷◌, ◌++◌, length, arith, set, ℤ, ◌||◌, length-append}
use Rattle.std.specs.Prelude.{All, slice_get, ◌==◌, option_map, if◌then◌else◌}
use Rattle.std.specs.Ordering.{int_eq}
use Rattle.std.proofs.lemmas.Bool.Decides.{nat_tests, Decides-int_eq}
use Rattle.std.proofs.lemmas.List.Folds.{list_any-append}
use Rattle.std.proofs.lemmas.List.Elements.{All-head, All-tail, All-weaker}
use Rattle.cv_model.specs.declared.grid.Cell.{Cell}
use Rattle.cv_model.specs.declared.grid.Cell.TheVariants.{Value, Void}
use Rattle.cv_model.specs.Packed.{least, is_among, cell_of_word, cells_of, unpacked, word_of, is_least}
use Rattle.cv_model.specs.Packed.{AreWithin, IsMarked}

length_of : (f : ℕ → Bool) (ws : List ℤ) → length (cells_of f ws) ≡ length ws
length_of f [] = refl
length_of f (w ∷ ws) = ap suc (length_of (λ k. f (suc k)) ws)

get_of : (f : ℕ → Bool) (ws : List ℤ) (k : ℕ)
    → slice_get (cells_of f ws) k ≡ option_map (cell_of_word (f k)) (slice_get ws k)
get_of f [] k = refl
get_of f (w ∷ ws) zero = refl
get_of f (w ∷ ws) (suc k) = get_of (λ k. f (suc k)) ws k

-- what is said of places behind the end doesn't matter
alike_of : (f g : ℕ → Bool) (ws : List ℤ) → ((k : ℕ) → k < length ws → g k ≡ f k)
    → cells_of g ws ≡ cells_of f ws
alike_of f g [] h = refl
alike_of f g (w ∷ ws) h =
    let here = h 0 (omega arith) in
    let more = alike_of (λ k. f (suc k)) (λ k. g (suc k)) ws (λ k below. h (suc k) (omega arith)) in
    ap (λ b. cell_of_word b w ∷ cells_of (λ k. g (suc k)) ws) here
    ∙ ap (λ cs. cell_of_word (f 0) w ∷ cs) more

push_of : (f : ℕ → Bool) (ws : List ℤ) (w : ℤ)
    → cells_of f (ws ++ w ∷ []) ≡ cells_of f ws ++ cell_of_word (f (length ws)) w ∷ []
push_of f [] w = refl
push_of f (v ∷ ws) w = ap (λ cs. cell_of_word (f 0) v ∷ cs) (push_of (λ k. f (suc k)) ws w)

set_of : (f g : ℕ → Bool) (ws : List ℤ) (i : ℕ) (w : ℤ) → ((k : ℕ) → k ≢ i → g k ≡ f k)
    → cells_of g (set ws i w) ≡ set (cells_of f ws) i (cell_of_word (g i) w)
set_of f g [] i w h = refl
set_of f g (v ∷ ws) zero w h =
    ap (λ cs. cell_of_word (g 0) w ∷ cs)
    (alike_of (λ k. f (suc k)) (λ k. g (suc k)) ws (λ k below. h (suc k) (λ same. absurd (omega arith))))
set_of f g (v ∷ ws) (suc i) w h =
    let here = h 0 (λ same. absurd (omega arith)) in
    let more = set_of (λ k. f (suc k)) (λ k. g (suc k)) ws i w
    (λ k other. h (suc k) (λ same. other (omega arith))) in
    ap (λ b. cell_of_word b v ∷ cells_of (λ k. g (suc k)) (set ws i w)) here
    ∙ ap (λ cs. cell_of_word (f 0) v ∷ cs) more

pub length_unpacked : (ws : List ℤ) (ps : List ℕ) → length (unpacked ws ps) ≡ length ws
unfolding unpacked
length_unpacked ws ps = length_of (is_among ps) ws

pub get_unpacked : (ws : List ℤ) (ps : List ℕ) (k : ℕ)
    → slice_get (unpacked ws ps) k ≡ option_map (cell_of_word (is_among ps k)) (slice_get ws k)
unfolding unpacked
get_unpacked ws ps k = get_of (is_among ps) ws k

among_self : (n : ℕ) → (n == n) ≡ true
among_self n = grind (arith, nat_tests)

differs : (a b : ℕ) → a ≢ b → (a == b) ≡ false
differs a b h = grind (arith, nat_tests)

-- no place behind the end is among those within
none_beyond : (n : ℕ) (ps : List ℕ) → All (λ place. place < n) ps → is_among ps n ≡ false
none_beyond n [] h = refl
none_beyond n (p ∷ ps) h =
    let first = All-head (λ place. place < n) p ps h in
    ap (λ b. b || is_among ps n) (differs p n (λ e. absurd (omega arith)))
    ∙ none_beyond n ps (All-tail (λ place. place < n) p ps h)

-- a list with a place more at its end
pub among_more : (ps : List ℕ) (n k : ℕ) → is_among (ps ++ n ∷ []) k ≡ (is_among ps k || (n == k || false))
among_more ps n k = list_any-append (λ place. place == k) ps (n ∷ [])

pub among_same : (ps : List ℕ) (n : ℕ) → is_among (ps ++ n ∷ []) n ≡ true
among_same [] n = rw (among_self n) refl
among_same (p ∷ ps) n = let more = among_same ps n in grind (arith, more)

pub among_other : (ps : List ℕ) (n k : ℕ) → k ≢ n → is_among (ps ++ n ∷ []) k ≡ is_among ps k
among_other [] n k h = rw (differs n k (λ e. h (sym e))) refl
among_other (p ∷ ps) n k h = ap (λ b. (p == k) || b) (among_other ps n k h)

neither : (b : Bool) → (b ≡ true → ⊥) → b ≡ false
neither true h = absurd (h refl)
neither false h = refl

-- a number that isn't the least is the value
word_is : (b : Bool) (w : ℤ) → w ≢ least → cell_of_word b w ≡ Value w
word_is b w h =
    ap (λ t. if t then (if b then Value w else Void) else Value w)
    (neither (int_eq w least) (λ e. h ((Decides-int_eq w least).0 e)))

-- a value that isn't the least number
pub unpacked_value : (ws : List ℤ) (ps : List ℕ) (w : ℤ) → w ≢ least
    → unpacked (ws ++ w ∷ []) ps ≡ unpacked ws ps ++ Value w ∷ []
unfolding unpacked
unpacked_value ws ps w h =
    push_of (is_among ps) ws w
    ∙ ap (λ c. cells_of (is_among ps) ws ++ c ∷ []) (word_is (is_among ps (length ws)) w h)

-- no data
pub unpacked_void : (ws : List ℤ) (ps : List ℕ) → AreWithin ws ps
    → unpacked (ws ++ least ∷ []) ps ≡ unpacked ws ps ++ Void ∷ []
unfolding unpacked
unpacked_void ws ps h =
    push_of (is_among ps) ws least
    ∙ ap (λ b. cells_of (is_among ps) ws ++ cell_of_word b least ∷ []) (none_beyond (length ws) ps h)

-- the least number as a value
pub unpacked_least : (ws : List ℤ) (ps : List ℕ)
    → unpacked (ws ++ least ∷ []) (ps ++ length ws ∷ []) ≡ unpacked ws ps ++ Value least ∷ []
unfolding unpacked
unpacked_least ws ps =
    let qs = ps ++ length ws ∷ [] in
    push_of (is_among qs) ws least
    ∙ ap (λ b. cells_of (is_among qs) ws ++ cell_of_word b least ∷ []) (among_same ps (length ws))
    ∙ ap (λ cs. cs ++ Value least ∷ []) (alike_of (is_among ps) (is_among qs) ws
    (λ k below. among_other ps (length ws) k (λ e. absurd (omega arith))))

both : (b : Bool) (w : ℤ) → (if b then (if b then Value w else Void) else Value w) ≡ Value w
both true w = refl
both false w = refl

whole : (c : Cell) → cell_of_word (is_least c) (word_of c) ≡ c
whole (Value w) = both (int_eq w least) w
whole Void = refl

-- another number at a place
pub unpacked_set : (ws : List ℤ) (ps qs : List ℕ) (i : ℕ) (c : Cell)
    → IsMarked ps qs i (is_least c)
    → unpacked (set ws i (word_of c)) qs ≡ set (unpacked ws ps) i c
unfolding unpacked
unpacked_set ws ps qs i c h =
    set_of (is_among ps) (is_among qs) ws i (word_of c) h.others
    ∙ ap (λ b. set (cells_of (is_among ps) ws) i (cell_of_word b (word_of c))) h.here
    ∙ ap (set (cells_of (is_among ps) ws) i) (whole c)

-- places within a list are within a longer one
pub within_more : (ws : List ℤ) (ps : List ℕ) (w : ℤ) → AreWithin ws ps → AreWithin (ws ++ w ∷ []) ps
within_more ws ps w h =
    All-weaker (λ place. place < length ws) (λ place. place < length (ws ++ w ∷ []))
    (λ place l. omega (arith, l, length-append ws (w ∷ []))) ps h
