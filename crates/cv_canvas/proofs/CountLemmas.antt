-- A colour laid over itself again and again: from the 255th time on nothing changes.
use Rattle.std.proofs.Common.{◌≡◌, ◌==◌, ℕ, zero, suc, ◌+◌, ◌-◌, ◌*◌, ◌/◌, ◌<◌, ◌≤◌, ◌⊎◌, inl, inr, ⊎_elim, Bool, true, false}
use Rattle.std.proofs.Common.{if◌then◌else◌, nat_lt, replicate, List, [], ◌∷◌, ◌++◌, length, get_or, refl, ap, sym, ◌∙◌, arith, add-one, zero-add}
use Rattle.std.proofs.Math.Path.{fun_ext}
use Rattle.std.proofs.Math.Nat.{mul-le-mul_right}
use Rattle.std.proofs.lemmas.Bool.{cases_lt}
use Rattle.std.proofs.lemmas.Bool.Decides.{nat_tests}
use Rattle.std.proofs.lemmas.Nat.{le-div}
use Rattle.std.proofs.lemmas.List.{get_or_append_left, get_or-append_right, length-append}
use Rattle.cv_number.specs.Rounding.{rnd}
use Rattle.cv_model.specs.declared.colour.Rgba.{Rgba}
use Rattle.cv_model.specs.Colours.{over, covered, channel_over, transparent}
use Rattle.cv_geom.specs.declared.runs.Run.{Run}
use Rattle.cv_geom.specs.Runs.{is_on}
use Rattle.cv_canvas.specs.Canvas.{changed, with_run, item_in}
use Rattle.cv_canvas.specs.Counts.{laid_times, once_more}
use Rattle.cv_canvas.proofs.MixingLemmas.{rnd_exact, same_colour, over_clear}

-- ---- alphas

-- the alpha of a colour of alpha sa over one of alpha a
abbrev risen : ℕ → ℕ → ℕ
risen sa a = rnd (covered sa a) 255

-- a part of a product and the rest
in_parts : (a s t : ℕ) → s + t ≡ 255 → a * 255 ≡ a * s + a * t
in_parts a s t whole =
    let spread : a * (s + t) ≡ a * s + a * t = grind arith in ap (λ n. a * n) (sym whole) ∙ spread

-- it is no less than it was
rises : (sa a : ℕ) → sa ≤ 255 → a ≤ 255 → a ≤ risen sa a
rises sa a small byte =
    let parts = in_parts a sa (255 - sa) (omega arith) in
    let own : a * sa ≤ 255 * sa = mul-le-mul_right sa byte in
    le-div a (2 * covered sa a + 255) 510 (omega arith) (omega (arith, parts, own))

-- and a byte
stays_byte : (sa a : ℕ) → sa ≤ 255 → a ≤ 255 → risen sa a ≤ 255
stays_byte sa a small byte =
    let own : a * (255 - sa) ≤ 255 * (255 - sa) = mul-le-mul_right (255 - sa) byte in
    let most : covered sa a ≤ 65025 = omega (arith, own) in
    byte_of (covered sa a) most
  where
    byte_of : (n : ℕ) → n ≤ 65025 → (2 * n + 255) / 510 ≤ 255
    byte_of n most = omega arith

-- the alpha of a colour of alpha sa that lies n times over itself
abbrev alpha_times : ℕ → ℕ → ℕ
alpha_times sa zero = sa
alpha_times sa (suc n) = risen sa (alpha_times sa n)

times_byte : (sa n : ℕ) → sa ≤ 255 → alpha_times sa n ≤ 255
times_byte sa zero small = small
times_byte sa (suc n) small = stays_byte sa (alpha_times sa n) small (times_byte sa n small)

-- each time it has risen, or it doesn't rise any more
one_more : (sa n a : ℕ) → a ≤ risen sa a → (suc n ≤ a) ⊎ (risen sa a ≡ a)
    → (suc (suc n) ≤ risen sa a) ⊎ (risen sa (risen sa a) ≡ risen sa a)
one_more sa n a up (inr still) = inr (ap (risen sa) still)
one_more sa n a up (inl rose) =
    ⊎_elim (λ more. inl (omega (arith, more, rose)))
    (λ less. let still : risen sa a ≡ a = omega (arith, up, less) in inr (ap (risen sa) still))
    (cases_lt a (risen sa a))

rose_or_rests : (sa n : ℕ) → 0 < sa → sa ≤ 255 → (suc n ≤ alpha_times sa n)
    ⊎ (risen sa (alpha_times sa n) ≡ alpha_times sa n)
rose_or_rests sa zero some small = inl (omega arith)
rose_or_rests sa (suc n) some small =
    one_more sa n (alpha_times sa n) (rises sa (alpha_times sa n) small (times_byte sa n small))
    (rose_or_rests sa n some small)

-- over itself 254 times it rises no more
rests : (sa n : ℕ) → 0 < sa → sa ≤ 255 → 254 ≤ n → risen sa (alpha_times sa n) ≡ alpha_times sa n
rests sa n some small often =
    let byte = times_byte sa n small in
    ⊎_elim (λ rose. omega (
      arith,
      rose,
      byte,
      rises sa (alpha_times sa n) small byte,
      stays_byte sa (alpha_times sa n) small byte,
    ))
    (λ still. still) (rose_or_rests sa n some small)

-- ---- colours

-- a colour with another alpha
abbrev tinted : Rgba → ℕ → Rgba
tinted c a = record { r = c.r; g = c.g; b = c.b; a = a }

-- a channel over the same channel
channel_same : (sa c a : ℕ) → 0 < sa → channel_over sa c a c ≡ c
channel_same sa c a some =
    let e : 255 * sa * c + a * (255 - sa) * c ≡ covered sa a * c = grind arith in
    rw e (rnd_exact c (covered sa a) (omega arith))

-- a colour over itself with another alpha
over_tinted : (c : Rgba) (a : ℕ) → 0 < c.a → over c (tinted c a) ≡ tinted c (risen c.a a)
over_tinted c a some =
    let t : (covered c.a a == 0) ≡ false = grind (arith, nat_tests) in
    rw t (same_colour (tinted c (risen c.a a)) _ _ _ _ (channel_same c.a c.r a some) (channel_same c.a c.g a some)
    (channel_same c.a c.b a some) refl)

-- a colour laid some times
times_is : (c : Rgba) (n : ℕ) → 0 < c.a → laid_times c (suc n) ≡ tinted c (alpha_times c.a n)
unfolding laid_times
times_is c zero some = over_clear c transparent some refl
times_is c (suc n) some =
    ap (over c) (times_is c n some) ∙ over_tinted c (alpha_times c.a n) some

-- a clear one leaves all clear
never : (c : Rgba) (n : ℕ) → c.a ≡ 0 → laid_times c n ≡ transparent
unfolding laid_times
never c zero none = refl
never c (suc n) none = ap (over c) (never c n none) ∙ rw none refl

-- one time more
pub times_more : (c : Rgba) (n : ℕ) → laid_times c (n + 1) ≡ over c (laid_times c n)
unfolding laid_times
times_more c n = rw (add-one n) refl

-- never is nothing
pub times_none : (c : Rgba) → laid_times c 0 ≡ transparent
unfolding laid_times
times_none c = refl

-- from the 255th time on it stays
rested : (c : Rgba) (n : ℕ) → 0 < c.a → c.a ≤ 255 → 255 ≤ n → over c (laid_times c n) ≡ laid_times c n
rested c zero some small often = absurd (omega arith)
rested c (suc n) some small often =
    let is = times_is c n some in
    ap (over c) is ∙ over_tinted c (alpha_times c.a n) some
    ∙ ap (tinted c) (rests c.a n some small (omega arith)) ∙ sym is

stays : (c : Rgba) (n : ℕ) → c.a ≤ 255 → 255 ≤ n → over c (laid_times c n) ≡ laid_times c n
stays c n small often =
    ⊎_elim (λ some. rested c n some small often)
    (λ none. let clear : c.a ≡ 0 = omega (arith, none) in
    sym (times_more c n) ∙ never c (n + 1) clear ∙ sym (never c n clear))
    (cases_lt 0 c.a)

stays_for : (c : Rgba) (k m : ℕ) → c.a ≤ 255 → 255 ≤ m → laid_times c (k + m) ≡ laid_times c m
stays_for c zero m small often = ap (laid_times c) (zero-add m)
stays_for c (suc k) m small often =
    let e : suc k + m ≡ (k + m) + 1 = omega arith in
    ap (laid_times c) e ∙ times_more c (k + m) ∙ stays c (k + m) small (omega arith) ∙ stays_for c k m small often

-- a colour over so many of itself, of which 255 are counted at most
over_times : (c : Rgba) (n : ℕ) → c.a ≤ 255 → over c (laid_times c n) ≡ laid_times c (once_more n)
over_times c n small =
    ⊎_elim (λ few.
    let e : once_more n ≡ n + 1 = omega (arith, few) in sym (ap (laid_times c) e ∙ times_more c n))
    (λ many.
    let e : once_more n ≡ 255 = omega (arith, many) in
    let back : (n - 255) + 255 ≡ n = omega (arith, many) in
    stays c n small many ∙ ap (laid_times c) (sym back) ∙ stays_for c (n - 255) 255 small (omega arith)
    ∙ ap (laid_times c) (sym e))
    (cases_lt n 255)

-- ---- canvases

-- a pixel on a run or not, counted there or not
counted_at : (c : Rgba) (on : Bool) (n : ℕ) → c.a ≤ 255
    → laid_times c (if on then once_more n else n) ≡ (if on then over c (laid_times c n) else laid_times c n)
counted_at c true n small = sym (over_times c n small)
counted_at c false n small = refl

-- the colour laid on a run
pub counted_run : (c : Rgba) (counts : ℕ → ℕ → ℕ) (run : Run) → c.a ≤ 255
    → (λ i j. laid_times c (changed once_more counts run i j)) ≡ with_run c (λ i j. laid_times c (counts i j)) run
counted_run c counts run small =
    fun_ext (λ i. fun_ext (λ j. counted_at c (is_on run i j) (counts i j) small))

-- where nothing is counted, all is clear
pub counted_nowhere : (c : Rgba) (counts : ℕ → ℕ → ℕ) → counts ≡ (λ i j. 0)
    → ◌≡◌ {A = ℕ → ℕ → Rgba} (λ i j. laid_times c (counts i j)) (λ i j. transparent)
counted_nowhere c counts clear =
    ap {B = ℕ → ℕ → Rgba} (λ (f : ℕ → ℕ → ℕ) (i j : ℕ). laid_times c (f i j)) clear
    ∙ fun_ext (λ i. fun_ext (λ j. times_none c))

-- a table with one colour more
pub table_more : (c : Rgba) (xs : List Rgba) (last : Rgba)
    → ((n : ℕ) → n < length xs → get_or xs n transparent ≡ laid_times c n) → last ≡ laid_times c (length xs)
    → (n : ℕ) → n < length (xs ++ last ∷ []) → get_or (xs ++ last ∷ []) n transparent ≡ laid_times c n
table_more c xs last so_far next n inside =
    ⊎_elim (λ front. get_or_append_left xs (last ∷ []) transparent n front ∙ so_far n front)
    (λ behind.
    let long = length-append xs (last ∷ []) in
    let end : n ≡ length xs = omega (arith, long, inside, behind) in
    rw end
    (get_or-append_right xs (last ∷ []) (length xs) (length xs) transparent refl (omega arith)
    ∙ ap (λ k. get_or (last ∷ []) k transparent) (sub_self (length xs)) ∙ next))
    (cases_lt n (length xs))
  where
    sub_self : (n : ℕ) → n - n ≡ 0
    sub_self n = omega arith

-- counts that are made
uncounted_at : (inside : Bool) (n k : ℕ) → ◌≡◌ {A = ℕ} (if inside then get_or (replicate n 0) k 0 else 0) 0
uncounted_at false n k = refl
uncounted_at true n k = nought n k
  where
    nought : (n k : ℕ) → ◌≡◌ {A = ℕ} (get_or (replicate n 0) k 0) 0
    nought zero k = refl
    nought (suc n) zero = refl
    nought (suc n) (suc k) = nought n k

pub uncounted : (n w : ℕ) → item_in {A = ℕ} 0 w (replicate n 0) ≡ (λ i j. 0)
uncounted n w = fun_ext (λ i. fun_ext (λ j. uncounted_at (nat_lt i w) n (j * w + i)))
