-- What a colour over others comes to, where it is opaque, or where they are clear or opaque.
use Rattle.std.proofs.Common.{◌≡◌, ℕ, ◌+◌, ◌-◌, ◌*◌, ◌/◌, ◌<◌, ◌≤◌, Bool, true, false, ◌&&◌, ◌==◌, List, [], ◌∷◌, ◌++◌}
use Rattle.std.proofs.Common.{map, length, get_or, set, take, drop, replicate, arith, ap, ◌∙◌, refl}
use Rattle.std.proofs.Math.Nat.{mul-div-mul_left}
use Rattle.std.proofs.lemmas.Bool.Decides.{nat_tests}
use Rattle.std.proofs.lemmas.Nat.{div-mul-add}
use Rattle.std.proofs.lemmas.List.{length-append, length-map, length-take, length-drop, get_or_default}
use Rattle.std.proofs.lemmas.List.Edits.{map_over_more}
use Rattle.std.specs.List.{list_all}
use Rattle.cv_number.specs.Rounding.{rnd}
use Rattle.cv_model.specs.declared.colour.Rgba.{Rgba}
use Rattle.cv_model.specs.Colours.{over, covered, channel_over}
use Rattle.cv_canvas.specs.Mixing.{byte_over, on_opaque, has_alpha}

-- a loop that changes each item in place, one item further
pub rewritten : {A : Type 0} (f : A → A) (xs ys : List A) (i : ℕ) (v d : A) → i < length xs
    → ys ≡ map f (take i xs) ++ drop i xs → v ≡ f (get_or ys i d)
    → set ys i v ≡ map f (take (i + 1) xs) ++ drop (i + 1) xs
rewritten f xs ys i v d below so_far read =
    let long : i < length ys =
    rw so_far (simp (length-append, length-map, length-take, length-drop) (omega arith)) in
    rw read
    (map_over_more f xs ys i (get_or ys i d) below so_far (get_or_default ys i d (get_or ys i d) long))

-- a number times what it is divided by
pub rnd_exact : (c d : ℕ) → 0 < d → rnd (d * c) d ≡ c
rnd_exact c d some =
    let e : 2 * (d * c) + d ≡ c * (2 * d) + d = grind arith in
    rw e (div-mul-add c (2 * d) d (omega arith))

-- four equal fields are equal colours
pub same_colour : (s : Rgba) (r g b a : ℕ) → r ≡ s.r → g ≡ s.g → b ≡ s.b → a ≡ s.a
    → (let made : Rgba = record { r = r; g = g; b = b; a = a } in made) ≡ s
same_colour s r g b a er eg eb ea = rw (er, eg, eb, ea) refl

-- a channel of a source beside which the backdrop weighs nothing
channel_alone : (sa c ba x : ℕ) → 0 < sa → ba * (255 - sa) ≡ 0 → channel_over sa c ba x ≡ c
channel_alone sa c ba x some none =
    let n : 255 * sa * c + ba * (255 - sa) * x ≡ 255 * sa * c = rw none (omega arith) in
    let d : covered sa ba ≡ 255 * sa = omega (arith, none) in rw (n, d) (rnd_exact c (255 * sa) (omega arith))

-- a source beside which the backdrop weighs nothing stays
over_alone : (s b : Rgba) → 0 < s.a → b.a * (255 - s.a) ≡ 0 → over s b ≡ s
over_alone s b some none =
    let d : covered s.a b.a ≡ 255 * s.a = omega (arith, none) in
    let t : (covered s.a b.a == 0) ≡ false = grind (arith, nat_tests) in
    rw t (same_colour s _ _ _ _ (channel_alone s.a s.r b.a b.r some none)
    (channel_alone s.a s.g b.a b.g some none) (channel_alone s.a s.b b.a b.b some none)
    (rw d (rnd_exact s.a 255 (omega arith))))

-- an opaque source covers all
pub over_opaque : (s b : Rgba) → s.a ≡ 255 → over s b ≡ s
over_opaque s b full = over_alone s b (omega arith) (rw full (omega arith))

-- a source over a clear backdrop is the source
pub over_clear : (s b : Rgba) → 0 < s.a → b.a ≡ 0 → over s b ≡ s
over_clear s b some none = over_alone s b some (rw none (omega arith))

-- 255 times a sum, divided by 65,025
scaled : (m : ℕ) → (2 * (255 * m) + 65025) / 130050 ≡ (2 * m + 255) / 510
scaled m =
    let e : 2 * (255 * m) + 65025 ≡ 255 * (2 * m + 255) = omega arith in
    rw e (mul-div-mul_left (2 * m + 255) 510 (omega arith))

-- a channel over that of an opaque backdrop is divided by 255 alone
channel_on_opaque : (sa c ba x : ℕ) → sa ≤ 255 → ba ≡ 255 → channel_over sa c ba x ≡ byte_over sa c x
channel_on_opaque sa c ba x most full =
    let n : 255 * sa * c + ba * (255 - sa) * x ≡ 255 * (sa * c + (255 - sa) * x) = rw full (omega arith) in
    let d : covered sa ba ≡ 65025 = rw full (omega arith) in rw (n, d) (scaled (sa * c + (255 - sa) * x))

-- a source over an opaque backdrop
over_on_opaque : (s b : Rgba) → s.a ≤ 255 → b.a ≡ 255 → over s b ≡ on_opaque s b
over_on_opaque s b most full =
    let d : covered s.a b.a ≡ 65025 = rw full (omega arith) in
    let t : (covered s.a b.a == 0) ≡ false = grind (arith, nat_tests) in
    let e : s.a * 255 + (255 - s.a) * 255 ≡ 65025 = omega arith in
    rw t (same_colour (on_opaque s b) _ _ _ _ (channel_on_opaque s.a s.r b.a b.r most full)
    (channel_on_opaque s.a s.g b.a b.g most full) (channel_on_opaque s.a s.b b.a b.b most full)
    (rw (d, e) refl))

-- two tests that hold together both hold
both : (p q : Bool) → (p && q) ≡ true → (p ≡ true) × (q ≡ true)
both true q h = (refl, h)
both false q h = cc

-- a pixel with an alpha
alpha_is : (n : ℕ) (x : Rgba) → has_alpha n x ≡ true → x.a ≡ n
alpha_is n x h = grind (arith, nat_tests)

-- a colour laid on all, where it is laid alike on the first and on the others
laid_alike : (f g : Rgba → Rgba) (x : Rgba) (xs : List Rgba) → f x ≡ g x → map f xs ≡ map g xs
    → map f (x ∷ xs) ≡ map g (x ∷ xs)
laid_alike f g x xs first rest = ap (λ y. y ∷ map f xs) first ∙ ap (λ ys. g x ∷ ys) rest

-- an opaque colour laid on all
pub map_of_opaque : (s : Rgba) (xs : List Rgba) → s.a ≡ 255 → map (over s) xs ≡ replicate (length xs) s
map_of_opaque s [] full = refl
map_of_opaque s (x ∷ xs) full =
    ap (λ y. y ∷ map (over s) xs) (over_opaque s x full) ∙ ap (λ ys. s ∷ ys) (map_of_opaque s xs full)

-- a colour laid on clear pixels
pub map_clear : (s : Rgba) (xs : List Rgba) → 0 < s.a → list_all (has_alpha 0) xs ≡ true
    → map (over s) xs ≡ replicate (length xs) s
map_clear s [] some clear = refl
map_clear s (x ∷ xs) some clear =
    let have = both (has_alpha 0 x) (list_all (has_alpha 0) xs) clear in
    ap (λ y. y ∷ map (over s) xs) (over_clear s x some (alpha_is 0 x have.0))
    ∙ ap (λ ys. s ∷ ys) (map_clear s xs some have.1)

-- a colour laid on opaque pixels
pub map_on_opaque : (s : Rgba) (xs : List Rgba) → s.a ≤ 255 → list_all (has_alpha 255) xs ≡ true
    → map (over s) xs ≡ map (on_opaque s) xs
map_on_opaque s [] most full = refl
map_on_opaque s (x ∷ xs) most full =
    let have = both (has_alpha 255 x) (list_all (has_alpha 255) xs) full in
    laid_alike (over s) (on_opaque s) x xs (over_on_opaque s x most (alpha_is 255 x have.0))
    (map_on_opaque s xs most have.1)

-- the cases of a run, in which its pixels are not mixed one by one
pub ruleset lay_rules = (map_of_opaque, map_clear, map_on_opaque)
