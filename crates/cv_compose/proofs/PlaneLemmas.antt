-- Planes that are merged from the left.
use Rattle.std.proofs.Common.{◌≡◌, ℕ, ◌+◌, ◌<◌, List, ◌∷◌, [], ◌++◌, length, get_or, set, take, drop, arith, ap, sym}
use Rattle.std.proofs.Common.{◌∙◌, refl, append_assoc, drop-cons, add-one}
use Rattle.std.proofs.Common.{map}
use Rattle.std.proofs.lemmas.List.{take_more, take_more_set, drop-set-lt, map-append}
use Rattle.cv_model.specs.declared.blend.Blend.{Blend}
use Rattle.cv_model.specs.declared.blend.Blend.TheVariants.{Normal, ColorDodge, ColorBurn}
use Rattle.cv_model.specs.Blends.{channel_merged, mixed, color_dodge, color_burn}
use Rattle.cv_model.specs.declared.colour.Rgb.{Rgb}
use Rattle.cv_compose.specs.Planes.{merged_plane, blended_plane, colours}

-- what lies from i on begins with the item at i
pub drop_more : {A : Type 0} (xs : List A) (i : ℕ) (d : A) → i < length xs → drop i xs ≡ get_or xs i d ∷ drop (i + 1) xs
drop_more xs i d within = drop-cons xs i d within ∙ ap (λ n. get_or xs i d ∷ drop n xs) (sym (add-one i))

-- the channels from i on, merged, begin with that at i
merged_more : (f : ℕ → ℕ → ℕ → ℕ) (below source alpha : List ℕ) (i : ℕ) → i < length below
    → i < length source → i < length alpha
    → merged_plane f (drop i below) (drop i source) (drop i alpha)
    ≡ f (get_or alpha i 0) (get_or below i 0) (get_or source i 0)
    ∷ merged_plane f (drop (i + 1) below) (drop (i + 1) source) (drop (i + 1) alpha)
merged_more f below source alpha i b s a =
    rw (drop_more below i 0 b, drop_more source i 0 s, drop_more alpha i 0 a) refl

-- the channels up to i are merged and those from i on aren't: one more merged gives the same in the end
pub merged_plane_step : (f : ℕ → ℕ → ℕ → ℕ) (below source alpha : List ℕ) (i v : ℕ) → i < length below
    → length source ≡ length below → length alpha ≡ length below
    → v ≡ f (get_or alpha i 0) (get_or below i 0) (get_or source i 0)
    → take (i + 1) (set below i v) ++ merged_plane f (drop (i + 1) (set below i v)) (drop (i + 1) source) (drop (i + 1) alpha)
    ≡ take i below ++ merged_plane f (drop i below) (drop i source) (drop i alpha)
merged_plane_step f below source alpha i v within sources alphas is =
    let rest = merged_plane f (drop (i + 1) below) (drop (i + 1) source) (drop (i + 1) alpha) in
    ap (λ xs. xs ++ merged_plane f (drop (i + 1) (set below i v)) (drop (i + 1) source) (drop (i + 1) alpha))
    (take_more_set below i v within)
    ∙ ap (λ xs. (take i below ++ v ∷ []) ++ merged_plane f xs (drop (i + 1) source) (drop (i + 1) alpha))
    (drop-set-lt (i + 1) below i v (omega arith))
    ∙ append_assoc (take i below) (v ∷ []) rest
    ∙ ap (λ x. take i below ++ x ∷ rest) is
    ∙ ap (λ xs. take i below ++ xs) (sym (merged_more f below source alpha i within (omega arith) (omega arith)))

-- items that are written from the left, each seen as the one at its place of another list, are so up to the next
pub seen_step : {A B C : Type 0} (f : A → C) (g : B → C) (xs : List A) (ys : List B) (i : ℕ) (v : A) (d : B)
    → i < length xs → i < length ys → map f (take i xs) ≡ map g (take i ys) → f v ≡ g (get_or ys i d)
    → map f (take (i + 1) (set xs i v)) ≡ map g (take (i + 1) ys)
seen_step f g xs ys i v d x y before here =
    ap (map f) (take_more_set xs i v x) ∙ map-append f (take i xs) (v ∷ [])
    ∙ ap (λ front. front ++ f v ∷ []) before ∙ ap (λ z. map g (take i ys) ++ z ∷ []) here
    ∙ sym (map-append g (take i ys) (get_or ys i d ∷ [])) ∙ ap (map g) (sym (take_more ys i d y))

-- the channels up to i are blended and those from i on aren't: one more blended gives the same in the end
pub blended_plane_step : (mode : Blend) (below source : List ℕ) (i v : ℕ) → i < length source
    → length below ≡ length source → v ≡ channel_merged mode 255 (get_or below i 0) (get_or source i 0)
    → take (i + 1) (set source i v) ++ blended_plane mode (drop (i + 1) below) (drop (i + 1) (set source i v))
    ≡ take i source ++ blended_plane mode (drop i below) (drop i source)
blended_plane_step mode below source i v within lengths is =
    let rest = blended_plane mode (drop (i + 1) below) (drop (i + 1) source) in
    let more : blended_plane mode (drop i below) (drop i source)
    ≡ channel_merged mode 255 (get_or below i 0) (get_or source i 0) ∷ rest =
    rw (drop_more below i 0 (omega arith), drop_more source i 0 within) refl in
    ap (λ xs. xs ++ blended_plane mode (drop (i + 1) below) (drop (i + 1) (set source i v))) (take_more_set source i v within)
    ∙ ap (λ xs. (take i source ++ v ∷ []) ++ blended_plane mode (drop (i + 1) below) xs)
    (drop-set-lt (i + 1) source i v (omega arith))
    ∙ append_assoc (take i source) (v ∷ []) rest ∙ ap (λ x. take i source ++ x ∷ rest) is
    ∙ ap (λ xs. take i source ++ xs) (sym more)

-- the pixels up to i have the planes' colours: one more written leaves them with all colours in the end
pub colours_step : (pixels : List Rgb) (r g b : List ℕ) (i : ℕ) (v : Rgb) → i < length pixels → length r ≡ length pixels
    → length g ≡ length pixels → length b ≡ length pixels
    → v ≡ record { r = get_or r i 0; g = get_or g i 0; b = get_or b i 0 }
    → take (i + 1) (set pixels i v) ++ colours (drop (i + 1) r) (drop (i + 1) g) (drop (i + 1) b)
    ≡ take i pixels ++ colours (drop i r) (drop i g) (drop i b)
colours_step pixels r g b i v within red green blue is =
    let rest = colours (drop (i + 1) r) (drop (i + 1) g) (drop (i + 1) b) in
    let more : colours (drop i r) (drop i g) (drop i b)
    ≡ record { r = get_or r i 0; g = get_or g i 0; b = get_or b i 0 } ∷ rest =
    rw (drop_more r i 0 (omega (arith, red)), drop_more g i 0 (omega (arith, green)), drop_more b i 0 (omega (arith, blue))) refl in
    ap (λ xs. xs ++ rest) (take_more_set pixels i v within)
    ∙ append_assoc (take i pixels) (v ∷ []) rest ∙ ap (λ x. take i pixels ++ x ∷ rest) is
    ∙ ap (λ xs. take i pixels ++ xs) (sym more)

-- channels that were blended as if they were opaque are merged as those of the normal mode
blended_then_mixed : (mode : Blend) → ((a cb cs : ℕ) → channel_merged mode a cb cs ≡ channel_merged Normal a cb (channel_merged mode 255 cb cs))
    → (below source alphas : List ℕ)
    → merged_plane (channel_merged Normal) below (blended_plane mode below source) alphas
    ≡ merged_plane (channel_merged mode) below source alphas
blended_then_mixed mode same [] source alphas = refl
blended_then_mixed mode same (cb ∷ below) [] alphas = refl
blended_then_mixed mode same (cb ∷ below) (cs ∷ source) [] = refl
blended_then_mixed mode same (cb ∷ below) (cs ∷ source) (a ∷ alphas) =
    ap (λ x. x ∷ merged_plane (channel_merged Normal) below (blended_plane mode below source) alphas) (sym (same a cb cs))
    ∙ ap (λ rest. channel_merged mode a cb cs ∷ rest) (blended_then_mixed mode same below source alphas)

-- an opaque channel hides the one below
opaque_hides : (cb c : ℕ) → mixed 255 cb c ≡ c
opaque_hides cb c = omega arith

pub dodge_as_normal : (below source alphas : List ℕ)
    → merged_plane (channel_merged Normal) below (blended_plane ColorDodge below source) alphas
    ≡ merged_plane (channel_merged ColorDodge) below source alphas
dodge_as_normal below source alphas =
    blended_then_mixed ColorDodge (λ a cb cs. ap (mixed a cb) (sym (opaque_hides cb (color_dodge cb cs)))) below source alphas

pub burn_as_normal : (below source alphas : List ℕ)
    → merged_plane (channel_merged Normal) below (blended_plane ColorBurn below source) alphas
    ≡ merged_plane (channel_merged ColorBurn) below source alphas
burn_as_normal below source alphas =
    blended_then_mixed ColorBurn (λ a cb cs. ap (mixed a cb) (sym (opaque_hides cb (color_burn cb cs)))) below source alphas

-- the modes that divide
pub ruleset divided_rules = (dodge_as_normal, burn_as_normal)
