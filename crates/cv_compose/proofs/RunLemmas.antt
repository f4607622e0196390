-- Runs of pixels merged plane by plane are merged pixel by pixel.
use Rattle.std.proofs.Common.{◌≡◌, ℕ, ◌<◌, ◌==◌, ◌&&◌, true, false, List, ◌∷◌, [], length, get_or, map, arith, ap, ◌∙◌, refl, Bool, suc}
use Rattle.std.proofs.lemmas.Bool.{eqb-true}
use Rattle.std.specs.List.{list_all}
use Rattle.cv_model.specs.declared.blend.Blend.{Blend}
use Rattle.cv_model.specs.declared.blend.Blend.TheVariants.{Normal, Multiply, Screen, Overlay, Darken, Lighten}
use Rattle.cv_model.specs.declared.blend.Blend.TheVariants.{ColorDodge, ColorBurn, HardLight, Difference}
use Rattle.cv_model.specs.declared.blend.Blend.TheVariants.{Exclusion, Addition}
use Rattle.cv_model.specs.declared.colour.Rgba.{Rgba}
use Rattle.cv_model.specs.Blends.{merge, channel_merged, effective, mixed}
use Rattle.cv_compose.specs.Planes.{red, green, blue, alpha, merged_plane, colours}
use Rattle.cv_compose.specs.Runs.{merged_run}

-- the effective alphas of a run
abbrev pub weighed : ℕ → List Rgba → List ℕ
weighed opacity pixels = map (λ a. effective a opacity) (map alpha pixels)

-- the colours of three planes, each merged, are the colours merged
pub colours_merged : (opacity : ℕ) (mode : Blend) (r g b : List ℕ) (pixels : List Rgba)
    → colours (merged_plane (channel_merged mode) r (map red pixels) (weighed opacity pixels))
    (merged_plane (channel_merged mode) g (map green pixels) (weighed opacity pixels))
    (merged_plane (channel_merged mode) b (map blue pixels) (weighed opacity pixels))
    ≡ merged_run opacity mode (colours r g b) pixels
colours_merged opacity mode [] g b pixels = refl
colours_merged opacity mode (x ∷ r) [] b [] = refl
colours_merged opacity mode (x ∷ r) [] b (p ∷ pixels) = refl
colours_merged opacity mode (x ∷ r) (y ∷ g) [] [] = refl
colours_merged opacity mode (x ∷ r) (y ∷ g) [] (p ∷ pixels) = refl
colours_merged opacity mode (x ∷ r) (y ∷ g) (z ∷ b) [] = refl
colours_merged opacity mode (x ∷ r) (y ∷ g) (z ∷ b) (p ∷ pixels) =
    ap (λ rest. merge (record { r = x; g = y; b = z }) p opacity mode ∷ rest) (colours_merged opacity mode r g b pixels)

-- both of two tests hold where their conjunction does
and_both : (s t : Bool) → (s && t) ≡ true → (s ≡ true) × (t ≡ true)
and_both true t both = (refl, both)
and_both false t both = absurd (cc)

-- what isn't seen of a layer leaves a channel as it is
mixed_none : (cb c : ℕ) → mixed 0 cb c ≡ cb
mixed_none cb c = omega arith

clear_channel : (mode : Blend) (cb cs : ℕ) → cb < 256 → channel_merged mode 0 cb cs ≡ cb
clear_channel Normal cb cs byte = mixed_none cb _
clear_channel Multiply cb cs byte = mixed_none cb _
clear_channel Screen cb cs byte = mixed_none cb _
clear_channel Overlay cb cs byte = mixed_none cb _
clear_channel Darken cb cs byte = mixed_none cb _
clear_channel Lighten cb cs byte = mixed_none cb _
clear_channel ColorDodge cb cs byte = mixed_none cb _
clear_channel ColorBurn cb cs byte = mixed_none cb _
clear_channel HardLight cb cs byte = mixed_none cb _
clear_channel Difference cb cs byte = mixed_none cb _
clear_channel Exclusion cb cs byte = mixed_none cb _
clear_channel Addition cb cs byte = omega arith

-- and a colour
clear_pixel : (opacity : ℕ) (mode : Blend) (x y z : ℕ) (p : Rgba) → effective p.a opacity ≡ 0
    → x < 256 → y < 256 → z < 256
    → merge (record { r = x; g = y; b = z }) p opacity mode ≡ record { r = x; g = y; b = z }
clear_pixel opacity mode x y z p none bx by bz =
    rw (none, clear_channel mode x p.r bx, clear_channel mode y p.g by, clear_channel mode z p.b bz) refl

-- and a run
pub clear_run : (opacity : ℕ) (mode : Blend) (r g b : List ℕ) (pixels : List Rgba)
    → length r ≡ length pixels
    → ((k : ℕ) → get_or r k 0 < 256) → ((k : ℕ) → get_or g k 0 < 256) → ((k : ℕ) → get_or b k 0 < 256)
    → list_all (λ a. a == 0) (weighed opacity pixels) ≡ true
    → merged_run opacity mode (colours r g b) pixels ≡ colours r g b
clear_run opacity mode [] g b pixels len br bg bb clear = refl
clear_run opacity mode (x ∷ r) [] b pixels len br bg bb clear = refl
clear_run opacity mode (x ∷ r) (y ∷ g) [] pixels len br bg bb clear = refl
clear_run opacity mode (x ∷ r) (y ∷ g) (z ∷ b) [] len br bg bb clear = absurd (omega arith)
clear_run opacity mode (x ∷ r) (y ∷ g) (z ∷ b) (p ∷ pixels) len br bg bb clear =
    let both = and_both (effective p.a opacity == 0) (list_all (λ a. a == 0) (weighed opacity pixels)) clear in
    let none = eqb-true (effective p.a opacity) 0 both.0 in
    ap (λ c. c ∷ merged_run opacity mode (colours r g b) pixels) (clear_pixel opacity mode x y z p none (br 0) (bg 0) (bb 0))
    ∙ ap (λ rest. record { r = x; g = y; b = z } ∷ rest)
    (clear_run opacity mode r g b pixels (omega arith) (λ k. br (suc k)) (λ k. bg (suc k)) (λ k. bb (suc k)) both.1)
