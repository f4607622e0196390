-- The text of a journal grows by a slot, by a line.
use Rattle.std.proofs.Common.{◌≡◌, ◌∙◌, ap, refl, ℕ, suc, ◌+◌, ◌-◌, ◌/◌, ◌%◌, ◌<◌, ◌==◌, Bool, true, false}
use Rattle.std.proofs.Common.{List, [], ◌∷◌, ◌++◌, append_assoc, arith, if◌then◌else◌}
use Rattle.std.specs.Prelude.{codes}
use Rattle.cv_event.specs.Lines.{ended, corner_part, set_bits}

-- the slots behind a bit, and those of the bits that are left
pub set_bits_more : (xs : List ℕ) (k bits : ℕ) → k < 32
    → (if bits % 2 == 1 then xs ++ k ∷ [] else xs) ++ set_bits (32 - (k + 1)) (k + 1) (bits / 2)
    ≡ xs ++ set_bits (32 - k) k bits
set_bits_more xs k bits below =
    let one_more : suc (32 - (k + 1)) ≡ 32 - k = omega (arith, below) in
    by (bits % 2 == 1) (set_bits (32 - (k + 1)) (k + 1) (bits / 2)) ∙ ap (λ n. xs ++ set_bits n k bits) one_more
  where
    by : (b : Bool) (rest : List ℕ) → (if b then xs ++ k ∷ [] else xs) ++ rest ≡ xs ++ (if b then k ∷ rest else
        rest)
    by true rest = append_assoc xs (k ∷ []) rest
    by false rest = refl

-- the two parts of the end of a view's line
pub view_joined : (text canvas left top unit width height : List ℕ)
    → (text ++ corner_part canvas left top) ++ ended (unit ∷ width ∷ height ∷ [])
    ≡ text ++ ended (codes "view" ∷ canvas ∷ left ∷ top ∷ unit ∷ width ∷ height ∷ [])
view_joined text canvas left top unit width height =
    let size = ended (unit ∷ width ∷ height ∷ []) in
    append_assoc text (corner_part canvas left top) size
    ∙ ap (λ xs. text ++ 32 ∷ (codes "view" ++ 32 ∷ xs))
    (append_assoc canvas (32 ∷ (left ++ 32 ∷ top)) size ∙ ap (λ xs. canvas ++ 32 ∷ xs) (append_assoc left (32 ∷ top)
    size))
