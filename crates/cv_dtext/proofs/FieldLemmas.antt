-- The fields of a record, one more at a time.
use Rattle.std.proofs.Common.{◌≡◌, ◌∙◌, ap, ℕ, suc, ◌+◌, ◌-◌, ◌≤◌, ◌<◌, List, [], ◌∷◌, ◌++◌, length, take}
use Rattle.std.proofs.Common.{drop, slice_index_or, arith}
use Rattle.std.proofs.Math.Seq.{take-suc}
use Rattle.std.proofs.lemmas.List.{get_or-drop, length-drop}

-- the fields from one place up to another have one more at their end
pub take_more : (xs : List (List ℕ)) (from place : ℕ) → from ≤ place → place < length xs
    → take (place + 1 - from) (drop from xs)
    ≡ take (place - from) (drop from xs) ++ slice_index_or xs place [] ∷ []
take_more xs from place low high =
    let more : place + 1 - from ≡ suc (place - from) = omega arith in
    let long = length-drop from xs in
    let within : place - from < length (drop from xs) = omega arith in
    let there : from + (place - from) ≡ place = omega arith in
    ap (λ n. take n (drop from xs)) more ∙ take-suc (drop from xs) (place - from) [] within
    ∙ ap (λ x. take (place - from) (drop from xs) ++ x ∷ [])
    (get_or-drop from xs (place - from) [] ∙ ap (λ n. slice_index_or xs n []) there)
