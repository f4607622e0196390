-- Lists as stacks.
use Rattle.std.specs.Prelude.{◌≡◌, List, [], ◌∷◌, Option, Some, None}

-- the first item of a list, if it has one
abbrev pub first_of : {A : Type 0} → List A → Option A
first_of [] = None
first_of (x ∷ xs) = Some x

-- an item that was taken from before the others; none where there were none
abbrev pub Popped : {A : Type 0} → Option A → List A → List A → Type 0
Popped None before behind = before ≡ []
Popped (Some x) before behind = before ≡ x ∷ behind
