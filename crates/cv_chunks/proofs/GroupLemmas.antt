-- Lemmas on a group of chunks.
use Rattle.std.proofs.Common.{◌≡◌, ◌⊎◌, ◌∙◌, ⊎_elim, ap, sym, refl, ℕ, List, [], ◌∷◌, ◌++◌, take, drop}
use Rattle.std.proofs.Common.{reverse, Vec}
use Rattle.std.specs.List.{AllZip, each_same, flat_map}
use Rattle.std.proofs.lemmas.List.{append_assoc, reverse-append, take-append-drop}
use Rattle.std.proofs.lemmas.List.Concat.{flat_map-append}
use Rattle.std.specs.Vec.{vec_len}

-- what a shared vector holds is the same when it is written to, whether it was copied for that or not
pub same_owned : {X Z : Type 0} (old now : Vec X Z) → (now ≡ old) ⊎ (AllZip (λ source clone. clone ≡
    source) old.items now.items × (vec_len now ≡ vec_len old))
    → now.items ≡ old.items
same_owned old now owned = ⊎_elim (λ same. ap (λ v. v.items) same) (λ cloned. each_same old.items now.items
    cloned.0) owned

-- a row taken off the end of the items, and put before the rows that were taken before
pub row_taken : {X P : Type 0} (content : P → List X) (n : ℕ) (items left row all : List X) (rows longer :
    List P) (made : P)
    → left ≡ take n items → row ≡ drop n items → content made ≡ row → longer ≡ rows ++ made ∷ []
    → items ++ flat_map content (reverse rows) ≡ all → left ++ flat_map content (reverse longer) ≡ all
row_taken content n items left row all rows longer made front back is more before =
    rw (
      more,
      reverse-append rows (made ∷ []),
      is,
      front,
      back,
      ← append_assoc (take n items) (drop n items) (flat_map content (reverse rows)),
      take-append-drop n items,
    ) before

-- the elements of all chunks of all groups are those of the chunks in one row
pub flat_twice : {T : Type 0} (groups : List (List (List T)))
    → flat_map (flat_map (λ chunk. chunk)) groups ≡ flat_map (λ chunk. chunk) (flat_map (λ group. group)
    groups)
flat_twice [] = refl
flat_twice (group ∷ groups) =
    ap (λ rest. flat_map (λ chunk. chunk) group ++ rest) (flat_twice groups)
    ∙ sym (flat_map-append (λ chunk. chunk) group (flat_map (λ group. group) groups))
