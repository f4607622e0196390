-- Lemmas on a list in parts.
use Rattle.std.proofs.Common.{◌≡◌, ℕ, ◌+◌, ◌-◌, ◌<◌, ◌≤◌, Bool, false, Option, None, List, [], ◌∷◌, ◌++◌}
use Rattle.std.proofs.Common.{length, take, drop, get_or, set, suc, refl, sym, ap, subst, ◌∙◌, Some, arith}
use Rattle.std.proofs.Common.{add-one, length-append, length-take}
use Rattle.std.specs.Prelude.{slice_get, insert, remove, IsSomeAnd}
use Rattle.std.specs.List.{flat_map}
use Rattle.std.proofs.Math.Seq.{drop-cons, drop-append-add, take-append-le, drop-append-le}
use Rattle.std.proofs.lemmas.List.{get_or_at, take_all, take_at, take_more_set, take_more, take-append-drop}
use Rattle.std.proofs.lemmas.List.{take-set, drop-set-lt, nil_from_length, set_split, append_assoc}
use Rattle.std.proofs.lemmas.List.{set-append_left, set-append_right}
use Rattle.std.proofs.lemmas.List.Concat.{flat_map-append}
use Rattle.std.proofs.lemmas.List.Edits.{insert-append_left, insert-append_right, remove-append_left}
use Rattle.std.proofs.lemmas.List.Edits.{remove-append_right}
use Rattle.std.proofs.lemmas.Option.{slice_get-get_or, slice_get_within, get_or_from_slice_get}
use Rattle.std.proofs.lemmas.Grind.{common_steps}
use Rattle.cv_chunks.specs.Parts.{IsWithin, IsSpot, IsSplit, IsRunFrom}

-- the element behind a front
get_at : {X : Type 0} (front : List X) (x : X) (back : List X) (n : ℕ) → length front ≡ n
    → slice_get (front ++ x ∷ back) n ≡ Some x
get_at front x back n long =
    slice_get-get_or (front ++ x ∷ back) n x (omega (arith, long, length-append front (x ∷ back)))
    ∙ ap Some (get_or_at front x back x n long)

module _ {P T : Type 0} (items : P → List T) where
  -- the whole is what stands before a part, the part, and what stands behind it
  pub flat_split : (parts : List P) (i : ℕ) (d : P) → i < length parts
      → flat_map items parts ≡ flat_map items (take i parts) ++ (items (get_or parts i d) ++ flat_map items
      (drop (suc i) parts))
  flat_split parts i d within =
      ap (flat_map items) (sym (take-append-drop i parts) ∙ ap (λ rest. take i parts ++ rest) (drop-cons
      parts i d within))
      ∙ flat_map-append items (take i parts) _

  -- the same where another part takes its place
  pub flat_set : (parts : List P) (i : ℕ) (part : P) → i < length parts
      → flat_map items (set parts i part) ≡ flat_map items (take i parts) ++ (items part ++ flat_map items
      (drop (suc i) parts))
  flat_set parts i part within = ap (flat_map items) (set_split parts i part within)
      ∙ flat_map-append items (take i parts) _

  -- one part more stands before the next
  pub before_more : (parts : List P) (i : ℕ) (d : P) → i < length parts
      → length (flat_map items (take (i + 1) parts)) ≡ length (flat_map items (take i parts)) + length
      (items (get_or parts i d))
  before_more parts i d within =
      rw (take_more parts i d within, flat_map-append) (grind (arith, common_steps))

-- an edit inside what stands between two others
module _ {T : Type 0} (front mid back : List T) where
  pub set_inside : (w : ℕ) (x : T) → w < length mid → set (front ++ (mid ++ back)) (length front + w) x ≡
      front ++ (set mid w x ++ back)
  set_inside w x within = grind (
    arith,
    set-append_left mid back w x within,
    set-append_right front (mid ++
        back) (length front) (length front + w) x,
  )

  pub insert_inside : (w : ℕ) (x : T) → w ≤ length mid → insert (front ++ (mid ++ back)) (length front + w)
      x ≡ front ++ (insert mid w x ++ back)
  insert_inside w x within = grind (
    arith,
    insert-append_left mid back w x within,
    insert-append_right
        front (mid ++ back) (length front) (length front + w) x,
  )

  pub remove_inside : (w : ℕ) → w < length mid → remove (front ++ (mid ++ back)) (length front + w) ≡ front
      ++ (remove mid w ++ back)
  remove_inside w within = grind (
    arith,
    remove-append_left mid back w within,
    remove-append_right front
        (mid ++ back) (length front) (length front + w),
  )

module _ {P T : Type 0} (items : P → List T) where
  -- the part that a search along the parts stopped at
  pub place_found : (parts : List P) (place number within : ℕ) (part : P) → number < length parts
      → part ≡ get_or parts number part
      → place ≡ length (flat_map items (take number parts)) + within → within < length (items part)
      → IsSomeAnd (slice_get parts number) (IsWithin items parts place number within)
  place_found parts place number within part here read behind before =
      let found : slice_get parts number ≡ Some part = slice_get-get_or parts number part here
      ∙ ap Some (sym read) in
      rw found (record { found = found; behind = behind; before_end = before })

  -- what the part found has, and what stands round it
  pub whole_at : (parts : List P) (place number within : ℕ) (part : P)
      → IsWithin items parts place number within part
      → flat_map items parts ≡ flat_map items (take number parts) ++ (items part ++ flat_map items (drop
      (suc number) parts))
  whole_at parts place number within part is =
      rw (get_or_from_slice_get parts number part part is.found) at (flat_split items parts number part
      (slice_get_within parts number part is.found))

  pub set_at_place : (parts : List P) (place number within : ℕ) (part next : P) (x : T)
      → IsWithin items parts place number within part
      → items next ≡ set (items part) within x → flat_map items (set parts number next) ≡ set (flat_map
      items parts) place x
  set_at_place parts place number within part next x is edit =
      let here = slice_get_within parts number part is.found in
      rw (flat_set items parts number next here, edit, whole_at parts place number within part is, is.behind)
      (sym (set_inside (flat_map items (take number parts)) (items part) (flat_map items (drop (suc number)
      parts)) within x is.before_end))

  pub remove_at_place : (parts : List P) (place number within : ℕ) (part next : P)
      → IsWithin items parts place number within part
      → items next ≡ remove (items part) within → flat_map items (set parts number next) ≡ remove (flat_map
      items parts) place
  remove_at_place parts place number within part next is edit =
      let here = slice_get_within parts number part is.found in
      rw (flat_set items parts number next here, edit, whole_at parts place number within part is, is.behind)
      (sym (remove_inside (flat_map items (take number parts)) (items part) (flat_map items (drop (suc
      number) parts)) within is.before_end))

module _ {P : Type 0} (Q : P → Type 0) where
  -- what is known of the part at a number holds of the part that is read there
  pub at_part : (parts : List P) (number : ℕ) (part : P) → IsSomeAnd (slice_get parts number) Q
      → part ≡ get_or parts number part
      → (slice_get parts number ≡ Some part) × Q part
  at_part parts number part known read =
      let it = some_of (slice_get parts number) known in
      let same : part ≡ it.0 = read ∙ get_or_from_slice_get parts number it.0 part it.1 in
      (it.1 ∙ ap Some (sym same), subst Q (sym same) it.2)
    where
      some_of : (o : Option P) → IsSomeAnd o Q → (it : P) × (o ≡ Some it) × Q it
      some_of None known = elim known [ ]
      some_of (Some it) known = (it, refl, known)

module _ {P T : Type 0} (items : P → List T) where
  -- a run of the part that was found is a run of the whole
  pub run_at_place : (parts : List P) (place number within : ℕ) (part : P) (run : List T)
      → IsWithin items parts place number within part
      → IsRunFrom (items part) within run → IsRunFrom (flat_map items parts) place run
  run_at_place parts place number within part run is of_part =
      let front = flat_map items (take number parts) in
      let back = flat_map items (drop (suc number) parts) in
      let long : length run ≤ length (drop within (items part)) =
      omega (arith, ap length of_part.same, length-take (length run) (drop within (items part))) in
      record {
        some = of_part.some;
        same = rw (
          whole_at items parts place number within part is,
          is.behind,
          drop-append-add front (items part ++ back) within,
          drop-append-le within (items part) back (omega arith),
          take-append-le (length run) (drop within (items part)) back long,
        )
            of_part.same;
      }

  -- nothing changes where the part has the same elements
  pub same_at_part : (parts : List P) (number : ℕ) (part next : P) → slice_get parts number ≡ Some part
      → items next ≡ items part → flat_map items (set parts number next) ≡ flat_map items parts
  same_at_part parts number part next found edit =
      let here = slice_get_within parts number part found in
      rw (flat_set items parts number next here, edit)
      (sym (rw (get_or_from_slice_get parts number part part found) at (flat_split items parts number part
      here)))

  -- a part without elements may go
  pub without_empty : (parts : List P) (number : ℕ) (next : P) → number < length parts
      → length (items next) ≡ 0
      → flat_map items (remove (set parts number next) number) ≡ flat_map items (set parts number next)
  without_empty parts number next here empty =
      rw (
        flat_set items parts number next here,
        nil_from_length (items next) empty,
        remove_set parts
            number next here,
      )
      (flat_map-append items (take number parts) (drop (suc number) parts))
    where
      remove_set : (xs : List P) (i : ℕ) (x : P) → i < length xs
          → remove (set xs i x) i ≡ take i xs ++ drop (suc i) xs
      remove_set xs i x within = rw (take-set xs i x, drop-set-lt (suc i) xs i x (omega arith)) refl

  -- a part is no longer than the whole
  pub part_fits : (parts : List P) (number : ℕ) (part : P) → slice_get parts number ≡ Some part
      → length (items part) ≤ length (flat_map items parts)
  part_fits parts number part found =
      let here = slice_get_within parts number part found in
      let split = rw (get_or_from_slice_get parts number part part found) at (flat_split items parts number
      part here) in
      omega (
        arith,
        ap length split,
        length-append (flat_map items (take number parts)) (items part ++ flat_map items (drop (suc number)
            parts)),
        length-append (items part) (flat_map items (drop (suc number) parts)),
      )

  -- an element put into a part at the spot for it
  pub insert_at_spot : (full : P → Bool) (parts : List P) (place number within : ℕ) (part next : P) (x : T)
      → IsSpot items full parts place number within part
      → items next ≡ insert (items part) within x → flat_map items (set parts number next) ≡ insert
      (flat_map items parts) place x
  insert_at_spot full parts place number within part next x is edit =
      let here = slice_get_within parts number part is.found in
      let split = rw (get_or_from_slice_get parts number part part is.found) at (flat_split items parts
      number part here) in
      rw (flat_set items parts number next here, edit, split, is.behind)
      (sym (insert_inside (flat_map items (take number parts)) (items part) (flat_map items (drop (suc
      number) parts)) within x is.up_to_end))

-- one part cut in two
module _ {P T : Type 0} (items : P → List T) (full : P → Bool) (old new : List P) (number long : ℕ) (part
    front back : P) where
  -- the new list of parts, as pieces of the old one
  pub split_parts : IsSplit items full old new number long part front back
      → new ≡ take number old ++ front ∷ back ∷ drop (suc number) old
  split_parts is =
      let here = slice_get_within old number part is.found in
      is.parts ∙ rw (
        take_more_set old number front here,
        drop-set-lt (number + 1) old number front (omega
            arith),
        add-one number,
      )
      (append_assoc (take number old) (front ∷ []) (back ∷ drop (suc number) old))

  -- the whole stays
  pub split_same : IsSplit items full old new number long part front back
      → flat_map items new ≡ flat_map items old
  split_same is =
      let here = slice_get_within old number part is.found in
      let after = flat_map items (drop (suc number) old) in
      rw (split_parts is, flat_map-append, ← append_assoc (items front) (items back) after, is.same)
      (sym (rw (get_or_from_slice_get old number part part is.found) at (flat_split items old number part
      here)))

  split_long : IsSplit items full old new number long part front back → length (take number old) ≡ number
  split_long is = let here = slice_get_within old number part is.found in omega (
    arith,
    length-take number
        old,
  )

  -- a place in the first half
  pub spot_in_front : (place within : ℕ) → IsSplit items full old new number long part front back
      → IsWithin items old place number within part → within < long
      → IsSomeAnd (slice_get new number) (IsSpot items full new place number within)
  spot_in_front place within is was short =
      let it : slice_get new number ≡ Some front =
      rw (split_parts is) (get_at (take number old) front (back ∷ drop (suc number) old) number (split_long
      is)) in
      rw it (record {
        found = it;
        behind = rw (
          split_parts is,
          take_at (take number old) (front ∷ back ∷ drop (suc number) old)
              number (split_long is),
        ) was.behind;
        up_to_end = omega (arith, is.front_long);
        not_full = is.front_not_full;
      })

  -- a place in the second half
  pub spot_in_back : (place within : ℕ) → IsSplit items full old new number long part front back
      → IsWithin items old place number within part → long ≤ within
      → IsSomeAnd (slice_get new (number + 1)) (IsSpot items full new place (number + 1) (within - long))
  spot_in_back place within is was far =
      let before = take number old ++ front ∷ [] in
      let parts : new ≡ before ++ back ∷ drop (suc number) old =
      split_parts is ∙ sym (append_assoc (take number old) (front ∷ []) (back ∷ drop (suc number) old)) in
      let count : length before ≡ number + 1 = omega (
        arith,
        split_long is,
        length-append (take number old)
            (front ∷ []),
      ) in
      let it : slice_get new (number + 1) ≡ Some back =
      rw parts (get_at before back (drop (suc number) old) (number + 1) count) in
      let long_before : length (flat_map items before) ≡ length (flat_map items (take number old)) + long =
      ap length (flat_map-append items (take number old) (front ∷ []))
      ∙ grind (arith, common_steps, is.front_long) in
      rw it (record {
        found = it;
        behind = rw (parts, take_at before (back ∷ drop (suc number) old) (number + 1) count) (omega
            (arith, was.behind, long_before));
        up_to_end = omega (
          arith,
          is.front_long,
          was.before_end,
          ap length is.same,
          length-append (items
              front) (items back),
        );
        not_full = is.back_not_full;
      })

module _ {P T : Type 0} (items : P → List T) (full : P → Bool) where
  -- the place behind all elements
  pub spot_at_end : (parts : List P) (number : ℕ) (part : P) → slice_get parts number ≡ Some part
      → length parts ≡ number + 1
      → full part ≡ false → IsSomeAnd (slice_get parts number) (IsSpot items full parts (length (flat_map
      items parts)) number (length (items part)))
  spot_at_end parts number part found long room =
      let here = slice_get_within parts number part found in
      let before = rw (
        take_all (number + 1) parts (omega arith),
        get_or_from_slice_get parts number part
            part found,
      )
      at (before_more items parts number part here) in
      rw found (record { found = found; behind = before; up_to_end = omega arith; not_full = room })
