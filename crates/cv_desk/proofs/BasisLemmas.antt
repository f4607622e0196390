-- What of a job never changes.
use Rattle.std.proofs.Common.{◌≡◌, ◌∙◌, sym, ap, refl, ℕ, zero, suc, ◌==◌, Bool, true, false, List, [], ◌∷◌, ◌++◌, map}
use Rattle.std.proofs.Common.{Option, Some, None, is_some, slice_get, length, take, take_all, option_map, subst, IsSomeAnd, arith, if◌then◌else◌}
use Rattle.std.proofs.lemmas.List.{length-map, map-append}
use Rattle.std.proofs.lemmas.Option.{slice_get-map}
use Rattle.cv_model.specs.declared.edit.Edit.{Edit}
use Rattle.cv_model.specs.Paintings.{Input, Painting, frame_of}
use Rattle.cv_model.specs.Views.{PixelGrid}
use Rattle.cv_store.specs.Stores.{StoreParts, project_of, input_in}
use Rattle.cv_event.specs.declared.entry.How.{How}
use Rattle.cv_event.specs.declared.entry.How.TheVariants.{Cancelled}
use Rattle.cv_event.specs.declared.slot.Slot.{Slot}
use Rattle.cv_event.specs.declared.slot.Standing.{Standing}
use Rattle.cv_event.specs.States.{change_at, slot_stands}
use Rattle.cv_tables.specs.Rows.{Row, row_in, change_row, row_ended, row_cancelled, row_stands, row_composed, row_edited, slots_edited}
use Rattle.cv_tables.specs.Rows.{slot_layer, HasSlot, painting_from, painting_of, whole_of}
use Rattle.cv_desk.specs.Answers.{IsPiece}
use Rattle.cv_desk.specs.Desks.{Basis, basis_of, KeepJobs}

-- ---- the same jobs

pub jobs_same : (rows : List Row) → KeepJobs rows rows
jobs_same rows = let size = length-map rows basis_of in take_all (length rows) (map basis_of rows) (omega (arith, size))

pub jobs_alike : (old new : List Row) → map basis_of new ≡ map basis_of old → KeepJobs old new
jobs_alike old new same = ap (take (length old)) same ∙ jobs_same old

basis_change : (f : Row → Row) → ((row : Row) → basis_of (f row) ≡ basis_of row) → (at : ℕ) (rows : List Row)
    → map basis_of (change_at at f rows) ≡ map basis_of rows
basis_change f same at [] = refl
basis_change f same zero (x ∷ xs) = ap (λ b. b ∷ map basis_of xs) (same x)
basis_change f same (suc at) (x ∷ xs) = ap (λ l. basis_of x ∷ l) (basis_change f same at xs)

basis_all : (f : Row → Row) → ((row : Row) → basis_of (f row) ≡ basis_of row) → (rows : List Row) → map basis_of (map f rows) ≡ map basis_of rows
basis_all f same [] = refl
basis_all f same (x ∷ xs) = λ i. same x i ∷ basis_all f same xs i

-- one is changed
pub jobs_one : (f : Row → Row) → ((row : Row) → basis_of (f row) ≡ basis_of row) → (j : ℕ) (rows : List Row) → KeepJobs rows (change_row j f rows)
jobs_one f same zero rows = jobs_same rows
jobs_one f same (suc at) rows = jobs_alike rows (change_at at f rows) (basis_change f same at rows)

pub jobs_ended_kept : (how : How) (j : ℕ) (rows : List Row) → KeepJobs rows (change_row j (row_ended how) rows)
jobs_ended_kept how j rows = jobs_one (row_ended how) (λ row. refl) j rows

pub jobs_composed_kept : (who j : ℕ) (rows : List Row) → KeepJobs rows (change_row j (row_composed who) rows)
jobs_composed_kept who j rows = jobs_one (row_composed who) (λ row. refl) j rows

pub standing_layers : (at : ℕ) (standing : Standing) (list : List Slot) → map slot_layer (change_at at (slot_stands standing) list) ≡ map slot_layer list
standing_layers at standing [] = refl
standing_layers zero standing (x ∷ xs) = refl
standing_layers (suc at) standing (x ∷ xs) = ap (λ ids. x.layer ∷ ids) (standing_layers at standing xs)

-- a basis with other layers
abbrev with_layers : Row → List ℕ → Basis
with_layers row layers = record { canvas = row.canvas; store = row.store; view = row.view; layers = layers }

pub jobs_stand_kept : (at : ℕ) (standing : Standing) (j : ℕ) (rows : List Row) → KeepJobs rows (change_row j (row_stands at standing) rows)
jobs_stand_kept at standing j rows =
    jobs_one (row_stands at standing) (λ row. ap (with_layers row) (standing_layers at standing row.slots)) j rows

-- an edit
pub edited_layers : (store : StoreParts) (e : Edit) (list : List Slot) → map slot_layer (slots_edited store e list) ≡ map slot_layer list
edited_layers store e [] = refl
edited_layers store e (x ∷ xs) = ap (λ ids. x.layer ∷ ids) (edited_layers store e xs)

pub jobs_edited_kept : (e : Edit) (rows : List Row) → KeepJobs rows (map (row_edited e) rows)
jobs_edited_kept e rows = jobs_alike rows (map (row_edited e) rows) (basis_all (row_edited e) same rows)
  where
    same : (row : Row) → basis_of (row_edited e row) ≡ basis_of row
    same row = by row.ended
      where
        by : (o : Option How) → basis_of (if is_some o then row else record row { slots = (slots_edited row.store e row.slots) }) ≡ basis_of row
        by None = ap (with_layers row) (edited_layers row.store e row.slots)
        by (Some how) = refl

-- a start
front : (xs ys : List Basis) → take (length xs) (xs ++ ys) ≡ xs
front [] ys = refl
front (x ∷ xs) ys = ap (λ l. x ∷ l) (front xs ys)

cancelled_basis : (c : ℕ) (row : Row) → basis_of (row_cancelled c row) ≡ basis_of row
cancelled_basis c row = by (row.canvas == c)
  where
    by : (b : Bool) → basis_of (if b then row_ended Cancelled row else row) ≡ basis_of row
    by true = refl
    by false = refl

pub jobs_started_kept : (c : ℕ) (new : Row) (rows : List Row) → KeepJobs rows (map (row_cancelled c) rows ++ new ∷ [])
jobs_started_kept c new rows =
    ap (take (length rows)) (map-append basis_of (map (row_cancelled c) rows) (new ∷ []))
    ∙ ap (λ l. take (length rows) (l ++ basis_of new ∷ [])) (basis_all (row_cancelled c) (cancelled_basis c) rows)
    ∙ ap (λ n. take n (map basis_of rows ++ basis_of new ∷ [])) (sym (length-map rows basis_of))
    ∙ front (map basis_of rows) (basis_of new ∷ [])

-- ---- what a caller has of it

-- a slot's painting by its layer
abbrev painting_for : StoreParts → PixelGrid → ℕ → Option Painting
painting_for store view id = option_map (painting_from view) (input_in store id)

paintings_seen : (store : StoreParts) (view : PixelGrid) (xs : List Slot)
    → map (painting_of store view) xs ≡ map (painting_for store view) (map slot_layer xs)
paintings_seen store view [] = refl
paintings_seen store view (x ∷ xs) = ap (λ l. painting_for store view x.layer ∷ l) (paintings_seen store view xs)

-- what all slots of a job are composed of stays
pub whole_stays : (a b : Row) → basis_of a ≡ basis_of b → whole_of a ≡ whole_of b
whole_stays a b same =
    ap (λ l. record { frame = frame_of (project_of a.store) a.view; paintings = l }) (paintings_seen a.store a.view a.slots)
    ∙ ap (λ (k : Basis). record { frame = frame_of (project_of k.store) k.view; paintings = map (painting_for k.store k.view) k.layers }) same
    ∙ sym (ap (λ l. record { frame = frame_of (project_of b.store) b.view; paintings = l }) (paintings_seen b.store b.view b.slots))

taken_at : (n at : ℕ) (xs ys : List Basis) (k : Basis) → take n xs ≡ ys → slice_get ys at ≡ Some k → slice_get xs at ≡ Some k
taken_at zero at xs ys k same is = absurd (none at ys same is)
  where
    none : (at : ℕ) (ys : List Basis) → [] ≡ ys → slice_get ys at ≡ Some k → ⊥
    none at [] h is = cc
    none at (y ∷ ys) h is = cc
taken_at (suc n) at [] [] k same is = absurd cc
taken_at (suc n) at [] (y ∷ ys) k same is = absurd cc
taken_at (suc n) at (x ∷ xs) [] k same is = absurd cc
taken_at (suc n) zero (x ∷ xs) (y ∷ ys) k same is = let first : x ≡ y = cc in ap Some first ∙ is
taken_at (suc n) (suc at) (x ∷ xs) (y ∷ ys) k same is = let rest : take n xs ≡ ys = cc in taken_at n at xs ys k rest is

-- a job that was there is there, with the same basis
pub basis_stays : (old new : List Row) (j : ℕ) (r : Row) → KeepJobs old new → row_in old j ≡ Some r
    → (q : Row) × (row_in new j ≡ Some q) × (basis_of q ≡ basis_of r)
basis_stays old new zero r kept there = absurd cc
basis_stays old new (suc at) r kept there =
    by (slice_get new at) refl (sym (slice_get-map basis_of new at) ∙ taken_at (length old) at (map basis_of new) (map basis_of old) (basis_of r) kept
    (slice_get-map basis_of old at ∙ ap (option_map basis_of) there))
  where
    by : (o : Option Row) → slice_get new at ≡ o → option_map basis_of o ≡ Some (basis_of r)
        → (q : Row) × (slice_get new at ≡ Some q) × (basis_of q ≡ basis_of r)
    by None is same = absurd cc
    by (Some q) is same = let equal : basis_of q ≡ basis_of r = cc in (q, is, equal)

-- so is a slot of it, of the same layer
layer_at : (xs ys : List Slot) (at : ℕ) (x : Slot) → map slot_layer ys ≡ map slot_layer xs → slice_get xs at ≡ Some x
    → (y : Slot) × (slice_get ys at ≡ Some y) × (y.layer ≡ x.layer)
layer_at [] ys at x same is = absurd cc
layer_at (x ∷ xs) [] at z same is = absurd cc
layer_at (x ∷ xs) (y ∷ ys) zero z same is =
    let first : y.layer ≡ x.layer = cc in
    let this : x ≡ z = cc in (y, refl, first ∙ ap slot_layer this)
layer_at (x ∷ xs) (y ∷ ys) (suc at) z same is =
    let rest : map slot_layer ys ≡ map slot_layer xs = cc in layer_at xs ys at z rest is

pub slot_stays : (q r : Row) (at : ℕ) (x : Slot) → basis_of q ≡ basis_of r → slice_get r.slots at ≡ Some x
    → (y : Slot) × (slice_get q.slots at ≡ Some y) × (y.layer ≡ x.layer)
slot_stays q r at x same is = layer_at r.slots q.slots at x (ap (λ (b : Basis). b.layers) same) is

-- so a piece that was handed out is still of the job's own input and view
pub piece_stays : (old new : List Row) (j at : ℕ) (input : Input) (view : PixelGrid) → KeepJobs old new
    → HasSlot old j at (IsPiece input view) → HasSlot new j at (IsPiece input view)
piece_stays old new j at input view kept had = by (row_in old j) refl had
  where
    inner : (r : Row) (o : Option Slot) → row_in old j ≡ Some r → slice_get r.slots at ≡ o → IsSomeAnd o (IsPiece input view r)
        → HasSlot new j at (IsPiece input view)
    inner r None there is h = absurd h
    inner r (Some x) there is h =
        let q = basis_stays old new j r kept there in
        let y = slot_stays q.0 r at x q.2 is in
        let store = ap (λ (b : Basis). b.store) q.2 in
        let input_is : input_in q.0.store y.0.layer ≡ Some input = (λ i. input_in (store i) (y.2 i)) ∙ h.0 in
        let view_is : view ≡ q.0.view = h.1 ∙ sym (ap (λ (b : Basis). b.view) q.2) in
        subst (λ (o : Option Row). IsSomeAnd o (λ row. IsSomeAnd (slice_get row.slots at) (IsPiece input view row))) (sym q.1)
        (subst (λ (o : Option Slot). IsSomeAnd o (IsPiece input view q.0)) (sym y.1) (input_is, view_is))

    by : (o : Option Row) → row_in old j ≡ o → IsSomeAnd o (λ row. IsSomeAnd (slice_get row.slots at) (IsPiece input view row))
        → HasSlot new j at (IsPiece input view)
    by None there h = absurd h
    by (Some r) there h = inner r (slice_get r.slots at) there refl h

-- and what was kept by two calls is kept by both
longer_front : (zs ys xs : List Basis) → take (length zs) ys ≡ zs → take (length ys) xs ≡ ys → take (length zs) xs ≡ zs
longer_front [] ys xs h g = refl
longer_front (z ∷ zs) [] xs h g = absurd cc
longer_front (z ∷ zs) (y ∷ ys) [] h g = absurd cc
longer_front (z ∷ zs) (y ∷ ys) (x ∷ xs) h g =
    let top : y ≡ z = cc in
    let below : take (length zs) ys ≡ zs = cc in
    let next : x ≡ y = cc in
    let rest : take (length ys) xs ≡ ys = cc in
    λ i. (next ∙ top) i ∷ longer_front zs ys xs below rest i

pub keep_more : (a b c : List Row) → KeepJobs a b → KeepJobs b c → KeepJobs a c
keep_more a b c first second =
    ap (λ n. take n (map basis_of c)) (sym (length-map a basis_of))
    ∙ longer_front (map basis_of a) (map basis_of b) (map basis_of c)
    (ap (λ n. take n (map basis_of b)) (length-map a basis_of) ∙ first)
    (ap (λ n. take n (map basis_of c)) (length-map b basis_of) ∙ second)
