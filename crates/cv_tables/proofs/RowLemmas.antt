-- What a job keeps of its slots, and what changes leave of it.
use Rattle.std.proofs.Common.{◌≡◌, ◌∙◌, sym, ap, refl, subst, ℕ, zero, suc, ◌+◌, ◌<◌, ◌≤◌, Bool, true, false, ◌||◌}
use Rattle.std.proofs.Common.{List, [], ◌∷◌, ◌++◌, length, map, find, Option, Some, None, option_map, option_and_then}
use Rattle.std.proofs.Common.{slice_get, slice_set, slice_index_or, take, drop, IsSomeAnd, IfSome, arith, if◌then◌else◌, cond, is_some}
use Rattle.std.specs.List.{AllZip}
use Rattle.std.specs.Option.{option_or, option_map_or}
use Rattle.std.proofs.lemmas.Bool.Decides.{nat_tests}
use Rattle.std.proofs.lemmas.List.{length-set}
use Rattle.cv_model.specs.declared.edit.Edit.{Edit}
use Rattle.cv_model.specs.Views.{PixelGrid}
use Rattle.cv_model.specs.Layers.{Core, Layer, is_layer, core_in, parts_among, deps, deps_of, slots}
use Rattle.cv_model.specs.Edits.{touches_any}
use Rattle.cv_model.specs.Paintings.{Input, Painting, slot_frame, frame_of}
use Rattle.cv_compose.specs.Inputs.{IsSlotPainting, IsComposition}
use Rattle.cv_store.specs.Stores.{StoreParts, project_of, input_in, input_from}
use Rattle.cv_event.specs.declared.entry.How.{How}
use Rattle.cv_event.specs.declared.slot.Slot.{Slot}
use Rattle.cv_event.specs.declared.slot.Standing.{Standing}
use Rattle.cv_event.specs.declared.slot.Standing.TheVariants.{Ready}
use Rattle.cv_event.specs.States.{change_at, slot_stands, slot_edited}
use Rattle.cv_event.specs.Legality.{is_ready}
use Rattle.cv_tables.specs.Rows.{Row, row_stands, row_edited, slots_edited, slot_named, slots_named, input_of}
use Rattle.cv_tables.specs.Rows.{painting_of, painting_shown, painting_from, input_at, HoldingParts, HoldsAll, WhileLive}
use Rattle.cv_tables.specs.Rows.{slot_layer, layer_id, IsRow, compose_of}
use Rattle.cv_tables.proofs.ListLemmas.{map_change, map_change_all, map_map_same, map_set, length_change, length_map}

-- ---- what is found by an id

found_id : (layers : List Layer) (id : ℕ) (own : Core) → core_in layers id ≡ Some own → own.id ≡ id
found_id [] id own is = absurd cc
found_id (l ∷ ls) id own is = by (is_layer id l) refl (found_id ls id own) is
  where
    by : (b : Bool) → is_layer id l ≡ b → (core_in ls id ≡ Some own → own.id ≡ id)
        → option_map (λ (layer : Layer). layer.core) (cond b (Some l) (find (is_layer id) ls)) ≡ Some own
        → own.id ≡ id
    by true test rest h =
        let here : l.core ≡ own = cc in
        let same : l.core.id ≡ id = grind (arith, nat_tests, test) in ap (λ (c : Core). c.id) (sym here) ∙ same
    by false test rest h = rest h

-- the input of an id has that id, and depends on what the layer depends on
input_own : (store : StoreParts) (o : Option Core) (i : Input) → option_map (input_from store) (option_map (parts_among
    (project_of store).layers) o) ≡ Some i → o ≡ Some i.parts.own
input_own store None i is = absurd cc
input_own store (Some own) i is =
    let here : input_from store (parts_among (project_of store).layers own) ≡ i = cc in
    ap (λ (x : Input). Some x.parts.own) here

pub own_of : (store : StoreParts) (id : ℕ) (i : Input) → input_in store id ≡ Some i → core_in (project_of store).layers id
    ≡ Some i.parts.own
own_of store id i is = input_own store (core_in (project_of store).layers id) i is

pub input_id : (store : StoreParts) (id : ℕ) (i : Input) → input_in store id ≡ Some i → i.parts.own.id ≡ id
input_id store id i is = found_id (project_of store).layers id i.parts.own (own_of store id i is)

pub deps_of_input : (store : StoreParts) (id : ℕ) (i : Input) → input_in store id ≡ Some i → deps (project_of store) id
    ≡ deps_of i.parts.own
deps_of_input store id i is = ap (λ o. option_map_or deps_of o (id ∷ [])) (own_of store id i is)

-- ---- a slot's input

-- a slot's input among those that are held
pub input_held : (g : Slot → Option Input) (inputs : List Input) (list : List Slot) (at : ℕ) → map Some inputs ≡ map g list
    → slice_get inputs at ≡ option_and_then g (slice_get list at)
input_held g [] [] at same = refl
input_held g [] (slot ∷ list) at same = absurd cc
input_held g (i ∷ inputs) [] at same = absurd cc
input_held g (i ∷ inputs) (slot ∷ list) zero same = let here : Some i ≡ g slot = cc in here
input_held g (i ∷ inputs) (slot ∷ list) (suc at) same =
    let rest : map Some inputs ≡ map g list = cc in input_held g inputs list at rest

pub input_seen : (row : Row) (o : Option HoldingParts) (held : HoldingParts) (at : ℕ) → o ≡ Some held
    → WhileLive row.ended (IsSomeAnd o (HoldsAll row)) → row.ended ≡ None
    → slice_get held.inputs at ≡ input_at row at
input_seen row o held at is live none =
    let all = subst (λ o. IsSomeAnd o (HoldsAll row)) is (subst (λ e. WhileLive e (IsSomeAnd o (HoldsAll row))) none live) in
    input_held (input_of row.store) held.inputs row.slots at all.inputs

-- ---- a change of standing

abbrev pub HoldsFor : Row → Option HoldingParts → Type 0
HoldsFor row held = WhileLive row.ended (IsSomeAnd held (HoldsAll row))

-- what is held of a job holds of another of the same store, view and end, whose slots have the same layers and
-- show the same
pub held_same : (row other : Row) (held : Option HoldingParts) → other.store ≡ row.store → other.view ≡ row.view
    → other.ended ≡ row.ended → map (input_of row.store) other.slots ≡ map (input_of row.store) row.slots
    → map (painting_shown row.store row.view) other.slots ≡ map (painting_shown row.store row.view) row.slots
    → HoldsFor row held → HoldsFor other held
held_same row other held store view ended inputs images h = by row.ended other.ended ended h
  where
    all : (o : Option HoldingParts) → IsSomeAnd o (HoldsAll row) → IsSomeAnd o (HoldsAll other)
    all None h = h
    all (Some p) h = record {
      frame = h.frame ∙ (λ i. frame_of (project_of (sym store i)) (sym view i));
      inputs = h.inputs ∙ sym inputs ∙ ap (λ s. map (input_of s) other.slots) (sym store);
      images = h.images ∙ sym images ∙ (λ i. map (painting_shown (sym store i) (sym view i)) other.slots);
    }

    by : (e f : Option How) → f ≡ e → WhileLive e (IsSomeAnd held (HoldsAll row)) → WhileLive f (IsSomeAnd held (HoldsAll
        other))
    by e (Some how) same h = tt
    by None None same h = all held h
    by (Some how) None same h = absurd cc

shown_none : (store : StoreParts) (view : PixelGrid) (slot : Slot) → is_ready slot.standing ≡ false → painting_shown store
    view slot ≡ None
shown_none store view slot unready = ap (λ b. if b then painting_of store view slot else None) unready

-- a slot that isn't ready stands otherwise, and isn't ready
pub stood : (row : Row) (held : Option HoldingParts) (at : ℕ) (standing : Standing) (slot : Slot) → slice_get row.slots at
    ≡ Some slot → is_ready slot.standing ≡ false → is_ready standing ≡ false → IsRow row held
    → IsRow (row_stands at standing row) held
stood row held at standing slot there was unready kept = record {
  live =
      held_same row (row_stands at standing row) held refl refl refl
      (map_change_all (input_of row.store) (slot_stands standing) row.slots at (λ x. refl))
      (map_change (painting_shown row.store row.view) (slot_stands standing) row.slots at slot there
      (shown_none row.store row.view (slot_stands standing slot) unready ∙ sym (shown_none row.store row.view slot was)))
      kept.live;
  gone = kept.gone;
  layers = map_change_all slot_layer (slot_stands standing) row.slots at (λ x. refl) ∙ kept.layers;
  short = subst (λ n. n ≤ 32) (sym (length_change (slot_stands standing) row.slots at)) kept.short;
}

-- a slot of a job without end gets its image
pub readied : (row : Row) (o : Option HoldingParts) (held new : HoldingParts) (at : ℕ) (p : Painting) (slot : Slot)
    → o ≡ Some held → slice_get row.slots at ≡ Some slot → painting_of row.store row.view slot ≡ Some p
    → row.ended ≡ None → new ≡ record held { images = (slice_set held.images at (Some p)) } → IsRow row o
    → IsRow (row_stands at Ready row) (Some new)
readied row o held new at p slot is there painted none made kept = record {
  live = by row.ended;
  gone = subst (λ e. IfSome e (λ how. Some new ≡ None)) (sym none) tt;
  layers = map_change_all slot_layer (slot_stands Ready) row.slots at (λ x. refl) ∙ kept.layers;
  short = subst (λ n. n ≤ 32) (sym (length_change (slot_stands Ready) row.slots at)) kept.short;
}
  where
    all : HoldsAll row held
    all = subst (λ o. IsSomeAnd o (HoldsAll row)) is (subst (λ e. WhileLive e (IsSomeAnd o (HoldsAll row))) none kept.live)

    more : HoldsAll (row_stands at Ready row) new
    more = record {
      frame = ap (λ (h : HoldingParts). h.frame) made ∙ all.frame;
      inputs = ap (λ (h : HoldingParts). map Some h.inputs) made ∙ all.inputs
          ∙ sym (map_change_all (input_of row.store) (slot_stands Ready) row.slots at (λ x. refl));
      images = ap (λ (h : HoldingParts). h.images) made ∙ ap (λ l. slice_set l at (Some p)) all.images
          ∙ map_set (painting_shown row.store row.view) (slot_stands Ready) row.slots at slot (Some p) there (sym painted);
    }

    by : (e : Option How) → WhileLive e (IsSomeAnd (Some new) (HoldsAll (row_stands at Ready row)))
    by None = more
    by (Some how) = tt

-- images are as many as slots
pub images_within : (row : Row) (o : Option HoldingParts) (held : HoldingParts) (at : ℕ) → o ≡ Some held
    → row.ended ≡ None → HoldsFor row o → at < length row.slots → at < length held.images
images_within row o held at is none live within =
    let all = subst (λ o. IsSomeAnd o (HoldsAll row)) is (subst (λ e. WhileLive e (IsSomeAnd o (HoldsAll row))) none live) in
    subst (λ n. at < n) (sym (ap length all.images ∙ length_map (painting_shown row.store row.view) row.slots)) within

-- ---- an edit

-- an edit touches what the held inputs say
named_edited : (store : StoreParts) (e : Edit) (list : List Slot) (inputs : List Input) → map Some inputs ≡ map (input_of store) list
    → slots_named e list inputs ≡ slots_edited store e list
named_edited store e [] [] same = refl
named_edited store e [] (i ∷ inputs) same = absurd cc
named_edited store e (slot ∷ list) [] same = absurd cc
named_edited store e (slot ∷ list) (i ∷ inputs) same =
    let here : Some i ≡ input_of store slot = cc in
    let rest : map Some inputs ≡ map (input_of store) list = cc in
    let on = deps_of_input store slot.layer i (sym here) in
    λ k. record slot { touched = slot.touched || touches_any e (sym on k) } ∷ named_edited store e list inputs rest k

pub edited_slots : (row : Row) (o : Option HoldingParts) (held : HoldingParts) (e : Edit) → o ≡ Some held
    → row.ended ≡ None → HoldsFor row o → slots_named e row.slots held.inputs ≡ slots_edited row.store e row.slots
edited_slots row o held e is none live =
    let all = subst (λ o. IsSomeAnd o (HoldsAll row)) is (subst (λ x. WhileLive x (IsSomeAnd o (HoldsAll row))) none live) in
    named_edited row.store e row.slots held.inputs all.inputs

-- a live job's edit, and an ended job's
pub edited_live : (e : Edit) (row : Row) → row.ended ≡ None → row_edited e row ≡ record row {
  slots = slots_edited row.store e
      row.slots;
}
edited_live e row none = ap (λ (o : Option How). if is_some o then row else record row { slots = slots_edited row.store e row.slots }) none

pub edited_dead : (e : Edit) (row : Row) (how : How) → row.ended ≡ Some how → row_edited e row ≡ row
edited_dead e row how is = ap (λ (o : Option How). if is_some o then row else record row { slots = slots_edited row.store e row.slots }) is

pub edited_kept : (row : Row) (held : Option HoldingParts) (e : Edit) → IsRow row held
    → IsRow (record row { slots = slots_edited row.store e row.slots }) held
edited_kept row held e kept =
    let p = project_of row.store in record {
      live =
          held_same row (record row { slots = slots_edited row.store e row.slots }) held refl refl refl
          (map_map_same (input_of row.store) (slot_edited p e) row.slots (λ x. refl))
          (map_map_same (painting_shown row.store row.view) (slot_edited p e) row.slots (λ x. refl)) kept.live;
      gone = kept.gone;
      layers = map_map_same slot_layer (slot_edited p e) row.slots (λ x. refl) ∙ kept.layers;
      short = subst (λ n. n ≤ 32) (sym (length_map (slot_edited p e) row.slots)) kept.short;
    }

-- ---- a composition

slot_shown : (store : StoreParts) (view : PixelGrid) (slot : Slot) (layer : Layer) → slot_layer slot ≡ layer_id layer
    → IsSlotPainting view (slot_frame layer) (painting_shown store view slot)
slot_shown store view slot layer same = by (is_ready slot.standing)
  where
    of : (o : Option Input) → input_of store slot ≡ o → IsSlotPainting view (slot_frame layer) (option_map (painting_from view) o)
    of None is = tt
    of (Some i) is = (input_id store slot.layer i is ∙ same, refl)

    by : (b : Bool) → IsSlotPainting view (slot_frame layer) (if b then painting_of store view slot else None)
    by true = of (input_of store slot) refl
    by false = tt

slots_shown : (store : StoreParts) (view : PixelGrid) (list : List Slot) (layers : List Layer)
    → map slot_layer list ≡ map layer_id layers
    → AllZip (IsSlotPainting view) (map slot_frame layers) (map (painting_shown store view) list)
slots_shown store view [] [] same = tt
slots_shown store view [] (layer ∷ layers) same = absurd cc
slots_shown store view (slot ∷ list) [] same = absurd cc
slots_shown store view (slot ∷ list) (layer ∷ layers) same =
    let here : slot_layer slot ≡ layer_id layer = cc in
    let rest : map slot_layer list ≡ map layer_id layers = cc in
    (slot_shown store view slot layer here, slots_shown store view list layers rest)

pub composition_kept : (row : Row) (held : Option HoldingParts) → IsRow row held → IsComposition (compose_of row)
composition_kept row held kept = record {
  view = row.view;
  width = refl;
  height = refl;
  slots = slots_shown row.store row.view row.slots (slots (project_of row.store) row.view) kept.layers;
}

-- what is held composes so
pub composes : (row : Row) (o : Option HoldingParts) (held : HoldingParts) → o ≡ Some held → row.ended ≡ None → IsRow row o
    → record { frame = held.frame; paintings = held.images } ≡ compose_of row
composes row o held is none kept =
    let all = subst (λ o. IsSomeAnd o (HoldsAll row)) is (subst (λ x. WhileLive x (IsSomeAnd o (HoldsAll row))) none kept.live) in
    λ i. record { frame = all.frame i; paintings = all.images i }

-- ---- an end

pub ended_live : (e : Option How) (how : How) (P : Type 0) → WhileLive (option_or e (Some how)) P
ended_live None how P = tt
ended_live (Some g) how P = tt

-- ---- what the calls make of a job

pub stood_from : (row seen : Row) (held : Option HoldingParts) (at : ℕ) (standing : Standing) (new : List Slot) → row ≡ seen
    → IsSomeAnd (slice_get seen.slots at) (λ slot. is_ready slot.standing ≡ false) → is_ready standing ≡ false
    → new ≡ change_at at (slot_stands standing) row.slots → IsRow row held → IsRow (record row { slots = new }) held
stood_from row seen held at standing new same old unready made kept =
    subst (λ s. IsRow (record row { slots = s }) held) (sym made)
    (by (slice_get row.slots at) refl
    (subst (λ (r : Row). IsSomeAnd (slice_get r.slots at) (λ slot. is_ready slot.standing ≡ false)) (sym same) old))
  where
    by : (o : Option Slot) → slice_get row.slots at ≡ o → IsSomeAnd o (λ slot. is_ready slot.standing ≡ false)
        → IsRow (row_stands at standing row) held
    by None there h = absurd h
    by (Some slot) there h = stood row held at standing slot there h unready kept

pub readied_from : (row seen : Row) (o : Option HoldingParts) (held new : HoldingParts) (at : ℕ) (p : Painting) (list : List Slot)
    → row ≡ seen → seen.ended ≡ None
    → IsSomeAnd (slice_get seen.slots at) (λ slot. painting_of seen.store seen.view slot ≡ Some p) → o ≡ Some held
    → new ≡ record held { images = (slice_set held.images at (Some p)) }
    → list ≡ change_at at (slot_stands Ready) row.slots → IsRow row o → IsRow (record row { slots = list }) (Some new)
readied_from row seen o held new at p list same none painted is made stands kept =
    subst (λ s. IsRow (record row { slots = s }) (Some new)) (sym stands)
    (by (slice_get row.slots at) refl
    (subst (λ (r : Row). IsSomeAnd (slice_get r.slots at) (λ slot. painting_of r.store r.view slot ≡ Some p)) (sym same) painted))
  where
    live : row.ended ≡ None
    live = ap (λ (r : Row). r.ended) same ∙ none

    by : (q : Option Slot) → slice_get row.slots at ≡ q → IsSomeAnd q (λ slot. painting_of row.store row.view slot ≡ Some p)
        → IsRow (row_stands at Ready row) (Some new)
    by None there h = absurd h
    by (Some slot) there h = readied row o held new at p slot is there h live made kept

pub slots_touched : (row : Row) (o : Option HoldingParts) (held : HoldingParts) (e : Edit) (new : List Slot) (inputs : List Input)
    → o ≡ Some held → row.ended ≡ None → inputs ≡ held.inputs → new ≡ slots_named e row.slots inputs → IsRow row o
    → new ≡ slots_edited row.store e row.slots
slots_touched row o held e new inputs is none taken made kept =
    made ∙ ap (slots_named e row.slots) taken ∙ edited_slots row o held e is none kept.live

pub touched_kept : (row : Row) (o : Option HoldingParts) (e : Edit) (new : List Slot) → new ≡ slots_edited row.store e row.slots
    → IsRow row o → IsRow (record row { slots = new }) o
touched_kept row o e new made kept = subst (λ s. IsRow (record row { slots = s }) o) (sym made) (edited_kept row o e kept)

-- one slot further
named_more : (e : Edit) (now : List Slot) (inputs : List Input) (i : ℕ) (d v : Slot) (input : Input) → i < length now
    → length now ≡ length inputs → input ≡ slice_index_or inputs i input → v ≡ slot_named e (slice_index_or now i d) input
    → take (suc i) (slice_set now i v) ++ slots_named e (drop (suc i) (slice_set now i v)) (drop (suc i) inputs)
    ≡ take i now ++ slots_named e (drop i now) (drop i inputs)
named_more e [] inputs i d v input h size at is = absurd (omega (arith, h))
named_more e (x ∷ xs) [] i d v input h size at is = absurd (omega (arith, size))
named_more e (x ∷ xs) (y ∷ ys) zero d v input h size at is = ap (λ w. w ∷ slots_named e xs ys) (is ∙ ap (slot_named e x) at)
named_more e (x ∷ xs) (y ∷ ys) (suc i) d v input h size at is =
    ap (λ l. x ∷ l) (named_more e xs ys i d v input (omega (arith, h)) (omega (arith, size)) at is)

pub named_step : (e : Edit) (now was : List Slot) (inputs : List Input) (i : ℕ) (d v : Slot) (input : Input) → i < length now
    → input ≡ slice_index_or inputs i input → v ≡ slot_named e (slice_index_or now i d) input
    → (take i now ++ slots_named e (drop i now) (drop i inputs) ≡ slots_named e was inputs) × (length now ≡ length inputs)
    → (take (i + 1) (slice_set now i v) ++ slots_named e (drop (i + 1) (slice_set now i v)) (drop (i + 1) inputs)
    ≡ slots_named e was inputs) × (length (slice_set now i v) ≡ length inputs)
named_step e now was inputs i d v input h at is kept =
    let next : i + 1 ≡ suc i = omega arith in (
      ap (λ n. take n (slice_set now i v) ++ slots_named e (drop n (slice_set now i v)) (drop n inputs)) next
          ∙ named_more e now inputs i d v input h kept.1 at is ∙ kept.0,
      length-set now i v ∙ kept.1,
    )
