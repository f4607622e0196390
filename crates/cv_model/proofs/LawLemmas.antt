-- The laws of edits, parts, pictures and colours.
use Rattle.std.proofs.Common.{◌≡◌, ◌∙◌, sym, ap, refl, ℕ, ◌+◌, ◌-◌, ◌*◌, ◌/◌, ◌<◌, ◌==◌, false, List, []}
use Rattle.std.proofs.Common.{◌∷◌, ◌++◌, Option, Some, None, arith}
use Rattle.std.specs.Prelude.{find, nat_eq, option_map, option_and_then, if◌then◌else◌}
use Rattle.std.specs.List.{list_any, flat_map}
use Rattle.std.specs.Option.{option_map_or, option_to_list}
use Rattle.std.proofs.lemmas.Nat.{div-mul-add}
use Rattle.std.proofs.lemmas.Bool.Decides.{nat_tests}
use Rattle.cv_number.specs.Rounding.{rnd}
use Rattle.cv_model.specs.declared.edit.Edit.{Edit}
use Rattle.cv_model.specs.declared.feature.Feature.{Feature}
use Rattle.cv_model.specs.declared.layer.Join.{Join}
use Rattle.cv_model.specs.declared.style.Field.{Field}
use Rattle.cv_model.specs.declared.style.Style.{Style}
use Rattle.cv_model.specs.declared.style.Style.TheVariants.{Single, Categorised, Graduated, Ramp}
use Rattle.cv_model.specs.declared.symbol.Symbol.{Symbol}
use Rattle.cv_model.specs.Positions.{Position}
use Rattle.cv_model.specs.Views.{PixelGrid, centre_of}
use Rattle.cv_model.specs.Colours.{transparent, covered, channel_over, laid}
use Rattle.cv_model.specs.Blends.{mixed}
use Rattle.cv_model.specs.Styles.{symbol_of}
use Rattle.cv_model.specs.Texts.{text_of, joined_text, field_text, style_text, feature_symbol}
use Rattle.cv_model.specs.Pictures.{strokes, is_shown, cell_colour, painted, pixel}
use Rattle.cv_model.specs.Layers.{Contents, Features, Cells, Core, Layer, Parts, is_layer, core_in, parts}
use Rattle.cv_model.specs.Layers.{parts_among, deps_of}
use Rattle.cv_model.specs.Edits.{touched, touches_any, step_layers, step}
use Rattle.cv_model.specs.Laws.{UntouchedPartsStay, FrameEditsLeaveParts, UntouchedDepsStay}
use Rattle.cv_model.specs.Laws.{AbsentMasksShowAll, AbsentJoinsGiveNothing, OpaqueHidesBackdrop}
use Rattle.cv_model.specs.Laws.{OpaqueHidesBelow, OverNothingStays}
use Rattle.cv_model.proofs.EditLemmas.{Leaves, core_of, core_stays, leaves_first, leaves_rest, found_is}

-- the core that is found by an id has it
pub core_id : (layers : List Layer) (id : ℕ) (own : Core) → core_in layers id ≡ Some own → own.id ≡ id
core_id layers id own h = by (find (is_layer id) layers) refl h
  where
    by : (o : Option Layer) → find (is_layer id) layers ≡ o → core_of o ≡ Some own → own.id ≡ id
    by None e h = absurd cc
    by (Some l) e h =
        let was : l.core ≡ own = cc in
        let is = found_is id layers l e in
        ap (λ (c : Core). c.id) (sym was) ∙ grind (arith, nat_tests)

-- an option whose value, if any, is looked up alike in two lists
looked_alike : (layers more : List Layer) (edit : Edit) (o : Option ℕ) (rest : List ℕ)
    → ((q : ℕ) → Leaves edit q → core_in more q ≡ core_in layers q)
    → touches_any edit (option_to_list o ++ rest) ≡ false
    → option_and_then (core_in more) o ≡ option_and_then (core_in layers) o
looked_alike layers more edit None rest stays h = refl
looked_alike layers more edit (Some q) rest stays h = stays q (leaves_first edit q rest h)

-- what is left to test behind such an option
left_alike : (edit : Edit) (o : Option ℕ) (rest : List ℕ) → touches_any edit (option_to_list o ++ rest) ≡
    false → touches_any edit rest ≡ false
left_alike edit None rest h = h
left_alike edit (Some q) rest h = leaves_rest edit q rest h

-- a join is looked up by its layer
join_alike : (layers more : List Layer) (edit : Edit) (o : Option Join)
    → ((q : ℕ) → Leaves edit q → core_in more q ≡ core_in layers q)
    → touches_any edit (option_to_list (option_map (λ (join : Join). join.layer) o)) ≡ false
    → option_and_then (λ (join : Join). core_in more join.layer) o ≡ option_and_then (λ (join : Join).
    core_in layers join.layer) o
join_alike layers more edit None stays h = refl
join_alike layers more edit (Some join) stays h = stays join.layer (leaves_first edit join.layer [] h)

-- an edit that touches no dependency of a core leaves what the core's parts are
parts_stay : (layers : List Layer) (edit : Edit) (own : Core) → touches_any edit (deps_of own) ≡ false
    → parts_among (step_layers layers edit) own ≡ parts_among layers own
parts_stay layers edit own h =
    let rest = leaves_rest edit own.id _ h in
    let mask = looked_alike layers (step_layers layers edit) edit own.mask _ (core_stays layers edit) rest in
    let join = join_alike layers (step_layers layers edit) edit own.join (core_stays layers edit)
    (left_alike edit own.mask _ rest) in
    λ i. record { own = own; mask = mask i; join = join i }

pub untouched_parts_stay : UntouchedPartsStay
untouched_parts_stay project edit id h = by (core_in project.layers id) refl h
  where
    by : (o : Option Core) → core_in project.layers id ≡ o → touches_any edit (option_map_or deps_of o (id
        ∷ [])) ≡ false
        → parts (step project edit) id ≡ parts project id
    by None e h =
        let now = core_stays project.layers edit id (leaves_first edit id [] h) ∙ e in
        ap (option_map (parts_among (step_layers project.layers edit))) now
        ∙ sym (ap (option_map (parts_among project.layers)) e)
    by (Some own) e h =
        let is = core_id project.layers id own e in
        let first = leaves_first edit own.id _ h in
        let now = core_stays project.layers edit id (rw (← is) first) ∙ e in
        ap (option_map (parts_among (step_layers project.layers edit))) now
        ∙ ap Some (parts_stay project.layers edit own h)
        ∙ sym (ap (option_map (parts_among project.layers)) e)

-- an edit that touches nothing touches none of any layers
touches_none : (edit : Edit) (ids : List ℕ) → touched edit ≡ None → touches_any edit ids ≡ false
touches_none edit ids none = ap (λ o. option_map_or (λ id. list_any (nat_eq id) ids) o false) none

pub frame_edits_leave_parts : FrameEditsLeaveParts
frame_edits_leave_parts project edit id none = untouched_parts_stay project edit id (touches_none edit _ none)

pub untouched_deps_stay : UntouchedDepsStay
untouched_deps_stay project edit id h =
    ap (λ o. option_map_or deps_of o (id ∷ [])) (core_stays project.layers edit id (leaves_first edit id []
    h))

-- ---- colours

-- a multiple of the divisor is rounded to its factor
pub rnd_exact : (n d : ℕ) → 0 < d → rnd (d * n) d ≡ n
rnd_exact n d above =
    let e : 2 * (d * n) ≡ n * (2 * d) = omega arith in
    ap (λ z. (z + d) / (2 * d)) e ∙ div-mul-add n (2 * d) d (omega arith)

-- a channel of full alpha hides the one below
hides : (cb cs : ℕ) → mixed 255 cb cs ≡ cs
hides cb cs = let e : (255 - 255) * cb + 255 * cs ≡ 255 * cs = omega arith in ap (λ z. rnd z 255) e
    ∙ rnd_exact cs 255 (omega arith)

pub opaque_hides_backdrop : OpaqueHidesBackdrop
opaque_hides_backdrop backdrop source =
    λ i. record {
      r = hides backdrop.r source.r i;
      g = hides backdrop.g source.g i;
      b = hides backdrop.b
          source.b i;
    }

-- a rounded quotient of equal numbers
rnd_same : (n m d e : ℕ) → n ≡ m → d ≡ e → rnd n d ≡ rnd m e
rnd_same n m d e same equal = λ i. rnd (same i) (equal i)

-- a channel of an opaque colour over another
opaque_channel : (cs ba cb : ℕ) → channel_over 255 cs ba cb ≡ cs
opaque_channel cs ba cb =
    rnd_same _ (65025 * cs) _ 65025 (let none : ba * (255 - 255) * cb ≡ 0 = omega arith in omega arith)
    (omega arith)
    ∙ rnd_exact cs 65025 (omega arith)

opaque_alpha : (ba : ℕ) → rnd (covered 255 ba) 255 ≡ 255
opaque_alpha ba = rnd_same _ (255 * 255) _ 255 (omega arith) refl ∙ rnd_exact 255 255 (omega arith)

pub opaque_hides_below : OpaqueHidesBelow
opaque_hides_below source below =
    let some : (covered 255 below.a == 0) ≡ false = grind (arith, nat_tests) in
    ap (λ b. if b then transparent else record {
      r = channel_over 255 source.r below.a below.r;
      g = channel_over 255 source.g below.a below.g;
      b = channel_over 255 source.b below.a below.b;
      a = rnd (covered 255 below.a) 255;
    }) some
    ∙ (λ i. record {
      r = opaque_channel source.r below.a below.r i;
      g = opaque_channel source.g below.a below.g i;
      b = opaque_channel source.b below.a below.b i;
      a = opaque_alpha below.a i;
    })

-- a channel over nothing
channel_alone : (sa cs ba cb : ℕ) → 0 < sa → ba ≡ 0 → channel_over sa cs ba cb ≡ cs
channel_alone sa cs ba cb above none =
    let w : covered sa ba ≡ 255 * sa = ap (λ z. 255 * sa + z * (255 - sa)) none ∙ omega arith in
    let n : 255 * sa * cs + ba * (255 - sa) * cb ≡ 255 * sa * cs = ap (λ z. 255 * sa * cs + z * (255 - sa)
    * cb) none ∙ omega arith in
    rnd_same _ _ _ _ n w ∙ rnd_exact cs (255 * sa) (omega arith)

alpha_alone : (sa ba : ℕ) → ba ≡ 0 → rnd (covered sa ba) 255 ≡ sa
alpha_alone sa ba none =
    let w : covered sa ba ≡ 255 * sa = ap (λ z. 255 * sa + z * (255 - sa)) none ∙ omega arith in
    rnd_same _ _ _ 255 w refl ∙ rnd_exact sa 255 (omega arith)

pub over_nothing_stays : OverNothingStays
over_nothing_stays source below above none =
    let some : (covered source.a below.a == 0) ≡ false = grind (arith, nat_tests) in
    ap (λ b. if b then transparent else record {
      r = channel_over source.a source.r below.a below.r;
      g = channel_over source.a source.g below.a below.g;
      b = channel_over source.a source.b below.a below.b;
      a = rnd (covered source.a below.a) 255;
    }) some
    ∙ (λ i. record {
      r = channel_alone source.a source.r below.a below.r above none i;
      g = channel_alone source.a source.g below.a below.g above none i;
      b = channel_alone source.a source.b below.a below.b above none i;
      a = alpha_alone source.a below.a none i;
    })

-- ---- masks and joins that aren't there

-- a style reads the same text of parts whose fields have the same texts
text_alike : (style : Style) (some more : Parts) (feature : Feature)
    → ((field : Field) → field_text some field feature ≡ field_text more field feature)
    → style_text style some feature ≡ style_text style more feature
text_alike (Single symbol) some more feature same = refl
text_alike (Categorised field classes fallback) some more feature same = same field
text_alike (Graduated field classes) some more feature same = same field
text_alike (Ramp ramp) some more feature same = refl

-- parts of one style whose fields have the same texts give each feature the same symbol
symbol_alike : (style : Style) (some more : Parts) (feature : Feature) → some.own.style ≡ style
    → more.own.style ≡ style
    → ((field : Field) → field_text some field feature ≡ field_text more field feature)
    → feature_symbol some feature ≡ feature_symbol more feature
unfolding feature_symbol
symbol_alike style some more feature a b same =
    ap (λ s. symbol_of s (style_text s some feature)) a
    ∙ ap (symbol_of style) (text_alike style some more feature same)
    ∙ sym (ap (λ s. symbol_of s (style_text s more feature)) b)

-- and paint the same
painted_alike : (contents : Contents) (style : Style) (some more : Parts) (view : PixelGrid) (p : Position)
    → some.own.style ≡ style → more.own.style ≡ style
    → ((field : Field) (feature : Feature) → field_text some field feature ≡ field_text more field feature)
    → painted contents some view p ≡ painted contents more view p
painted_alike (Features columns features) style some more view p a b same =
    ap (λ (symbols : Feature → Option Symbol). laid (flat_map (λ (feature : Feature). strokes (symbols
    feature) view p feature.geometry) features))
    (λ i feature. symbol_alike style some more feature a b (λ field. same field feature) i)
painted_alike (Cells grid) style some more view p a b same = ap (λ s. cell_colour s grid p) (a ∙ sym b)

pub absent_masks_show_all : AbsentMasksShowAll
unfolding pixel
absent_masks_show_all layers own mask view i j none =
    let p = centre_of view i j in
    ap (λ o. if is_shown p o then painted own.contents (record (parts_among layers (record own {
      mask =
          Some mask;
    })) { mask = o }) view p else transparent) none
    ∙ painted_alike own.contents own.style _ (parts_among layers (record own { mask = None })) view p refl
    refl (λ field feature. refl)

pub absent_joins_give_nothing : AbsentJoinsGiveNothing
unfolding pixel
absent_joins_give_nothing layers own join view i j none =
    let p = centre_of view i j in
    let some = parts_among layers (record own { join = Some join }) in
    let more = parts_among layers (record own { join = None }) in
    ap (λ c. if is_shown p some.mask then c else transparent)
    (painted_alike own.contents own.style some more view p refl refl
    (λ field feature. ap (λ o. if field.joined
    then option_and_then (λ (there : Core). joined_text own.contents join there.contents field.name feature) o
    else text_of own.contents field.name feature) none))
