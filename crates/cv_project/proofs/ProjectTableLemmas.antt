-- The tables of sources, layers, canvases and the whole: their trees are read as they are.
use Rattle.std.proofs.Common.{◌≡◌, ℕ, ◌+◌, ◌≤◌, ◌&&◌, Bool, true, false, List, [], ◌∷◌, ◌++◌, length, map, Option}
use Rattle.std.proofs.Common.{Some, None, is_some, option_map, Result, Ok, refl, sym, ap, ◌∙◌, arith, codes, find}
use Rattle.std.proofs.Common.{bytes_eq, if◌then◌else◌, ℤ, pos, nat_eq, suc, subst}
use Rattle.std.specs.Prelude.{IfSome, All, int_lt, int_le, ◌<ℤ◌, ◌≤ℤ◌, is_ok, ◌*◌}
use Rattle.std.specs.List.{AllByRecursion, IsDistinct, list_any}
use Rattle.std.proofs.lemmas.Bool.Decides.{nat_tests}
use Rattle.std.proofs.lemmas.Int.{ints}
use Rattle.std.proofs.lemmas.List.{append_assoc}
use Rattle.serde_json.specs.Data.{Data, string, boolean, array}
use Rattle.serde_json.specs.View.{items_of}
use Rattle.cv_geom.specs.Views.{is_size, is_spread, is_doubled, is_in_range, right_of, bottom_of, view_of}
use Rattle.cv_model.specs.Positions.{Rectangle, IsCoordinate, IsDoubled, IsExtent}
use Rattle.cv_model.specs.ProjectFiles.{FileParts, IsName, IsSize, IsShown, IsCanvas, IsSource, IsJoin, IsLayer}
use Rattle.cv_model.specs.ProjectFiles.{IsInForm, is_grid_source}
use Rattle.cv_model.specs.Scales.{ScaleBounds, AreScales, IsScale, all_scales}
use Rattle.cv_model.specs.Views.{grid_of}
use Rattle.cv_model.specs.declared.blend.Blend.{Blend}
use Rattle.cv_model.specs.declared.blend.Blend.TheVariants.{Normal, Multiply, Screen, Overlay, Darken}
use Rattle.cv_model.specs.declared.blend.Blend.TheVariants.{Lighten, ColorDodge, ColorBurn, HardLight}
use Rattle.cv_model.specs.declared.blend.Blend.TheVariants.{Difference, Exclusion, Addition}
use Rattle.cv_model.specs.declared.delimiter.Delimiter.{Delimiter}
use Rattle.cv_model.specs.declared.delimiter.Delimiter.TheVariants.{Comma, Semicolon, Tab}
use Rattle.cv_model.specs.declared.layer.Join.{Join}
use Rattle.cv_model.specs.declared.project.CanvasFile.{CanvasFile}
use Rattle.cv_model.specs.declared.project.LayerFile.{LayerFile}
use Rattle.cv_model.specs.declared.project.Source.{Source}
use Rattle.cv_model.specs.declared.project.Source.TheVariants.{Text, Grid}
use Rattle.cv_project.specs.declared.words.SourceKind.TheVariants as kind
use Rattle.cv_project.specs.Answers.{◌>>=◌}
use Rattle.cv_project.specs.Canvases.{extent_of, can_show, canvas_of}
use Rattle.cv_project.specs.Kept.{KeptJoin, KeptLayer, KeptCanvas, KeptFile}
use Rattle.cv_project.specs.Kinds.{whole_of, whole_in, id_of, name_of, flag_of, word_in, coordinate_of}
use Rattle.cv_project.specs.Kinds.{background_of}
use Rattle.cv_project.specs.Layers.{new_id, versioned_scales, layer_names, layer_of}
use Rattle.cv_project.specs.Lists.{each, list_of}
use Rattle.cv_project.specs.Nodes.{TreeNode}
use Rattle.cv_project.specs.Projects.{known, project_of, tree_project}
use Rattle.cv_project.specs.Sources.{text_source_of, grid_source_of, source_of, join_of, scale_of, in_order}
use Rattle.cv_project.specs.Sources.{scales_of}
use Rattle.cv_project.specs.Styles.{style_of}
use Rattle.cv_project.specs.Trees.{Fields, object_of, list_tree, whole_tree, decimal_tree, background_tree}
use Rattle.cv_project.specs.Trees.{style_tree, text_source_fields, grid_source_fields, source_tree, join_fields}
use Rattle.cv_project.specs.Trees.{join_tree, scales_fields, scales_tree, bounded, layer_fields, layer_tree}
use Rattle.cv_project.specs.Trees.{extent_tree, canvas_fields, canvas_tree, file_fields, file_tree}
use Rattle.cv_project.specs.Words.{blend_word, blends, delimiter_word, delimiters, source_word, sources}
use Rattle.cv_project.proofs.TreeLemmas.{IsPlain, found, differ, covers, plain-object, plain-list}
use Rattle.cv_project.proofs.StandLemmas.{Stands, AllStand, node_at, object-reads, required-reads}
use Rattle.cv_project.proofs.StandLemmas.{optional-reads, default-reads, default-absent, others-read}
use Rattle.cv_project.proofs.StandLemmas.{tested-passes, plain-any, if_some, if_both, whole-stands}
use Rattle.cv_project.proofs.StandLemmas.{whole_in-stands, name-stands, text-stands, flag-stands, word-stands}
use Rattle.cv_project.proofs.StandLemmas.{decimal-stands, coordinate-stands, background-stands, list-stands}
use Rattle.cv_project.proofs.StandLemmas.{members-read, each-stand, each-plain}
use Rattle.cv_project.proofs.StyleTableLemmas.{style-stands}

-- ---- sources and joins

delimiter-found : (w : Delimiter) → find (λ x. bytes_eq (delimiter_word x) (delimiter_word w)) delimiters ≡ Some w
delimiter-found Comma = refl
delimiter-found Semicolon = refl
delimiter-found Tab = refl

text_source-stands : (file : List ℕ) (delimiter : Delimiter) (geometry : List ℕ) → IsName file
    → IsName geometry → Stands source_of 5 (object_of (text_source_fields file (delimiter_word delimiter) geometry))
    (Text file delimiter geometry)
unfolding source_of text_source_of text_source_fields
text_source-stands file delimiter geometry short short_too =
    let name = name-stands 4 file short in
    let word = word-stands 4 delimiter_word delimiters delimiter (delimiter-found delimiter) in
    let column = name-stands 4 geometry short_too in
    let this = word-stands 4 source_word sources kind.Text refl in
    let fs = text_source_fields file (delimiter_word delimiter) geometry in
    record {
      there = refl;
      reads = λ path. rw (
        object-reads path fs,
        required-reads (word_in source_word sources) 4 (codes "kind") path fs (string (codes "text")) kind.Text
            refl refl this,
        required-reads name_of 4 (codes "file") path fs (string file) file refl refl name,
        default-reads (word_in delimiter_word delimiters) 4 (codes "delimiter") path fs
            (string (delimiter_word delimiter)) delimiter Comma refl refl word,
        default-reads name_of 4 (codes "geometry") path fs (string geometry) geometry (codes "wkt") refl refl column,
        others-read (codes "delimiter" ∷ codes "file" ∷ codes "geometry" ∷ codes "kind" ∷ []) path fs refl,
      ) refl;
      plain = plain-object 4 fs (word.plain, (name.plain, (column.plain, (this.plain, tt))));
    }

grid_source-stands : (file : List ℕ) → IsName file
    → Stands source_of 5 (object_of (grid_source_fields file)) (Grid file)
unfolding source_of grid_source_of grid_source_fields
grid_source-stands file short =
    let name = name-stands 4 file short in
    let this = word-stands 4 source_word sources kind.Grid refl in
    let fs = grid_source_fields file in
    record {
      there = refl;
      reads = λ path. rw (
        object-reads path fs,
        required-reads (word_in source_word sources) 4 (codes "kind") path fs (string (codes "grid")) kind.Grid
            refl refl this,
        required-reads name_of 4 (codes "file") path fs (string file) file refl refl name,
        others-read (codes "file" ∷ codes "kind" ∷ []) path fs refl,
      ) refl;
      plain = plain-object 4 fs (name.plain, (this.plain, tt));
    }

pub source-stands : (source : Source) → IsSource source → Stands source_of 5 (source_tree source) source
source-stands (Text file delimiter geometry) form = text_source-stands file delimiter geometry form.0 form.1
source-stands (Grid file) form = grid_source-stands file form

pub id-stands : (deep n : ℕ) → 1 ≤ n → n ≤ 4294967295 → Stands id_of deep (whole_tree n) n
id-stands deep n least most = whole_in-stands deep 1 4294967295 n least most

pub join-stands : (join : Join) → IsJoin join → KeptJoin join → Stands join_of 5 (join_tree join) join
unfolding join_of join_fields
join-stands join form kept =
    let layer = id-stands 4 join.layer form.layer kept in
    let local = name-stands 4 join.local form.local in
    let key = name-stands 4 join.key form.key in
    let fs = join_fields join in
    record {
      there = refl;
      reads = λ path. rw (
        object-reads path fs,
        required-reads id_of 4 (codes "layer") path fs (whole_tree join.layer) join.layer refl refl layer,
        required-reads name_of 4 (codes "local") path fs (string join.local) join.local refl refl local,
        required-reads name_of 4 (codes "key") path fs (string join.key) join.key refl refl key,
        others-read (codes "key" ∷ codes "layer" ∷ codes "local" ∷ []) path fs refl,
      ) refl;
      plain = plain-object 4 fs (key.plain, (layer.plain, (local.plain, tt)));
    }

-- ---- scales

scale-stands : (z : ℤ) → IsScale z → Stands scale_of 4 (decimal_tree z) z
scale-stands z is = decimal-stands 4 _ _ z (grind (arith, ints), is.1) is.0 is.1

upto : (a b : ℤ) → a ≤ℤ b → int_le a b ≡ true
upto a b h = grind (arith, ints)

in_order-holds : (least greatest : Option ℤ)
    → IfSome least (λ l. IfSome greatest (λ g. l ≤ℤ g)) → in_order least greatest ≡ true
in_order-holds None greatest h = refl
in_order-holds (Some l) None h = refl
in_order-holds (Some l) (Some g) h = upto l g h

pub scales-stands : (scales : ScaleBounds) → AreScales scales → Stands scales_of 5 (scales_tree scales) scales
unfolding scales_of scales_fields
scales-stands scales are =
    let least = if_some scales.least scale-stands are.least_in in
    let greatest = if_some scales.greatest scale-stands are.greatest_in in
    let fs = scales_fields scales in
    record {
      there = refl;
      reads = λ path. rw (
        object-reads path fs,
        optional-reads scale_of 4 (codes "least") path fs decimal_tree scales.least refl refl least,
        optional-reads scale_of 4 (codes "greatest") path fs decimal_tree scales.greatest refl refl greatest,
        tested-passes (in_order scales.least scales.greatest) (codes "greatest") (node_at path (object_of fs))
            (in_order-holds scales.least scales.greatest are.ordered),
        others-read (codes "greatest" ∷ codes "least" ∷ []) path fs refl,
      ) refl;
      plain = plain-object 4 fs (plain-any scale_of 4 decimal_tree scales.greatest greatest, (plain-any scale_of 4 decimal_tree scales.least least, tt));
    }

-- the scales of a layer, which are left out where they have no bound
scales-read : (least greatest : Option ℤ) (path : List ℕ) (fs : Fields) → differ fs ≡ true
    → found (codes "scales") fs
    ≡ option_map scales_tree (bounded (record { least = least; greatest = greatest }))
    → AreScales (record { least = least; greatest = greatest })
    → versioned_scales 2 (node_at path (object_of fs)) ≡ Ok (record { least = least; greatest = greatest })
unfolding versioned_scales
scales-read None None path fs alone here are =
    default-absent scales_of (codes "scales") path fs all_scales alone here
scales-read None (Some g) path fs alone here are =
    default-reads scales_of 5 (codes "scales") path fs _ _ all_scales alone here (scales-stands _ are)
scales-read (Some l) greatest path fs alone here are =
    default-reads scales_of 5 (codes "scales") path fs _ _ all_scales alone here (scales-stands _ are)

scales-plain : (least greatest : Option ℤ) → AreScales (record { least = least; greatest = greatest })
    → IfSome (option_map scales_tree (bounded (record { least = least; greatest = greatest }))) (IsPlain 5)
scales-plain None None are = tt
scales-plain None (Some g) are = (scales-stands _ are).plain
scales-plain (Some l) greatest are = (scales-stands _ are).plain

-- scales whose bounds are written are in form, and so are those without a bound
pub bounded-are : (least greatest : Option ℤ)
    → IfSome (bounded (record { least = least; greatest = greatest })) AreScales
    → AreScales (record { least = least; greatest = greatest })
bounded-are None None kept = record { least_in = tt; greatest_in = tt; ordered = tt }
bounded-are None (Some g) kept = kept
bounded-are (Some l) greatest kept = kept

-- ---- layers

blend-found : (w : Blend) → find (λ x. bytes_eq (blend_word x) (blend_word w)) blends ≡ Some w
blend-found Normal = refl
blend-found Multiply = refl
blend-found Screen = refl
blend-found Overlay = refl
blend-found Darken = refl
blend-found Lighten = refl
blend-found ColorDodge = refl
blend-found ColorBurn = refl
blend-found HardLight = refl
blend-found Difference = refl
blend-found Exclusion = refl
blend-found Addition = refl

layer-alone : (layer : LayerFile) → differ (layer_fields layer) ≡ true
unfolding layer_fields
layer-alone layer = refl

new_id-reads : (before : List LayerFile) (id : ℕ)
    → list_any (λ (layer : LayerFile). nat_eq id layer.id) before ≡ false → new_id before id ≡ Ok tt
unfolding new_id
new_id-reads before id new = rw new refl

layer-others : (path : List ℕ) (layer : LayerFile) → covers (layer_names 2) (layer_fields layer) ≡ true
unfolding layer_names layer_fields
layer-others path layer = refl

pub layer-stands : (before : List LayerFile) (layer : LayerFile) → IsLayer layer → KeptLayer layer
    → list_any (λ (other : LayerFile). nat_eq layer.id other.id) before ≡ false
    → Stands (layer_of 2 before) 6 (layer_tree layer) layer
unfolding layer_of layer_fields
layer-stands before layer form kept new =
    let id = id-stands 5 layer.id form.id kept.id in
    let name = name-stands 5 layer.name form.name in
    let source = source-stands layer.source form.source in
    let visible = flag-stands 5 layer.visible in
    let opacity = whole_in-stands 5 0 255 layer.opacity (omega arith) kept.opacity in
    let blend = word-stands 5 blend_word blends layer.blend (blend-found layer.blend) in
    let mask = if_both layer.mask (id-stands 5) form.mask kept.mask in
    let join = if_both layer.join join-stands form.join kept.join in
    let style = subst (λ grid. Stands (style_of grid) 5 (style_tree layer.style) layer.style) form.fits
    (style-stands layer.style form.style kept.style) in
    let fs = layer_fields layer in
    let alone = layer-alone layer in
    record {
      there = refl;
      reads = λ path. rw (
        object-reads path fs,
        required-reads id_of 5 (codes "id") path fs (whole_tree layer.id) layer.id alone refl id,
        new_id-reads before layer.id new,
        required-reads name_of 5 (codes "name") path fs (string layer.name) layer.name alone refl name,
        required-reads source_of 5 (codes "source") path fs (source_tree layer.source) layer.source alone refl source,
        default-reads flag_of 5 (codes "visible") path fs (boolean layer.visible) layer.visible true alone refl visible,
        default-reads (whole_in 0 255) 5 (codes "opacity") path fs (whole_tree layer.opacity) layer.opacity 255
            alone refl opacity,
        default-reads (word_in blend_word blends) 5 (codes "blend") path fs (string (blend_word layer.blend))
            layer.blend Normal alone refl blend,
        optional-reads id_of 5 (codes "mask") path fs whole_tree layer.mask alone refl mask,
        optional-reads join_of 5 (codes "join") path fs join_tree layer.join alone refl join,
        required-reads (style_of (is_grid_source layer.source)) 5 (codes "style") path fs (style_tree layer.style)
            layer.style alone refl style,
        scales-read layer.scales.least layer.scales.greatest path fs alone refl kept.scales,
        others-read (layer_names 2) path fs (layer-others path layer),
      ) refl;
      plain = plain-object 5 fs (blend.plain, (id.plain, (plain-any join_of 5 join_tree layer.join join, (plain-any id_of 5 whole_tree layer.mask mask, (name.plain, (opacity.plain, (scales-plain layer.scales.least layer.scales.greatest kept.scales, (source.plain, (style.plain, (visible.plain, tt))))))))));
    }

-- what holds of each id holds of one between others
id-between : (P : ℕ → Type 0) (before : List LayerFile) (layer : LayerFile) (rest : List LayerFile)
    → AllByRecursion P (map (λ (l : LayerFile). l.id) (before ++ layer ∷ rest)) → P layer.id
id-between P [] layer rest all = all.0
id-between P (b ∷ before) layer rest all = id-between P before layer rest all.1

not_same : (a b : ℕ) → nat_eq a b ≡ false → nat_eq b a ≡ false
not_same a b h = grind (arith, nat_tests)

-- among layers whose ids differ, none before a layer has its id
id-new : (before : List LayerFile) (layer : LayerFile) (rest : List LayerFile)
    → IsDistinct nat_eq (map (λ (l : LayerFile). l.id) (before ++ layer ∷ rest))
    → list_any (λ (other : LayerFile). nat_eq layer.id other.id) before ≡ false
unfolding IsDistinct
id-new [] layer rest distinct = refl
id-new (b ∷ before) layer rest distinct = rw (
    not_same b.id layer.id (id-between (λ n. nat_eq b.id n ≡ false) before layer rest distinct.0)
    ) (id-new before layer rest distinct.1)

layers-stand : (before layers : List LayerFile) → All IsLayer layers → All KeptLayer layers
    → IsDistinct nat_eq (map (λ (l : LayerFile). l.id) (before ++ layers))
    → AllStand (layer_of 2) 6 layer_tree before layers
layers-stand before [] form kept distinct = tt
layers-stand before (layer ∷ rest) form kept distinct = (
  layer-stands before layer (form 0 layer (omega arith)) (kept 0 layer (omega arith))
      (id-new before layer rest distinct),
  layers-stand (before ++ layer ∷ []) rest (λ k d below. form (suc k) d (omega arith))
      (λ k d below. kept (suc k) d (omega arith))
      (subst (λ ls. IsDistinct nat_eq (map (λ (l : LayerFile). l.id) ls)) (sym (append_assoc before (layer ∷ []) rest)) distinct),
)

-- ---- canvases

extent-stands : (extent : Rectangle) → IsExtent extent → Stands extent_of 5 (extent_tree extent) extent
unfolding extent_of extent_tree
extent-stands extent is =
    let zs = extent.xmin ∷ extent.ymin ∷ extent.xmax ∷ extent.ymax ∷ [] in
    let stand : AllStand (each coordinate_of) 4 decimal_tree [] zs = (coordinate-stands 4 extent.xmin is.west_in, (coordinate-stands 4 extent.ymin is.south_in, (coordinate-stands 4 extent.xmax is.east_in, (coordinate-stands 4 extent.ymax is.north_in, tt)))) in
    record {
      there = refl;
      reads = λ path. rw (members-read (each coordinate_of) 4 decimal_tree path [] zs stand) refl;
      plain = plain-list 4 decimal_tree zs (each-plain (each coordinate_of) 4 decimal_tree [] zs stand);
    }

is_size-passes : (w h : ℕ) → IsSize w h → is_size w h ≡ true
is_size-passes w h size =
    let a = size.wide in let b = size.high in let c = size.most_wide in let d = size.most_high in
    let e = size.most in grind (arith, nat_tests)

spread-passes : (e : Rectangle) → e.xmin <ℤ e.xmax → e.ymin <ℤ e.ymax → is_spread e ≡ true
spread-passes e wide high = grind (arith, ints)

doubled-passes : (z : ℤ) → IsDoubled z → is_doubled z ≡ true
doubled-passes z is = grind (arith, ints)

shown-passes : (w h : ℕ) (e : Rectangle) → IsSize w h → IsShown w h e → is_ok (view_of e w h) ≡ true
shown-passes w h e size shown =
    let v = grid_of e w h in
    rw (
      is_size-passes w h size,
      spread-passes e shown.wide shown.high,
      doubled-passes v.lx2 shown.view.left,
      doubled-passes (right_of v) shown.view.right,
      doubled-passes v.ty2 shown.view.top,
      doubled-passes (bottom_of v) shown.view.bottom,
    ) refl

can_show-passes : (w h : ℕ) (extent : Option Rectangle) → IsSize w h → IfSome extent (IsShown w h)
    → can_show w h extent ≡ true
can_show-passes w h None size shown = refl
can_show-passes w h (Some e) size shown = shown-passes w h e size shown

pub canvas-stands : (canvas : CanvasFile) → IsCanvas canvas → KeptCanvas canvas
    → Stands canvas_of 6 (canvas_tree canvas) canvas
unfolding canvas_of canvas_fields
canvas-stands canvas form kept =
    let width = whole-stands 5 canvas.width in
    let height = whole-stands 5 canvas.height in
    let cache = whole_in-stands 5 0 268435456 canvas.cache (omega arith) form.cache in
    let extent = if_some canvas.extent extent-stands kept in
    let fs = canvas_fields canvas in
    record {
      there = refl;
      reads = λ path. rw (
        object-reads path fs,
        required-reads whole_of 5 (codes "width") path fs (whole_tree canvas.width) canvas.width refl refl width,
        required-reads whole_of 5 (codes "height") path fs (whole_tree canvas.height) canvas.height refl refl height,
        tested-passes (is_size canvas.width canvas.height) (codes "height") (node_at path (object_of fs))
            (is_size-passes canvas.width canvas.height form.size),
        default-reads (whole_in 0 268435456) 5 (codes "cache") path fs (whole_tree canvas.cache) canvas.cache 67108864
            refl refl cache,
        optional-reads extent_of 5 (codes "extent") path fs extent_tree canvas.extent refl refl extent,
        tested-passes (can_show canvas.width canvas.height canvas.extent) (codes "extent")
            (node_at path (object_of fs))
            (can_show-passes canvas.width canvas.height canvas.extent form.size form.extent),
        others-read (codes "cache" ∷ codes "extent" ∷ codes "height" ∷ codes "width" ∷ []) path fs refl,
      ) refl;
      plain = plain-object 5 fs (cache.plain, (plain-any extent_of 5 extent_tree canvas.extent extent, (height.plain, (width.plain, tt))));
    }

-- ---- the whole

known-two : known 2 ≡ Ok tt
unfolding known
known-two = refl

-- a file in form
pub file-stands : (file : FileParts) → IsInForm file → KeptFile file → Stands project_of 8 (file_tree file) file
unfolding project_of file_fields file_tree
file-stands file form kept =
    let version = whole-stands 7 2 in
    let background = background-stands 7 file.background kept.background in
    let canvases = list-stands 0 4 (each canvas_of) 6 canvas_tree file.canvases (omega arith) form.few_canvases
    (each-stand canvas_of 6 canvas_tree [] file.canvases
    (λ i d below. canvas-stands _ (form.canvases i d below) (kept.canvases i d below))) in
    let layers = list-stands 0 32 (layer_of 2) 6 layer_tree file.layers (omega arith) form.few_layers
    (layers-stand [] file.layers form.layers kept.layers form.distinct) in
    let fs = file_fields file in
    record {
      there = refl;
      reads = λ path. rw (
        object-reads path fs,
        required-reads whole_of 7 (codes "version") path fs (whole_tree 2) 2 refl refl version,
        known-two,
        required-reads background_of 7 (codes "background") path fs (background_tree file.background)
            file.background refl refl background,
        required-reads (list_of 0 4 (each canvas_of)) 7 (codes "canvases") path fs
            (list_tree canvas_tree file.canvases) file.canvases refl refl canvases,
        required-reads (list_of 0 32 (layer_of 2)) 7 (codes "layers") path fs
            (list_tree layer_tree file.layers) file.layers refl refl layers,
        others-read (codes "background" ∷ codes "canvases" ∷ codes "layers" ∷ codes "version" ∷ []) path fs refl,
      ) refl;
      plain = plain-object 7 fs (background.plain, (canvases.plain, (layers.plain, (version.plain, tt))));
    }
