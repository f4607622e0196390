-- What is painted: the strokes of a feature, a layer's pixel, and the picture of a project at a view.
--
-- Source: this project's own; colours are laid and merged by W3C Compositing and Blending Level 1.
use Rattle.std.specs.Prelude.{ℕ, ◌+◌, Bool, true, false, nat_eq, if◌then◌else◌, ℤ, pos, ◌*ℤ◌, List, [], ◌∷◌}
use Rattle.std.specs.Prelude.{◌++◌, map, Option, Some, None}
use Rattle.std.specs.List.{flat_map, list_any}
use Rattle.std.specs.Option.{option_map_or}
use Rattle.cv_model.specs.declared.colour.Rgb.{Rgb}
use Rattle.cv_model.specs.declared.colour.Rgba.{Rgba}
use Rattle.cv_model.specs.declared.feature.Feature.{Feature}
use Rattle.cv_model.specs.declared.blend.Blend.{Blend}
use Rattle.cv_model.specs.declared.style.Style.{Style}
use Rattle.cv_model.specs.declared.style.Style.TheVariants.{Single, Categorised, Graduated, Ramp}
use Rattle.cv_model.specs.declared.symbol.Symbol.{Symbol}
use Rattle.cv_model.specs.Positions.{Position}
use Rattle.cv_model.specs.Views.{PixelGrid, centre_of}
use Rattle.cv_model.specs.Polygons.{edges, is_inside}
use Rattle.cv_model.specs.Pens.{PenParts, segments, is_near}
use Rattle.cv_model.specs.Markers.{MarkerParts, is_marked}
use Rattle.cv_model.specs.Geometries.{GeometryLists}
use Rattle.cv_model.specs.Grids.{CellGrid, cell_at}
use Rattle.cv_model.specs.Ramps.{ramp_of}
use Rattle.cv_model.specs.Colours.{transparent, laid}
use Rattle.cv_model.specs.Blends.{merged}
use Rattle.cv_model.specs.Layers.{Contents, Features, Cells, Core, Parts, Layer, Project, parts_among, slots}
use Rattle.cv_model.specs.Texts.{feature_symbol}
use Rattle.cv_model.specs.Rasters.{Raster, pixels_of}

-- half the side of so many pixels, in doubled millionths
abbrev pub half_side : PixelGrid → ℕ → ℤ
half_side view size = pos size *ℤ view.u

-- some polygon has p inside
abbrev pub is_covered : Position → GeometryLists → Bool
is_covered p g = list_any (is_inside p) g.polygons

-- the pen of half-width r at p hits an edge of the ring
abbrev pub hits_ring : ℤ → Position → List Position → Bool
hits_ring r p ring = list_any (is_near r p) (edges ring)

-- it hits a segment of the line
abbrev pub hits_line : ℤ → Position → List Position → Bool
hits_line r p line = list_any (is_near r p) (segments line)

-- it hits an edge of some ring of some polygon
abbrev pub hits_rings : ℤ → Position → GeometryLists → Bool
hits_rings r p g = list_any (list_any (hits_ring r p)) g.polygons

-- it hits a segment of some line
abbrev pub hits_lines : ℤ → Position → GeometryLists → Bool
hits_lines r p g = list_any (hits_line r p) g.lines

-- the colour, once, where something is hit
abbrev pub laid_where : Bool → Rgba → List Rgba
laid_where hit colour = if hit then colour ∷ [] else []

-- the fill, once, where some polygon has p inside
abbrev pub fill_strokes : Position → GeometryLists → Option Rgba → List Rgba
fill_strokes p g None = []
fill_strokes p g (Some fill) = laid_where (is_covered p g) fill

-- the pen, once for the rings and once for the lines
abbrev pub pen_strokes : PixelGrid → Position → GeometryLists → Option PenParts → List Rgba
pen_strokes view p g None = []
pen_strokes view p g (Some pen) =
    let r = half_side view pen.width in laid_where (hits_rings r p g) pen.colour ++ laid_where (hits_lines
    r p g) pen.colour

-- the marker, once, where it covers p from some point
abbrev pub marker_strokes : PixelGrid → Position → GeometryLists → Option MarkerParts → List Rgba
marker_strokes view p g None = []
marker_strokes view p g (Some marker) =
    laid_where (list_any (is_marked marker.shape (half_side view marker.size) p) g.points) marker.colour

-- the colours that a geometry lays on the centre p of a view, lowest first
unfoldable pub strokes_of : Symbol → PixelGrid → Position → GeometryLists → List Rgba
strokes_of symbol view p g =
    fill_strokes p g symbol.fill ++ (pen_strokes view p g symbol.pen ++ marker_strokes view p g symbol.marker)

-- those of a feature: none without a symbol or a geometry
abbrev pub strokes : Option Symbol → PixelGrid → Position → Option GeometryLists → List Rgba
strokes None view p g = []
strokes (Some symbol) view p None = []
strokes (Some symbol) view p (Some g) = strokes_of symbol view p g

-- those of a feature with these parts of its layer
abbrev pub feature_strokes : Parts → PixelGrid → Position → Feature → List Rgba
feature_strokes parts view p feature = strokes (feature_symbol parts feature) view p feature.geometry

-- ---- a layer's pixel

-- the feature has a polygon with p inside
abbrev pub is_feature_at : Position → Feature → Bool
is_feature_at p feature = option_map_or (is_covered p) feature.geometry false

-- a mask layer shows what lies at p: where a polygon of its features has p inside; a grid shows nothing
abbrev pub shows : Position → Contents → Bool
shows p (Features columns features) = list_any (is_feature_at p) features
shows p (Cells grid) = false

-- p isn't masked: there is no mask layer, or it shows what lies there
abbrev pub is_shown : Position → Option Core → Bool
is_shown p mask = option_map_or (λ (core : Core). shows p core.contents) mask true

-- the colour of a grid's cell by a style, which is a ramp
abbrev pub cell_colour : Style → CellGrid → Position → Rgba
cell_colour (Ramp ramp) grid p = option_map_or (ramp_of ramp) (cell_at grid p) transparent
cell_colour (Single symbol) grid p = transparent
cell_colour (Categorised field classes fallback) grid p = transparent
cell_colour (Graduated field classes) grid p = transparent

-- what a layer's contents paint at p: the strokes of its features in order, each over those before, or its
-- cell's colour
abbrev pub painted : Contents → Parts → PixelGrid → Position → Rgba
painted (Features columns features) parts view p = laid (flat_map (feature_strokes parts view p) features)
painted (Cells grid) parts view p = cell_colour parts.own.style grid p

-- the pixel of a layer
unfoldable pub pixel : Parts → PixelGrid → ℕ → ℕ → Rgba
pixel parts view i j =
    let p = centre_of view i j in if is_shown p parts.mask then painted parts.own.contents parts view p
    else transparent

-- ---- the picture

-- what a slot merges: its layer's pixel with the layer's opacity and mode
abbrev pub merged_slot : Project → PixelGrid → ℕ → ℕ → Layer → Rgba × ℕ × Blend
merged_slot project view i j layer =
    (pixel (parts_among project.layers layer.core) view i j, layer.opacity, layer.blend)

-- the colour of these layers, bottom first, merged onto the background
unfoldable pub colour_of : Project → List Layer → PixelGrid → ℕ → ℕ → Rgb
colour_of project shown view i j = merged project.background (map (merged_slot project view i j) shown)

-- the picture of these layers
abbrev pub picture_of : Project → List Layer → PixelGrid → Raster Rgb
picture_of project shown view = record {
  width = view.w;
  height = view.h;
  pixels = pixels_of view.w view.h (colour_of project shown view);
}

-- the picture of a project at a view, of all its slots
abbrev pub picture : Project → PixelGrid → Raster Rgb
picture project view = picture_of project (slots project view) view

-- those of the slots, numbered from k, whose numbers are listed
abbrev pub listed : {A : Type 0} → List ℕ → ℕ → List A → List A
listed ready k [] = []
listed ready k (x ∷ xs) =
    if list_any (nat_eq k) ready then x ∷ listed ready (k + 1) xs else listed ready (k + 1) xs

-- the picture of the slots that are listed
abbrev pub picture_with : Project → PixelGrid → List ℕ → Raster Rgb
picture_with project view ready = picture_of project (listed ready 0 (slots project view)) view
