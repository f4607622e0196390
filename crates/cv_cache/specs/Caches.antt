-- The cache of a canvas: its painted layers, the one that was used last first.
--
-- Source: in outline the developer documentation of QGIS (`QgsMapRendererCache`): images of layers with the
-- layers that they depend on. The rules are this project's own.
use Rattle.std.specs.Prelude.{◌≡◌, ℕ, nat_eq, ◌==◌, Bool, not, if◌then◌else◌, List, [], ◌∷◌, ◌++◌, filter, find}
use Rattle.std.specs.Prelude.{take, option_to_list, Option, Some, None}
use Rattle.std.specs.List.{list_any, AllByRecursion}
use Rattle.std.specs.Map.{values_of}
use Rattle.lru.specs.LruCache.{LruCache}
use Rattle.cv_model.specs.Layers.{deps_of}
use Rattle.cv_model.specs.Paintings.{Painting, Stamp}
use Rattle.cv_model.specs.Views.{PixelGrid}

-- a cache: its paintings, the one that was used last first, and how many it holds at most
pub record CacheParts : Type 0 where
  pub paintings : List Painting
  pub capacity : ℕ

-- the layer that a painting is of
abbrev pub painted_id : Painting → ℕ
painted_id p = p.input.parts.own.id

abbrev pub is_of : ℕ → Painting → Bool
is_of layer p = painted_id p == layer

-- a list without its first item that passes the test
abbrev pub drop_first : {A : Type 0} → (A → Bool) → List A → List A
drop_first test [] = []
drop_first test (x ∷ xs) = if test x then xs else x ∷ drop_first test xs

-- the painting of a layer moved to the front
abbrev pub to_front : ℕ → List Painting → List Painting
to_front layer ps = option_to_list (find (is_of layer) ps) ++ drop_first (is_of layer) ps

-- a painting put in front, without an older one of its layer, cut to the capacity
abbrev pub put_front : ℕ → Painting → List Painting → List Painting
put_front capacity p ps = take capacity (p ∷ drop_first (is_of (painted_id p)) ps)

-- a painting depends on a layer: it is of it, or its mask layer or its join layer is named so
abbrev pub depends_on : ℕ → Painting → Bool
depends_on layer p = list_any (nat_eq layer) (deps_of p.input.parts.own)

-- the paintings that don't depend on a layer
abbrev pub independent : ℕ → List Painting → List Painting
independent layer ps = filter (λ p. not (depends_on layer p)) ps

-- ---- what a look finds

-- a painting has these stamps and is at this view
abbrev pub Suits : List Stamp → PixelGrid → Painting → Type 0
Suits stamps view p = (p.input.stamps ≡ stamps) × (p.view ≡ view)

-- the painting of a layer in a cache, which has these stamps and is at this view
abbrev pub Serves : CacheParts → ℕ → List Stamp → PixelGrid → Painting → Type 0
Serves cache layer stamps view p = (find (is_of layer) cache.paintings ≡ Some p) × Suits stamps view p

-- what a look answers, and what it makes of the cache
abbrev pub Looked : CacheParts → CacheParts → ℕ → List Stamp → PixelGrid → Option Painting → Type 0
Looked old new layer stamps view None = ((p : Painting) → Serves old layer stamps view p → ⊥) × (new ≡ old)
Looked old new layer stamps view (Some p) =
    Serves old layer stamps view p × (new ≡ record old { paintings = (to_front layer old.paintings) })

-- ---- how a cache is held

-- each painting stands under its layer
abbrev pub IsKeyed : List (ℕ × Painting) → Type 0
IsKeyed entries = AllByRecursion (λ (e : ℕ × Painting). e.0 ≡ painted_id e.1) entries

-- a cache of no capacity isn't there
abbrev pub paintings_in : Option (LruCache ℕ Painting) → List Painting
paintings_in None = []
paintings_in (Some c) = values_of c.entries

abbrev pub capacity_in : Option (LruCache ℕ Painting) → ℕ
capacity_in None = 0
capacity_in (Some c) = c.cap

abbrev pub IsKeyedIn : Option (LruCache ℕ Painting) → Type 0
IsKeyedIn None = Unit {0}
IsKeyedIn (Some c) = IsKeyed c.entries
