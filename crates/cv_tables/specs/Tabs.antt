-- The canvases of a desk: what each shows, keeps and has published.
--
-- Source: in outline the developer documentation of QGIS (`QgsMapRendererCache`). All rules are this project's own.
use Rattle.std.specs.Prelude.{◌≡◌, ℕ, if◌then◌else◌, List, [], map}
use Rattle.std.specs.Prelude.{Option, Some, None, option_map, slice_get, IsSomeAnd}
use Rattle.cv_model.specs.declared.edit.Edit.{Edit}
use Rattle.cv_model.specs.declared.project.CanvasSpec.{CanvasSpec}
use Rattle.cv_model.specs.Views.{PixelGrid}
use Rattle.cv_model.specs.Edits.{touched}
use Rattle.cv_model.specs.Paintings.{Painting, Stamp}
use Rattle.cv_store.specs.Stores.{StoreParts, project_of, accepted}
use Rattle.cv_cache.specs.Caches.{CacheParts, painted_id, to_front, put_front, independent, Serves}
use Rattle.cv_event.specs.States.{Taken, Cached, Canvas, State, change_at, keeps_cache}
use Rattle.cv_tables.specs.Rows.{Row, job_of}

-- a job whose picture was published: its number, and the job as it was then
pub record PublishedJob : Type 0 where
  pub job : ℕ
  pub row : Row

-- what it took
abbrev pub taken_in : PublishedJob → Taken
taken_in p = record { job = p.job; project = project_of p.row.store; view = p.row.view }

-- a canvas: its size and capacity, its present view, its painted layers, the one that was used last first, and
-- the last job that was finished on it
pub record Tab : Type 0 where
  pub spec : CanvasSpec
  pub view : Option PixelGrid
  pub paintings : List Painting
  pub published : Option PublishedJob

-- the image of a painting as the journal knows it
abbrev pub cached_of : Painting → Cached
cached_of p = record { layer = painted_id p; view = p.view }

-- the canvas as the journal knows it
abbrev pub canvas_of : Tab → Canvas
canvas_of tab = record {
  spec = tab.spec;
  view = tab.view;
  cache = map cached_of tab.paintings;
  published = option_map taken_in tab.published;
}

-- the tables: the store, the canvases, and the jobs
pub record Tables : Type 0 where
  pub store : StoreParts
  pub tabs : List Tab
  pub rows : List Row

-- the state that tables are
abbrev pub state_of : Tables → State
state_of t = record {
  project = project_of t.store;
  accepted = accepted t.store;
  canvases = map canvas_of t.tabs;
  jobs = map job_of t.rows;
}

-- ---- what changes a canvas

abbrev pub new_tab : CanvasSpec → Tab
new_tab spec = record { spec = spec; view = None; paintings = []; published = None }

-- a view empties the cache where it is no pan of the view before
abbrev pub tab_viewed : PixelGrid → Tab → Tab
tab_viewed view tab = record tab {
  view = Some view;
  paintings = (if keeps_cache tab.view view then tab.paintings else []);
}

-- an edit takes out what depends on the layer that it touches
abbrev pub left_by : Option ℕ → List Painting → List Painting
left_by None paintings = paintings
left_by (Some layer) paintings = independent layer paintings

abbrev pub tab_edited : Edit → Tab → Tab
tab_edited e tab = record tab { paintings = (left_by (touched e) tab.paintings) }

-- a hit moves the layer's painting to the front
abbrev pub tab_served : ℕ → Tab → Tab
tab_served layer tab = record tab { paintings = (to_front layer tab.paintings) }

-- a stored delivery puts its painting there
abbrev pub tab_stored : Painting → Tab → Tab
tab_stored p tab = record tab { paintings = (put_front tab.spec.capacity p tab.paintings) }

-- the picture of a job is the canvas's last one
abbrev pub tab_publishes : ℕ → Row → Tab → Tab
tab_publishes j row tab = record tab { published = Some (record { job = j; row = row }) }

-- ---- what a look finds

-- the cache of a canvas
abbrev pub cache_of : Tab → CacheParts
cache_of tab = record { paintings = tab.paintings; capacity = tab.spec.capacity }

-- what a look answers, and what it makes of a canvas
abbrev pub TabLook : Tab → Tab → ℕ → List Stamp → PixelGrid → Option Painting → Type 0
TabLook old new layer stamps view None =
    ((p : Painting) → Serves (cache_of old) layer stamps view p → ⊥) × (new ≡ old)
TabLook old new layer stamps view (Some p) =
    Serves (cache_of old) layer stamps view p × (new ≡ tab_served layer old)

-- a canvas may serve this painting
abbrev pub TabServes : List Tab → ℕ → ℕ → List Stamp → PixelGrid → Painting → Type 0
TabServes tabs c layer stamps view p =
    IsSomeAnd (slice_get tabs c) (λ (tab : Tab). Serves (cache_of tab) layer stamps view p)

-- what a look answers, and what it makes of the canvases
abbrev pub TabLooked : List Tab → List Tab → ℕ → ℕ → List Stamp → PixelGrid → Option Painting → Type 0
TabLooked old new c layer stamps view None =
    ((p : Painting) → TabServes old c layer stamps view p → ⊥) × (new ≡ old)
TabLooked old new c layer stamps view (Some p) =
    TabServes old c layer stamps view p × (new ≡ change_at c (tab_served layer) old)

-- ---- how a canvas is held

-- a canvas keeps its cache's capacity
pub record IsTab (spec : CanvasSpec) (cache : CacheParts) : Type 0 where
  pub capacity : cache.capacity ≡ spec.capacity
