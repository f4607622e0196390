-- A desk as it is opened.
use Rattle.std.proofs.Common.{◌≡◌, sym, ap, refl, subst, ℕ, zero, suc, ◌-◌, ◌≤◌, Bool, true, false, ◌||◌, cond}
use Rattle.std.proofs.Common.{List, [], ◌∷◌, map, Some, find, if◌then◌else◌, arith}
use Rattle.std.specs.List.{AllByRecursion}
use Rattle.std.specs.Option.{option_map_or}
use Rattle.cv_model.specs.Layers.{is_layer, has_layer}
use Rattle.cv_model.specs.declared.project.CanvasSpec.{CanvasSpec}
use Rattle.cv_store.specs.Laws.{IsBehind}
use Rattle.cv_store.specs.Stores.{StoreParts, RevisedLayer, IsStore, layer_of, has_id, project_of}
use Rattle.cv_event.specs.declared.entry.Entry.{Entry}
use Rattle.cv_event.specs.States.{Job, new_canvas}
use Rattle.cv_tables.specs.Rows.{Row, row_in}
use Rattle.cv_tables.specs.Tabs.{Tab, canvas_of, new_tab}
use Rattle.cv_desk.specs.Desks.{IsCurrent, IsDesk}
use Rattle.cv_desk.proofs.NamedLemmas.{named_opened}

-- the canvases of an opening are those that it was given
pub specs_back : (specs : List CanvasSpec) → map (λ (tab : Tab). tab.spec) (map new_tab specs) ≡ specs
specs_back [] = refl
specs_back (spec ∷ specs) = ap (λ l. spec ∷ l) (specs_back specs)

tabs_seen : (specs : List CanvasSpec) → map new_canvas (map (λ (tab : Tab). tab.spec) (map new_tab specs)) ≡ map canvas_of (map new_tab specs)
tabs_seen [] = refl
tabs_seen (spec ∷ specs) = ap (λ l. new_canvas spec ∷ l) (tabs_seen specs)

new_current : (store : StoreParts) (specs : List CanvasSpec) → AllByRecursion (IsCurrent store) (map new_tab specs)
new_current store [] = tt
new_current store (spec ∷ specs) = (record { present = tt; published = tt }, new_current store specs)

-- the revisions of a store at its first version are 1
first_revisions : (id : ℕ) (rows : List RevisedLayer)
    → AllByRecursion (λ (row : RevisedLayer). (1 ≤ row.revision) × (row.revision ≤ 1)) rows
    → option_map_or (λ (row : RevisedLayer). row.revision) (find (has_id id) rows) 0
    ≡ (if has_layer id (map layer_of rows) then 1 else 0)
first_revisions id [] h = refl
first_revisions id (row ∷ rows) h = by (is_layer id row.layer) (first_revisions id rows h.1)
  where
    one : row.revision ≡ 1
    one = let least = h.0.0 in let most = h.0.1 in omega (arith, least, most)

    by : (b : Bool) → option_map_or (λ (row : RevisedLayer). row.revision) (find (has_id id) rows) 0
        ≡ (if has_layer id (map layer_of rows) then 1 else 0)
        → option_map_or (λ (row : RevisedLayer). row.revision) (cond b (Some row) (find (has_id id) rows)) 0
        ≡ (if b || has_layer id (map layer_of rows) then 1 else 0)
    by true rest = one
    by false rest = rest

-- so it is the opened project behind no edits
behind_none : (store : StoreParts) → IsStore store → store.version ≡ 1 → IsBehind (project_of store) [] store
behind_none store kept first = record {
  project_is = refl;
  version_is = first;
  revisions_are = λ id. first_revisions id store.layers
      (subst (λ n. AllByRecursion (λ (row : RevisedLayer). (1 ≤ row.revision) × (row.revision ≤ n)) store.layers) first kept.revised);
}

none_there : (j : ℕ) (row : Row) → row_in [] j ≡ Some row → ⊥
none_there zero row h = cc
none_there (suc at) row h = cc

opened_at : (store : StoreParts) (specs : List CanvasSpec) (spare : ℕ) → IsStore store → store.version ≡ 1
    → IsDesk (record {
      opening = record { project = project_of store; canvases = map (λ (tab : Tab). tab.spec) (map new_tab specs) };
      journal = [];
      spare = spare;
      tables = record { store = store; tabs = map new_tab specs; rows = [] };
    })
opened_at store specs spare kept first =
    let none : 0 ≡ store.version - 1 = omega (arith, first) in
    let jobs : List Job = [] in
    record {
      legal = tt;
      shows = λ i. record { project = project_of store; accepted = none i; canvases = tabs_seen specs i; jobs = jobs };
      holds = record { opened = omega (arith, first); caches = new_current store specs; slots = tt; shown = tt; room = omega arith };
      revised = record { store = behind_none store kept first; jobs = λ j row there. absurd (none_there j row there) };
      named = named_opened specs;
    }

opened_empty : (store : StoreParts) (specs : List CanvasSpec) (tabs : List Tab) (rows : List Row) (journal : List Entry) (spare : ℕ)
    → IsStore store → store.version ≡ 1 → tabs ≡ map new_tab specs → rows ≡ [] → journal ≡ []
    → IsDesk (record {
      opening = record { project = project_of store; canvases = map (λ (tab : Tab). tab.spec) tabs };
      journal = journal;
      spare = spare;
      tables = record { store = store; tabs = tabs; rows = rows };
    })
opened_empty store specs tabs rows journal spare kept first made none empty =
    subst (λ (l : List Tab). IsDesk (record {
      opening = record { project = project_of store; canvases = map (λ (tab : Tab). tab.spec) l };
      journal = journal;
      spare = spare;
      tables = record { store = store; tabs = l; rows = rows };
    })) (sym made)
    (subst (λ (l : List Row). IsDesk (record {
      opening = record { project = project_of store; canvases = map (λ (tab : Tab). tab.spec) (map new_tab specs) };
      journal = journal;
      spare = spare;
      tables = record { store = store; tabs = map new_tab specs; rows = l };
    })) (sym none)
    (subst (λ (l : List Entry). IsDesk (record {
      opening = record { project = project_of store; canvases = map (λ (tab : Tab). tab.spec) (map new_tab specs) };
      journal = l;
      spare = spare;
      tables = record { store = store; tabs = map new_tab specs; rows = [] };
    })) (sym empty) (opened_at store specs spare kept first)))

-- a desk as it is opened, with what is kept of its opening
pub opened_desk : (store : StoreParts) (specs : List CanvasSpec) (tabs : List Tab) (rows : List Row) (journal : List Entry) (spare : ℕ)
    (was : StoreParts) (blank : List Tab) → IsStore store → store.version ≡ 1 → tabs ≡ map new_tab specs → rows ≡ [] → journal ≡ [] → was ≡ store
    → blank ≡ tabs
    → IsDesk (record {
      opening = record { project = project_of was; canvases = map (λ (tab : Tab). tab.spec) blank };
      journal = journal;
      spare = spare;
      tables = record { store = store; tabs = tabs; rows = rows };
    })
opened_desk store specs tabs rows journal spare was blank kept first made none empty was_is blank_is =
    subst (λ (s : StoreParts). IsDesk (record {
      opening = record { project = project_of s; canvases = map (λ (tab : Tab). tab.spec) blank };
      journal = journal;
      spare = spare;
      tables = record { store = store; tabs = tabs; rows = rows };
    })) (sym was_is)
    (subst (λ (l : List Tab). IsDesk (record {
      opening = record { project = project_of store; canvases = map (λ (tab : Tab). tab.spec) l };
      journal = journal;
      spare = spare;
      tables = record { store = store; tabs = tabs; rows = rows };
    })) (sym blank_is) (opened_empty store specs tabs rows journal spare kept first made none empty))
