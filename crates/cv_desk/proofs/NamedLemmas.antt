-- What is published is of the jobs whose numbers it has.
use Rattle.std.proofs.Common.{◌≡◌, ◌∙◌, sym, ap, refl, subst, ℕ, zero, suc, List, [], ◌∷◌, map, Option, Some, None}
use Rattle.std.proofs.Common.{slice_get, option_map, IfSome, IsSomeAnd}
use Rattle.std.proofs.lemmas.Option.{slice_get-map}
use Rattle.cv_model.specs.declared.project.CanvasSpec.{CanvasSpec}
use Rattle.cv_event.specs.States.{change_at}
use Rattle.cv_tables.specs.Rows.{Row, row_in}
use Rattle.cv_tables.specs.Tabs.{Tab, PublishedJob, new_tab, tab_publishes}
use Rattle.cv_desk.specs.Desks.{basis_of, KeepJobs, IsOfItsJob, AreOfTheirJobs}
use Rattle.cv_desk.proofs.BasisLemmas.{basis_stays}

-- ---- jobs that go on

last_kept : (old new : List Row) (c : ℕ) (o : Option PublishedJob) → KeepJobs old new → IfSome o (IsOfItsJob old c)
    → IfSome o (IsOfItsJob new c)
last_kept old new c None kept h = tt
last_kept old new c (Some last) kept h = (h.0, by (row_in old last.job) refl h.1)
  where
    by : (o : Option Row) → row_in old last.job ≡ o → IsSomeAnd o (λ (row : Row). basis_of row ≡ basis_of last.row)
        → IsSomeAnd (row_in new last.job) (λ (row : Row). basis_of row ≡ basis_of last.row)
    by None there h = absurd h
    by (Some r) there h =
        let q = basis_stays old new last.job r kept there in
        subst (λ (o : Option Row). IsSomeAnd o (λ (row : Row). basis_of row ≡ basis_of last.row)) (sym q.1) (q.2 ∙ h)

pub named_kept : (old new : List Row) (tabs : List Tab) → KeepJobs old new → AreOfTheirJobs old tabs → AreOfTheirJobs new tabs
named_kept old new tabs kept h = λ c tab is. last_kept old new c tab.published kept (h c tab is)

-- ---- canvases that keep what they have published

abbrev published_of : Tab → Option PublishedJob
published_of tab = tab.published

named_same : (rows : List Row) (old new : List Tab) → map published_of new ≡ map published_of old → AreOfTheirJobs rows old
    → AreOfTheirJobs rows new
named_same rows old new same h c tab is = by (slice_get old c) refl
  where
    seen : option_map published_of (slice_get old c) ≡ Some tab.published
    seen =
        sym (slice_get-map published_of old c) ∙ ap (λ (l : List (Option PublishedJob)). slice_get l c) (sym same)
        ∙ slice_get-map published_of new c ∙ ap (option_map published_of) is

    by : (o : Option Tab) → slice_get old c ≡ o → IfSome tab.published (IsOfItsJob rows c)
    by None there =
        let none : None ≡ Some tab.published = sym (ap (option_map published_of) there) ∙ seen in
        absurd cc
    by (Some was) there =
        let some : Some was.published ≡ Some tab.published = sym (ap (option_map published_of) there) ∙ seen in
        let equal : was.published ≡ tab.published = cc in
        subst (λ (o : Option PublishedJob). IfSome o (IsOfItsJob rows c)) equal (h c was there)

-- one is changed
one_same : (f : Tab → Tab) → ((tab : Tab) → published_of (f tab) ≡ published_of tab) → (at : ℕ) (tabs : List Tab)
    → map published_of (change_at at f tabs) ≡ map published_of tabs
one_same f same at [] = refl
one_same f same zero (tab ∷ tabs) = ap (λ o. o ∷ map published_of tabs) (same tab)
one_same f same (suc at) (tab ∷ tabs) = ap (λ l. tab.published ∷ l) (one_same f same at tabs)

pub named_one : (rows : List Row) (f : Tab → Tab) → ((tab : Tab) → (f tab).published ≡ tab.published) → (at : ℕ)
    (tabs new : List Tab) → new ≡ change_at at f tabs → AreOfTheirJobs rows tabs → AreOfTheirJobs rows new
named_one rows f same at tabs new made h =
    named_same rows tabs new (ap (map published_of) made ∙ one_same f same at tabs) h

-- all are
all_same : (f : Tab → Tab) → ((tab : Tab) → published_of (f tab) ≡ published_of tab) → (tabs : List Tab)
    → map published_of (map f tabs) ≡ map published_of tabs
all_same f same [] = refl
all_same f same (tab ∷ tabs) = λ i. same tab i ∷ all_same f same tabs i

pub named_all : (rows : List Row) (f : Tab → Tab) → ((tab : Tab) → (f tab).published ≡ tab.published)
    → (tabs new : List Tab) → new ≡ map f tabs → AreOfTheirJobs rows tabs → AreOfTheirJobs rows new
named_all rows f same tabs new made h =
    named_same rows tabs new (ap (map published_of) made ∙ all_same f same tabs) h

-- ---- a canvas that publishes a job

-- what stands at a place behind a change is what stood there, or what was changed
changed_at : (P : Type 0) (f : Tab → Tab) (tabs : List Tab) (at c : ℕ) (tab : Tab) → slice_get (change_at at f tabs) c ≡ Some tab
    → (slice_get tabs c ≡ Some tab → P) → ((was : Tab) → at ≡ c → f was ≡ tab → P) → P
changed_at P f [] at c tab is stays changes = stays is
changed_at P f (x ∷ xs) zero zero tab is stays changes = let same : f x ≡ tab = cc in changes x refl same
changed_at P f (x ∷ xs) zero (suc c) tab is stays changes = stays is
changed_at P f (x ∷ xs) (suc at) zero tab is stays changes = stays is
changed_at P f (x ∷ xs) (suc at) (suc c) tab is stays changes =
    changed_at P f xs at c tab is stays (λ was same made. changes was (ap suc same) made)

pub named_published : (rows : List Row) (j : ℕ) (r : Row) (tabs new : List Tab) → row_in rows j ≡ Some r
    → new ≡ change_at r.canvas (tab_publishes j r) tabs → AreOfTheirJobs rows tabs → AreOfTheirJobs rows new
named_published rows j r tabs new there made h =
    subst (AreOfTheirJobs rows) (sym made)
    (λ c tab is. changed_at (IfSome tab.published (IsOfItsJob rows c)) (tab_publishes j r) tabs r.canvas c tab is (h c tab)
    (λ was at same. subst (λ (t : Tab). IfSome t.published (IsOfItsJob rows c)) same (at, own)))
  where
    own : IsSomeAnd (row_in rows j) (λ (row : Row). basis_of row ≡ basis_of r)
    own = subst (λ (o : Option Row). IsSomeAnd o (λ (row : Row). basis_of row ≡ basis_of r)) (sym there) refl

-- ---- canvases as they are opened

none_published : (specs : List CanvasSpec) (c : ℕ) (tab : Tab) → slice_get (map new_tab specs) c ≡ Some tab → tab.published ≡ None
none_published [] zero tab is = absurd cc
none_published [] (suc c) tab is = absurd cc
none_published (spec ∷ specs) zero tab is = let same : new_tab spec ≡ tab = cc in sym (ap published_of same)
none_published (spec ∷ specs) (suc c) tab is = none_published specs c tab is

pub named_opened : (specs : List CanvasSpec) → AreOfTheirJobs [] (map new_tab specs)
named_opened specs c tab is =
    subst (λ (o : Option PublishedJob). IfSome o (IsOfItsJob [] c)) (sym (none_published specs c tab is)) tt
