-- A store as it is opened.
use Rattle.std.proofs.Common.{◌≡◌, ◌∙◌, sym, ap, subst, refl, ℕ, Bool, true, false, List, [], ◌∷◌, ◌++◌}
use Rattle.std.proofs.Common.{length, map, append_assoc, arith}
use Rattle.std.specs.Prelude.{insert, zip, nat_eq, find, if◌then◌else◌}
use Rattle.std.specs.List.{AllByRecursion, IsDistinct, list_any}
use Rattle.std.specs.Option.{option_map_or}
use Rattle.std.proofs.lemmas.Bool.Decides.{nat_tests}
use Rattle.std.proofs.lemmas.List.Elements.{recursion_from_All}
use Rattle.cv_model.specs.declared.layer.LayerData.{LayerData}
use Rattle.cv_model.specs.declared.layer.LayerData.TheVariants.{Text, Grid}
use Rattle.cv_model.specs.declared.project.LayerFile.{LayerFile}
use Rattle.cv_model.specs.declared.style.Style.{Style}
use Rattle.cv_model.specs.Edits.{fits}
use Rattle.cv_model.specs.Layers.{Layer, contents_of, has_layer}
use Rattle.cv_model.specs.Openings.{layer_of_file, layers_of_file, is_grid_data, CanOpen}
use Rattle.cv_model.specs.ProjectFiles.{FileParts, IsLayer, is_ramp, is_grid_source}
use Rattle.cv_store.specs.Stores.{RevisedLayer, layer_of, id_of, has_id}
use Rattle.cv_store.specs.Opened.{first_row, FileRow, file_id, opened_row, IsFileRow, CanBeRows}
use Rattle.cv_store.specs.Opened.{OpenedIsBehind}
use Rattle.cv_store.proofs.Limits.{or_both}

-- ---- the layers, one after another

pub ids_opened : (rows : List FileRow) → map id_of (map opened_row rows) ≡ map file_id rows
ids_opened [] = refl
ids_opened (row ∷ rows) = ap (λ l. file_id row ∷ l) (ids_opened rows)

apart : (m : RevisedLayer) (made : List RevisedLayer) (row : RevisedLayer) (rest : List RevisedLayer)
    → AllByRecursion (λ y. nat_eq (id_of m) y ≡ false) (map id_of (made ++ row ∷ rest)) → has_id (id_of row) m ≡ false
apart m [] row rest h = h.0
apart m (x ∷ made) row rest h = apart m made row rest h.1

-- one that is behind others in a list of different ids has another id than they
pub fresh : (made : List RevisedLayer) (row : RevisedLayer) (rest : List RevisedLayer)
    → IsDistinct nat_eq (map id_of (made ++ row ∷ rest)) → list_any (has_id (id_of row)) made ≡ false
unfolding IsDistinct
fresh [] row rest d = refl
fresh (m ∷ made) row rest d = or_both _ _ (apart m made row rest d.0) (fresh made row rest d.1)

pub insert_end : {X : Type 0} (xs : List X) (x : X) → insert xs (length xs) x ≡ xs ++ x ∷ []
insert_end [] x = refl
insert_end (y ∷ xs) x = ap (λ l. y ∷ l) (insert_end xs x)

pub more : (made rest whole : List RevisedLayer) (row : RevisedLayer) → made ++ row ∷ rest ≡ whole
    → insert made (length made) row ++ rest ≡ whole
more made rest whole row h =
    ap (λ l. l ++ rest) (insert_end made row) ∙ append_assoc made (row ∷ []) rest ∙ h

pub nothing_left : {X : Type 0} (l : List X) → length l ≡ 0 → l ≡ []
nothing_left [] h = refl
nothing_left (x ∷ xs) h = absurd (omega arith)

zip_none : {X Y : Type 0} (xs : List X) → zip {K = X} {X = Y} xs [] ≡ []
zip_none [] = refl
zip_none (x ∷ xs) = refl

-- ---- what a file in form gives

fits_data : (style : Style) (data_of : LayerData) → is_ramp style ≡ is_grid_data data_of
    → fits style (contents_of data_of) ≡ true
fits_data style (Text table) h = ap (λ b. if b then false else true) h
fits_data style (Grid grid) h = ap (λ b. if b then true else false) h

head_eq : (a b : Bool) (as_ bs : List Bool) → a ∷ as_ ≡ b ∷ bs → a ≡ b
head_eq a b as_ bs h = ap (λ l. by l) h
  where
    by : List Bool → Bool
    by [] = a
    by (x ∷ xs) = x

tail_eq : (a b : Bool) (as_ bs : List Bool) → a ∷ as_ ≡ b ∷ bs → as_ ≡ bs
tail_eq a b as_ bs h = ap (λ l. by l) h
  where
    by : List Bool → List Bool
    by [] = as_
    by (x ∷ xs) = xs

pub fitting : (files : List LayerFile) (contents : List LayerData)
    → AllByRecursion (λ (l : LayerFile). is_ramp l.style ≡ is_grid_source l.source) files
    → map is_grid_data contents ≡ map (λ (l : LayerFile). is_grid_source l.source) files
    → AllByRecursion IsFileRow (zip files contents)
fitting [] contents h k = tt
fitting (file ∷ files) [] h k = tt
fitting (file ∷ files) (d ∷ contents) h k = (
  fits_data file.style d (h.0 ∙ sym (head_eq _ _ _ _ k)),
  fitting files contents h.1 (tail_eq _ _ _ _ k),
)

styles : (files : List LayerFile) → AllByRecursion IsLayer files
    → AllByRecursion (λ (l : LayerFile). is_ramp l.style ≡ is_grid_source l.source) files
styles [] h = tt
styles (file ∷ files) h = (h.0.fits, styles files h.1)

length_none : {X : Type 0} (x : X) (xs : List X) → 0 ≡ length (x ∷ xs) → ⊥
length_none x xs h = omega (arith, h)

pub ids_zipped : (files : List LayerFile) (contents : List LayerData) → length contents ≡ length files
    → map file_id (zip files contents) ≡ map (λ (l : LayerFile). l.id) files
ids_zipped [] contents h = refl
ids_zipped (file ∷ files) [] h = absurd (length_none file files h)
ids_zipped (file ∷ files) (d ∷ contents) h =
    let less : length contents ≡ length files = omega (arith, h) in
    ap (λ l. file.id ∷ l) (ids_zipped files contents less)

pub can_rows : (file : FileParts) (contents : List LayerData) → CanOpen file contents
    → CanBeRows (zip file.layers contents)
can_rows file contents can = record {
  distinct = subst (IsDistinct nat_eq) (sym (ids_zipped file.layers contents can.each)) can.form.distinct;
  fitting = fitting file.layers contents (styles file.layers (recursion_from_All IsLayer file.layers
      can.form.layers)) can.kinds;
}

pub rows_are : (rows : List FileRow)
    → map opened_row rows ≡ map first_row (map (λ (row : FileRow). layer_of_file row.0 row.1) rows)
rows_are [] = refl
rows_are (row ∷ rows) = ap (λ l. opened_row row ∷ l) (rows_are rows)

pub layers_first : (layers : List Layer) → map layer_of (map first_row layers) ≡ layers
layers_first [] = refl
layers_first (l ∷ layers) = ap (λ ls. l ∷ ls) (layers_first layers)

pub all_first : (layers : List Layer) → AllByRecursion (λ (row : RevisedLayer). row.revision ≡ 1) (map first_row layers)
all_first [] = tt
all_first (l ∷ layers) = (refl, all_first layers)

-- ---- behind no edits

find_first : (q : ℕ) (layers : List Layer)
    → option_map_or (λ (row : RevisedLayer). row.revision) (find (has_id q) (map first_row layers)) 0
    ≡ (if has_layer q layers then 1 else 0)
find_first q [] = refl
find_first q (l ∷ layers) = by (has_id q (first_row l)) refl (find_first q layers)
  where
    by : (b : Bool) → has_id q (first_row l) ≡ b
        → option_map_or (λ (row : RevisedLayer). row.revision) (find (has_id q) (map first_row layers)) 0
        ≡ (if has_layer q layers then 1 else 0)
        → option_map_or (λ (row : RevisedLayer). row.revision) (find (has_id q) (map first_row (l ∷ layers))) 0
        ≡ (if has_layer q (l ∷ layers) then 1 else 0)
    by true e h = grind (arith, nat_tests, e)
    by false e h = grind (arith, nat_tests, e, h)

pub opened_is_behind : OpenedIsBehind
opened_is_behind file contents = record {
  project_is = ap (λ l. record { background = file.background; layers = l })
      (layers_first (layers_of_file file.layers contents));
  version_is = refl;
  revisions_are = λ id. find_first id (layers_of_file file.layers contents);
}
