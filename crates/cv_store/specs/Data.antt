-- Edits of what a layer holds, as they are seen at that layer.
use Rattle.std.specs.Prelude.{◌≡◌, ℕ, ◌||◌, ◌*◌, ◌+◌, ◌++◌, ◌∷◌, [], Bool, false, not, nat_lt, Option}
use Rattle.std.specs.Prelude.{Some, None}
use Rattle.std.specs.Prelude.{Result, Ok, Err, insert, set, position, bytes_eq, is_none}
use Rattle.cv_model.specs.declared.edit.Edit.{Edit}
use Rattle.cv_model.specs.declared.edit.Edit.TheVariants.{AddFeature, InsertFeature, RemoveFeature}
use Rattle.cv_model.specs.declared.edit.Edit.TheVariants.{SetGeometry, SetAttribute, SetCell}
use Rattle.cv_model.specs.declared.edit.EditError.{EditError}
use Rattle.cv_model.specs.declared.edit.EditError.TheVariants.{UnknownFeature, WrongKind, DuplicateId}
use Rattle.cv_model.specs.declared.edit.EditError.TheVariants.{Limit, BadPlace}
use Rattle.cv_model.specs.Edits.{first_refusal, with_features, with_attribute, with_cells, without_feature}
use Rattle.cv_model.specs.Edits.{change_feature, misses, is_grid, has_feature, is_uneven, columns_of}
use Rattle.cv_model.specs.Edits.{misses_cell}
use Rattle.cv_model.specs.Edits.{count_features}
use Rattle.cv_model.specs.Grids.{CellGrid}
use Rattle.cv_model.specs.Layers.{Contents, Features, Cells}
use Rattle.cv_layer.specs.Tables.{TableParts}
use Rattle.cv_store.specs.declared.room.Room.{Room}
use Rattle.cv_store.specs.Answers.{told_by}
use Rattle.cv_store.specs.Tallies.{tally_of, exchange, passes, IsPartOf}

-- the layer that an edit of what a layer holds names
abbrev pub data_layer : Edit → Option ℕ
data_layer (AddFeature layer feature) = Some layer
data_layer (InsertFeature layer at feature) = Some layer
data_layer (RemoveFeature layer id) = Some layer
data_layer (SetGeometry layer id geometry) = Some layer
data_layer (SetAttribute layer id column value) = Some layer
data_layer (SetCell layer row col cell) = Some layer
data_layer _ = None

-- what such an edit makes of it
abbrev pub changed : Edit → Contents → Contents
changed (AddFeature layer feature) held = with_features (λ features. features ++ feature ∷ []) held
changed (InsertFeature layer at feature) held = with_features (λ features. insert features at feature) held
changed (RemoveFeature layer id) held = with_features (without_feature id) held
changed (SetGeometry layer id geometry) held =
    with_features (change_feature id (λ feature. record feature { geometry = geometry })) held
changed (SetAttribute layer id column value) held = with_attribute id column value held
changed (SetCell layer row col cell) held =
    with_cells (λ grid. set grid.cells (row * grid.cols + col) cell) held
changed _ held = held

-- the first cause that holds where the layer is there: the feature isn't, the kind is wrong, the id is
-- taken, a limit is passed, the place is bad
abbrev pub cause : Bool → Bool → Bool → Bool → Bool → Option EditError
cause lacks wrong taken over bad =
    first_refusal
    ((lacks, UnknownFeature) ∷ (wrong, WrongKind) ∷ (taken, DuplicateId) ∷ (over, Limit)
    ∷ (bad, BadPlace) ∷ [])

-- why such an edit is refused, where it is known whether a limit is passed
abbrev pub refusal : Edit → Contents → Bool → Option EditError
refusal (AddFeature layer feature) held over =
    cause false (is_grid held) (has_feature feature.id held) over (is_uneven feature held)
refusal (InsertFeature layer at feature) held over =
    cause false (is_grid held) (has_feature feature.id held) over
    (nat_lt (count_features held) at || is_uneven feature held)
refusal (RemoveFeature layer id) held over = cause (misses id held) (is_grid held) false over false
refusal (SetGeometry layer id geometry) held over = cause (misses id held) (is_grid held) false over false
refusal (SetAttribute layer id column value) held over =
    cause (misses id held) (is_grid held) false over (is_none (position (bytes_eq column) (columns_of held)))
refusal (SetCell layer row col cell) held over =
    cause false (not (is_grid held)) false over (misses_cell row col held)
refusal _ held over = None

-- a limit is passed where a layer holds other contents
abbrev pub is_full : Room → Contents → Contents → Bool
is_full room held later = room.spent || passes (exchange room.sums (tally_of held) (tally_of later))

-- why such an edit is refused at its layer
abbrev pub answer_to : Room → Contents → Edit → Option EditError
answer_to room held edit = refusal edit held (is_full room held (changed edit held))

-- what a table holds
abbrev pub table_seen : TableParts → Contents
table_seen table = Features table.columns table.features

-- and a grid
abbrev pub cells_seen : CellGrid → Contents
cells_seen grid = Cells grid

-- the counts of a room are those of a store that has a layer with these contents
pub record HasRoom (room : Room) (held : Contents) : Type 0 where
  pub within : passes room.sums ≡ false
  pub part : IsPartOf (tally_of held) room.sums

-- an answer tells the cause, if there is one; want of memory comes where there is none
abbrev pub Judges : {X : Type 0} → Result X EditError → Option EditError → Type 0
Judges (Ok x) cause = cause ≡ None
Judges (Err error) cause = cause ≡ told_by error
