-- A desk, and what caller 0 holds of it.
--
-- Source: this project's own.
use Rattle.std.specs.Prelude.{◌≡◌, ◌⊎◌, ℕ, List, Some, IsSomeAnd}
use Rattle.cv_event.specs.declared.entry.Act.{Act}
use Rattle.cv_event.specs.declared.slot.Slot.{Slot}
use Rattle.cv_event.specs.declared.slot.Standing.TheVariants.{Missed}
use Rattle.cv_model.specs.Paintings.{Composition}
use Rattle.cv_layer.specs.declared.input.Piece.{Piece}
use Rattle.cv_tables.specs.Rows.{Row, HasSlot, row_in, whole_of}
use Rattle.cv_desk.specs.Desks.{History, Notes, Stays}
use Rattle.cv_desk.specs.Answers.{IsPiece}
use Rattle.cv_desked.specs.declared.table.Held.{Held}
use Rattle.cv_desked.specs.declared.table.Held.TheVariants as held

-- a desk, and what is held
pub record Place : Type 0 where
  pub history : History
  pub held : Held

-- a slot waits for a caller's delivery, and the piece is of its job's own input and view
abbrev pub Waits : ℕ → Piece → Row → Slot → Type 0
Waits who piece row slot = (slot.standing ≡ Missed who) × IsPiece piece.input piece.view row slot

-- the finish of a job is a caller's own, of this picture
abbrev pub IsComposed : ℕ → ℕ → Composition → List Row → Type 0
IsComposed who j input rows = IsSomeAnd (row_in rows j) (λ row. (row.composer ≡ Some who) × (input ≡ whole_of row))

-- a task is a caller's own: to deliver, or to finish
abbrev pub IsOwed : ℕ → List Row → Held → Type 0
IsOwed who rows held.Nothing = Unit {0}
IsOwed who rows (held.Paint piece) = HasSlot rows piece.job piece.slot (Waits who piece)
IsOwed who rows (held.Compose j input) = IsComposed who j input rows

-- a call of a caller put an entry, or changed nothing of the jobs
abbrev pub Went : History → History → ℕ → Type 0
Went old new who = Stays old new ⊎ ((a : Act) × Notes old new who a)
