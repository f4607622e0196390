-- The files that a session writes, read off its script, its journal and its refused commands.
--
-- Source: this project's own.
use Rattle.std.specs.Prelude.{ℕ, ◌==◌, Bool, if◌then◌else◌, List, map, zip, filter_map, Option, None}
use Rattle.std.specs.List.{list_any}
use Rattle.cv_model.specs.declared.colour.Rgb.{Rgb}
use Rattle.cv_model.specs.Layers.{Opening}
use Rattle.cv_model.specs.Rasters.{Raster}
use Rattle.cv_event.specs.declared.entry.Entry.{Entry}
use Rattle.cv_event.specs.declared.refused.Refused.{Refused}
use Rattle.cv_event.specs.States.{State, replay}
use Rattle.cv_script.specs.declared.script.Numbered.{Numbered}
use Rattle.cv_session.specs.Plays.{Written, picture_by, file_of, file_with}

-- a refused line has this number
abbrev pub is_refused : List Refused → ℕ → Bool
is_refused refused line = list_any (λ (r : Refused). r.line == line) refused

-- the file of a command that wasn't refused, if it is a preview or a save
abbrev pub name_written : List Refused → Numbered → Option (List ℕ)
name_written refused n = if is_refused refused n.line then None else file_of n.command

-- those of a script, in order
abbrev pub names_written : List Refused → List Numbered → List (List ℕ)
names_written refused script = filter_map (name_written refused) script

-- the picture of an entry of caller 0, if it is a preview or a save
abbrev pub picture_written : State → Entry → Option (Raster Rgb)
picture_written s e = if e.caller == 0 then picture_by s e.act else None

-- those of a journal, in order; a job's picture is of what it took, however the state went on
abbrev pub pictures_written : State → List Entry → List (Raster Rgb)
pictures_written s journal = filter_map (picture_written s) journal

-- the n-th of these pictures has the n-th of these names
abbrev pub writes : Opening → List Numbered → List Entry → List Refused → List Written
writes opening script journal refused =
    map (λ pair. file_with pair.0 pair.1)
    (zip (names_written refused script) (pictures_written (replay opening journal) journal))
