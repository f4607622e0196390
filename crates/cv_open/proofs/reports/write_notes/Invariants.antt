-- What is written, with what is left to be, is all.
use Rattle.std.proofs.Common.{◌≡◌, ◌++◌, drop, string_bytes}
use Rattle.std.specs.List.{flat_map}
use Rattle.cv_open.specs.Reports.{note_line}
use Rattle.cv_open.proofs.reports.write_notes.Given as goal

abbrev pub invariant-loop-note : goal.invariant-loop-note
invariant-loop-note l =
    string_bytes l.text ++ flat_map note_line (drop l.note-index l.notes)
    ≡ string_bytes l.fn.text ++ flat_map note_line l.notes
