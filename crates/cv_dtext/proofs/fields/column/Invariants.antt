-- The place is the first from here on.
use Rattle.std.proofs.Common.{◌≡◌, drop, bytes_eq}
use Rattle.std.specs.List.{position_from}
use Rattle.csv.specs.Records.{fields_of}
use Rattle.cv_dtext.specs.Table.{column_of}
use Rattle.cv_dtext.proofs.fields.column.Given as goal

abbrev pub invariant-loop-place : goal.invariant-loop-place
invariant-loop-place l =
    position_from (bytes_eq l.name) l.place (drop l.place (fields_of l.header))
    ≡ column_of l.name (fields_of l.header)
