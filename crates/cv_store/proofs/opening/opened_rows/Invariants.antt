use Rattle.std.proofs.Common.{◌≡◌, ◌++◌, length, map}
use Rattle.std.specs.Prelude.{zip}
use Rattle.std.specs.List.{AllByRecursion}
use Rattle.std.specs.Vec.Iter.{into_iter_items, into_iter_len}
use Rattle.cv_store.specs.Opened.{opened_row, IsFileRow}
use Rattle.cv_store.proofs.opening.opened_rows.Given as goal

abbrev pub invariant-loop-file : goal.invariant-loop-file
invariant-loop-file l =
    (l.made ++ map opened_row (zip (into_iter_items l.file-iterator) (into_iter_items l.rest))
    ≡ map opened_row (zip l.fn.files.items l.fn.contents.items))
    × AllByRecursion IsFileRow (zip (into_iter_items l.file-iterator) (into_iter_items l.rest))
    × (into_iter_len l.file-iterator ≡ length (into_iter_items l.file-iterator))
    × (into_iter_len l.rest ≡ length (into_iter_items l.rest))
