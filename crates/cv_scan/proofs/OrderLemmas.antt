-- Marks in order, by places, and the runs between them.
use Rattle.std.proofs.Common.{◌≡◌, ◌==◌, ◌%◌, List, [], ◌∷◌, ◌++◌, None, length, reverse, ap, ◌∙◌, arith}
use Rattle.std.proofs.lemmas.List.{length-reverse}
use Rattle.std.proofs.lemmas.List.Sorted.{IsPermutation-trans, IsPermutation-reverse}
use Rattle.std.specs.List.{All}
use Rattle.std.specs.List.Sorted.{IsPermutation, IsSortedByKey}
use Rattle.cv_geom.specs.declared.runs.Area.{Area}
use Rattle.cv_geom.specs.declared.runs.Run.{Run}
use Rattle.cv_geom.specs.Runs.{Adds}
use Rattle.cv_scan.specs.declared.marks.Mark.{Mark}
use Rattle.cv_scan.specs.Marks.{MarkIn, marks_right, runs_from}
use Rattle.cv_scan.specs.Orders.{AreInTurn}
use Rattle.cv_scan.proofs.MarkLemmas.{AreDescending, descends-each, reversed-each, pairs-added, place_of, compared}

-- marks in order descend
descends : (marks : List Mark) → AreInTurn marks → AreDescending marks
descends [] order = tt
descends (a ∷ rest) order = descends-each a rest order.each

-- so the runs between them are those of the marks in any order
pub added-in-turn : (area : Area) (marks ordered : List Mark) (old new : List Run) → All (MarkIn area) marks
    → IsPermutation marks ordered → AreInTurn ordered → new ≡ old ++ runs_from area.columns.from None ordered
    → Adds (λ i j. marks_right i j marks % 2 == 1) area old new
added-in-turn area marks ordered old new within moved order put =
    pairs-added area marks ordered old new within moved (descends ordered order) put

-- marks that are sorted and then reversed
pub reversed-moved : (marks sorted turned : List Mark) → IsPermutation marks sorted → turned ≡ reverse sorted
    → IsPermutation marks turned
reversed-moved marks sorted turned moved is =
    rw is (IsPermutation-trans marks sorted (reverse sorted) moved (IsPermutation-reverse sorted))

pub reversed-in-turn : (sorted turned : List Mark) → IsSortedByKey place_of compared sorted → turned ≡ reverse sorted
    → AreInTurn turned
reversed-in-turn sorted turned ascends is = record {
  each = λ k d less.
      let many : length turned ≡ length sorted = ap length is ∙ length-reverse sorted in
      rw is (reversed-each sorted ascends k d (omega (arith, many, less)));
}
