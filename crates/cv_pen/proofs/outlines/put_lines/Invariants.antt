use Rattle.std.proofs.Common.{◌≤◌, ◌+◌, ◌*◌, drop, length}
use Rattle.std.specs.List.{list_any}
use Rattle.cv_model.specs.Pictures.{half_side, hits_line}
use Rattle.cv_model.specs.Views.{centre_of}
use Rattle.cv_geom.specs.Runs.{segments_of, rows_of}
use Rattle.cv_geom.proofs.RunLemmas.{StillAdds}
use Rattle.cv_pen.proofs.outlines.put_lines.Given as goal

-- what is still to come makes the runs whole, and its steps may still be paid
abbrev pub invariant-loop-line : goal.invariant-loop-line
invariant-loop-line g l = record {
  added :
      StillAdds (λ i j. list_any (hits_line (half_side l.view l.width) (centre_of l.view i j)) l.lines)
      (λ i j. list_any (hits_line (half_side l.view l.width) (centre_of l.view i j)) (drop l.line-index l.lines)) l.area l.fn.into l.into;
  cost :
      l.steps + length (segments_of (drop l.line-index l.lines)) * rows_of l.area
      ≤ l.fn.steps + length (segments_of l.lines) * rows_of l.area;
}
