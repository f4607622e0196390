use Rattle.cv_chunks.specs.Buckets.{IsEntered, numbers_of}
use Rattle.cv_chunks.proofs.buckets.enter.Given as goal

-- the number is entered for the rows so far
abbrev pub invariant-loop-row : goal.invariant-loop-row
invariant-loop-row l = IsEntered (numbers_of l.fn.buckets) (numbers_of l.buckets) l.fn.range.first l.row
    l.number
