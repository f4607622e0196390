-- The values so far are the old ones and copies of the first fields.
use Rattle.std.proofs.Common.{◌≡◌, ◌++◌, ◌-◌, ◌≤◌, take, drop}
use Rattle.csv.specs.Records.{fields_of}
use Rattle.cv_dtext.proofs.fields.push_texts.Given as goal

abbrev pub invariant-loop-place : goal.invariant-loop-place
invariant-loop-place l =
    (l.values ≡ l.fn.values ++ take (l.place - l.from) (drop l.from (fields_of l.texts))) × (l.from ≤ l.place)
