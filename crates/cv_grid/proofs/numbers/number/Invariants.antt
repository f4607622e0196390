-- The number so far, which ten bytes keep small.
use Rattle.std.proofs.Common.{◌≡◌, ◌+◌, ◌*◌, ◌^◌, ◌≤◌, take}
use Rattle.cv_grid.specs.Words.{number_of}
use Rattle.cv_grid.proofs.numbers.number.Given as goal

abbrev pub invariant-loop-digit : goal.invariant-loop-digit
invariant-loop-digit l =
    record {
      value : l.number ≡ number_of (take l.digit-index l.digits);
      small : l.number + 23 ≤ 23 * 10 ^ l.digit-index;
    }
