-- The number so far, which ten bytes keep small.
use Rattle.std.proofs.Common.{◌≡◌, ◌+◌, ◌*◌, ◌^◌, ◌≤◌, take}
use Rattle.cv_script.specs.Kinds.{digits_value}
use Rattle.cv_script.proofs.kinds.digits_value.Given as goal

abbrev pub invariant-loop-digit : goal.invariant-loop-digit
invariant-loop-digit l =
    record {
      value : l.number ≡ digits_value (take l.digit-index l.digits);
      small : l.number + 23 ≤ 23 * 10 ^ l.digit-index;
    }
