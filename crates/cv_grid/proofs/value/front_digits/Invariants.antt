-- The bytes so far are digits, and write the number so far.
use Rattle.std.proofs.Common.{◌≡◌, ◌^◌, ◌<◌, ◌≤◌, true, take}
use Rattle.std.specs.Char.{is_ascii_digit}
use Rattle.std.specs.List.{list_all}
use Rattle.cv_grid.specs.Words.{number_of}
use Rattle.cv_grid.proofs.value.front_digits.Given as goal

abbrev pub invariant-loop-at : goal.invariant-loop-at
invariant-loop-at l = record {
  few : l.at ≤ 9;
  digits : list_all is_ascii_digit (take l.at l.text) ≡ true;
  value : l.number ≡ number_of (take l.at l.text);
  small : l.number < 10 ^ l.at;
}
