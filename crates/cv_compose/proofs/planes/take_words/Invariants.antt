-- The words so far have the channels of the pixels so far.
use Rattle.std.proofs.Common.{◌≡◌, map, take}
use Rattle.cv_compose.specs.Planes.{byte_at, red, green, blue, alpha}
use Rattle.cv_compose.proofs.planes.take_words.Given as goal

abbrev pub invariant-loop-k : goal.invariant-loop-k
invariant-loop-k l = record {
  red : map (byte_at 1) (take l.k l.words) ≡ map red (take l.k l.pixels);
  green : map (byte_at 256) (take l.k l.words) ≡ map green (take l.k l.pixels);
  blue : map (byte_at 65536) (take l.k l.words) ≡ map blue (take l.k l.pixels);
  alpha : map (byte_at 16777216) (take l.k l.words) ≡ map alpha (take l.k l.pixels);
}
