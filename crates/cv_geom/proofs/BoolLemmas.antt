-- Two tests in a row.
use Rattle.std.proofs.Common.{◌≡◌, Bool, true, false, ◌&&◌}

-- where the first of two tests holds, the second decides
pub through : (first next test : Bool) → first ≡ true → test ≡ next → test ≡ (first && next)
through true next test holds same = same
through false next test holds same = cc

-- where the first of two tests fails, it decides
pub stopped : (first next test : Bool) → test ≡ first → test ≡ false → test ≡ (first && next)
stopped true next test same fails = cc
stopped false next test same fails = same
