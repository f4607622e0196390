-- The loop over the bytes of a decimal, and what its answer says.
use Rattle.std.proofs.Common.{◌≡◌, ℕ, ◌<◌, ◌≤◌, List, length, sym, ap, subst}
use Rattle.std.specs.Result.{result_ok}
use Rattle.cv_reading.specs.Readings.{IsReading}
use Rattle.cv_decimal.specs.declared.kept.Kept.{Kept}
use Rattle.cv_number.specs.declared.place.Place.{Place}
use Rattle.cv_number.specs.declared.place.Place.TheVariants.{Start}
use Rattle.cv_number.specs.Spellings.{Spells}
use Rattle.cv_number.specs.Reader.{decimal_of}
use Rattle.cv_decimal.specs.Kept.{nothing_kept, answer_at, Goes}
use Rattle.cv_decimal.proofs.ValueLemmas.{decimal_reads}
use Rattle.cv_decimal.proofs.KeptLemmas.{keeping_is}

-- behind i bytes: the counts are at most i, and the bytes left give the answer of the whole text
pub record Along (text : List ℕ) (place : Place) (kept : Kept) (i : ℕ) : Type 0 where
  pub digits : kept.digits < 2000000000000000000
  pub dropped : kept.dropped ≤ i
  pub places : kept.places ≤ i
  pub same : Goes text Start nothing_kept i place kept

-- the loop's answer is the value of the text, or its first wrong place
pub keeping_reads : (text : List ℕ) → length text < 9223372036854775808
    → IsReading Spells text (answer_at Start nothing_kept text)
keeping_reads text few = subst (IsReading Spells text) (keeping_is text few) (decimal_reads text)

-- and where it is a value, it is that of the function
pub keeping_exact : (text : List ℕ) → length text < 9223372036854775808
    → result_ok (answer_at Start nothing_kept text) ≡ decimal_of text
unfolding decimal_of
keeping_exact text few = sym (ap result_ok (keeping_is text few))
