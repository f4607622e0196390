-- What is kept of the numbers while they are read: 18 digits, two counts, and an exponent up to 2^64 - 1.
use Rattle.std.specs.Prelude.{◌≡◌, ℕ, List, drop, Result, ◌+◌, ◌-◌, ◌*◌, ◌^◌, min, true, false, nat_lt}
use Rattle.std.specs.Prelude.{nat_le, ◌==◌, if◌then◌else◌}
use Rattle.cv_number.specs.Rounding.{rnd}
use Rattle.cv_reading.specs.Machines.{Machine, run, further_by}
use Rattle.cv_decimal.specs.declared.kept.Kept.{Kept}
use Rattle.cv_number.specs.declared.place.Place.{Place}
use Rattle.cv_number.specs.declared.place.Role.{Role}
use Rattle.cv_number.specs.declared.place.Role.TheVariants.{Form, Negative, WholeDigit, RestDigit, Lowering}
use Rattle.cv_number.specs.declared.place.Role.TheVariants.{PowerDigit}
use Rattle.cv_number.specs.declared.fixed.Fixed.{Fixed}
use Rattle.cv_number.specs.Spellings.{fixed}
use Rattle.cv_number.specs.Reader.{At, going}

-- one digit more: behind 18 digits it is only counted
abbrev pub with_digit : ℕ → Kept → Kept
with_digit d k =
    if nat_lt k.digits 100000000000000000 then record k { digits = 10 * k.digits + d }
    else record k { dropped = k.dropped + 1 }

-- what is kept with what a mark says
abbrev pub kept_role : Role → Kept → Kept
kept_role Form k = k
kept_role Negative k = record k { negative = true }
kept_role (WholeDigit d) k = with_digit d k
kept_role (RestDigit d) k = record (with_digit d k) { places = k.places + 1 }
kept_role Lowering k = record k { lowers = true }
kept_role (PowerDigit d) k = record k { power = min (10 * k.power + d) 18446744073709551615 }

-- digits * 10^high / 10^low, rounded, or 10^15 + 1 where it is above that
unfoldable pub settled : ℕ → ℕ → ℕ → ℕ
settled digits high low =
    if nat_le (low + 16) high then (if digits == 0 then 0 else 1000000000000001)
    else if nat_le low high then min (digits * 10 ^ (high - low)) 1000000000000001
    else if nat_le (high + 19) low then 0
    else min (rnd digits (10 ^ (low - high))) 1000000000000001

-- the power of ten above the line: of the digits dropped, of millionths, and of an exponent that raises
abbrev pub high : Kept → ℕ
high k = k.dropped + 6 + (if k.lowers then 0 else k.power)

-- and below it: of the digits behind the point, and of an exponent that lowers
abbrev pub low : Kept → ℕ
low k = k.places + (if k.lowers then k.power else 0)

-- what the numbers kept are worth
abbrev pub kept_worth : Kept → Fixed
kept_worth k = fixed k.negative (settled k.digits (high k) (low k))

-- before the first mark
abbrev pub nothing_kept : Kept
nothing_kept = record { negative = false; digits = 0; dropped = 0; places = 0; lowers = false; power = 0 }

-- the machine that keeps 18 digits
abbrev pub keeping_reader : Machine (At Kept) ℕ Fixed
keeping_reader = going kept_role kept_worth

-- the answer to a text at a place, with what is kept there
abbrev pub answer_at : Place → Kept → List ℕ → Result Fixed ℕ
answer_at p k text = run keeping_reader text (record { place = p; parts = k })

-- so many more digits stand behind the point
abbrev pub with_places : ℕ → Kept → Kept
with_places n k = record k { places = k.places + n }

-- the answer to a text at one place is that to the text behind its first n bytes at another
abbrev pub Goes : List ℕ → Place → Kept → ℕ → Place → Kept → Type 0
Goes text p k n q l = answer_at p k text ≡ further_by n (answer_at q l (drop n text))
