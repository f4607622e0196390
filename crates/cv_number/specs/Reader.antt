-- The machine that reads decimals: a place in a spelling, and the numbers read so far, of any size.
use Rattle.std.specs.Prelude.{ℕ, ◌+◌, ◌*◌, ◌^◌, Bool, true, false, if◌then◌else◌, List, Option}
use Rattle.std.specs.Prelude.{option_map}
use Rattle.std.specs.Result.{result_ok}
use Rattle.cv_number.specs.Rounding.{rnd}
use Rattle.cv_reading.specs.Machines.{Machine, run}
use Rattle.cv_number.specs.declared.place.Place.{Place}
use Rattle.cv_number.specs.declared.place.Place.TheVariants.{Start}
use Rattle.cv_number.specs.declared.place.Role.{Role}
use Rattle.cv_number.specs.declared.place.Role.TheVariants.{Form, Negative, WholeDigit, RestDigit, Lowering}
use Rattle.cv_number.specs.declared.place.Role.TheVariants.{PowerDigit}
use Rattle.cv_number.specs.declared.fixed.Fixed.{Fixed}
use Rattle.cv_number.specs.Mark.{mark_of}
use Rattle.cv_number.specs.Spellings.{fixed}
use Rattle.cv_number.specs.Place.{next_of, worth_at}

-- a place, and what is known of the numbers there
pub record At (X : Type 0) : Type 0 where
  pub place : Place
  pub parts : X

-- the machine that goes by the table of places, and to whose parts each mark adds what it says
abbrev pub going : {X : Type 0} → (Role → X → X) → (X → Fixed) → Machine (At X) ℕ Fixed
going adds worth = record {
  step = λ s b. option_map (λ r. record { place = r.0; parts = adds r.1 s.parts })
      (next_of s.place (mark_of b));
  ends = λ s. worth_at s.place (worth s.parts);
}

-- all digits so far as one number, how many of them stand behind the point, and the exponent
pub record Parts : Type 0 where
  pub negative : Bool
  pub number : ℕ
  pub places : ℕ
  pub lowers : Bool
  pub power : ℕ

-- the numbers with what a mark says
abbrev pub with_role : Role → Parts → Parts
with_role Form x = x
with_role Negative x = record x { negative = true }
with_role (WholeDigit d) x = record x { number = 10 * x.number + d }
with_role (RestDigit d) x = record x { number = 10 * x.number + d; places = x.places + 1 }
with_role Lowering x = record x { lowers = true }
with_role (PowerDigit d) x = record x { power = 10 * x.power + d }

-- what they are worth, in millionths
abbrev pub worth : Parts → Fixed
worth x =
    fixed x.negative (rnd (x.number * 10 ^ (6 + (if x.lowers then 0 else x.power)))
    (10 ^ (x.places + (if x.lowers then x.power else 0))))

-- before the first mark
abbrev pub nothing_read : Parts
nothing_read = record { negative = false; number = 0; places = 0; lowers = false; power = 0 }

-- the machine that keeps all digits, however many
abbrev pub decimal_reader : Machine (At Parts) ℕ Fixed
decimal_reader = going with_role worth

-- the value of a text, where it is a spelling: `Spells` as a function
unfoldable pub decimal_of : List ℕ → Option Fixed
decimal_of text = result_ok (run decimal_reader text (record { place = Start; parts = nothing_read }))
