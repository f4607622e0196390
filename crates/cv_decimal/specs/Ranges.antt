-- The range of a decimal's value.
use Rattle.cv_number.specs.declared.fixed.Fixed.{Fixed}
use Rattle.cv_number.specs.declared.fixed.Fixed.TheVariants.{Value, High, Low, NotNumber}
use Rattle.cv_model.specs.Positions.{IsCoordinate}

-- a value is a coordinate's
abbrev pub IsInRange : Fixed → Type 0
IsInRange (Value z) = IsCoordinate z
IsInRange High = Unit {0}
IsInRange Low = Unit {0}
IsInRange NotNumber = Unit {0}
