-- The places in a decimal's spelling, and the marks that may follow each.
use Rattle.std.specs.Prelude.{Option, Some, None}
use Rattle.cv_number.specs.declared.mark.Mark.{Mark}
use Rattle.cv_number.specs.declared.mark.Mark.TheVariants.{Digit, Point, Plus, Minus, LetterE, LetterN}
use Rattle.cv_number.specs.declared.mark.Mark.TheVariants.{LetterA}
use Rattle.cv_number.specs.declared.place.Place.{Place}
use Rattle.cv_number.specs.declared.place.Place.TheVariants.{Start, Signed, OneLetter, TwoLetters, Nan}
use Rattle.cv_number.specs.declared.place.Place.TheVariants.{Whole, Bare, Dotted, Marked, MarkedSigned}
use Rattle.cv_number.specs.declared.place.Place.TheVariants.{Powered}
use Rattle.cv_number.specs.declared.place.Role.{Role}
use Rattle.cv_number.specs.declared.place.Role.TheVariants.{Form, Negative, WholeDigit, RestDigit, Lowering}
use Rattle.cv_number.specs.declared.place.Role.TheVariants.{PowerDigit}
use Rattle.cv_number.specs.declared.fixed.Fixed.{Fixed}
use Rattle.cv_number.specs.declared.fixed.Fixed.TheVariants.{NotNumber}

-- the place behind a mark, and what the mark says there; None where it can't stand
abbrev pub next_of : Place → Mark → Option (Place × Role)
next_of Start Plus = Some (Signed, Form)
next_of Start Minus = Some (Signed, Negative)
next_of Start (Digit d) = Some (Whole, WholeDigit d)
next_of Start Point = Some (Bare, Form)
next_of Start LetterN = Some (OneLetter, Form)
next_of Signed (Digit d) = Some (Whole, WholeDigit d)
next_of Signed Point = Some (Bare, Form)
next_of Signed LetterN = Some (OneLetter, Form)
next_of OneLetter LetterA = Some (TwoLetters, Form)
next_of TwoLetters LetterN = Some (Nan, Form)
next_of Whole (Digit d) = Some (Whole, WholeDigit d)
next_of Whole Point = Some (Dotted, Form)
next_of Whole LetterE = Some (Marked, Form)
next_of Bare (Digit d) = Some (Dotted, RestDigit d)
next_of Dotted (Digit d) = Some (Dotted, RestDigit d)
next_of Dotted LetterE = Some (Marked, Form)
next_of Marked Plus = Some (MarkedSigned, Form)
next_of Marked Minus = Some (MarkedSigned, Lowering)
next_of Marked (Digit d) = Some (Powered, PowerDigit d)
next_of MarkedSigned (Digit d) = Some (Powered, PowerDigit d)
next_of Powered (Digit d) = Some (Powered, PowerDigit d)
next_of _ _ = None

-- what a text that ends at the place is worth, where the numbers read are worth v
abbrev pub worth_at : Place → Fixed → Option Fixed
worth_at Nan v = Some NotNumber
worth_at Whole v = Some v
worth_at Dotted v = Some v
worth_at Powered v = Some v
worth_at _ v = None
