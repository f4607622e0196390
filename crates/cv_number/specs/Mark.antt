-- What each byte stands for in a decimal.
use Rattle.std.specs.Prelude.{ℕ, ◌+◌, ◌-◌, Bool, ◌&&◌, ◌||◌, ◌==◌, nat_le, if◌then◌else◌}
use Rattle.cv_number.specs.declared.mark.Mark.{Mark}
use Rattle.cv_number.specs.declared.mark.Mark.TheVariants.{Digit, Point, Plus, Minus, LetterE, LetterN}
use Rattle.cv_number.specs.declared.mark.Mark.TheVariants.{LetterA, Other}

-- the digits of ASCII
abbrev pub is_digit : ℕ → Bool
is_digit b = nat_le 48 b && nat_le b 57

-- a letter, given by its small form, or its capital
abbrev pub is_letter : ℕ → ℕ → Bool
is_letter small b = b == small || b + 32 == small

-- what a byte stands for; letters are read in any case
abbrev pub mark_of : ℕ → Mark
mark_of b =
    if is_digit b then Digit (b - 48)
    else if b == 46 then Point
    else if b == 43 then Plus
    else if b == 45 then Minus
    else if is_letter 101 b then LetterE
    else if is_letter 110 b then LetterN
    else if is_letter 97 b then LetterA
    else Other
