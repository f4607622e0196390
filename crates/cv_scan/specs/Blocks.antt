-- Blocks: upright rectangles, whose runs have the same columns in each row.
--
-- Source: this project's own form of the parity rule for polygons.
use Rattle.std.specs.Prelude.{◌≡◌, ◌⊎◌, Bool, not, ◌&&◌, if◌then◌else◌, int_lt}
use Rattle.cv_model.specs.Positions.{Position, doubled}
use Rattle.cv_model.specs.Polygons.{is_low}

-- exactly one of two facts
abbrev pub differs : Bool → Bool → Bool
differs x y = if x then not y else y

-- p lies in the upright rectangle with the opposite corners a and c: one of them is low and one lies right of p
abbrev pub is_in_block : Position → Position → Position → Bool
is_in_block p a c =
    differs (is_low p (doubled a)) (is_low p (doubled c))
    && differs (int_lt p.x (doubled a).x) (int_lt p.x (doubled c).x)

-- sides from a point to the next that lead across and up in turn
abbrev pub IsLevelFirst : Position → Position → Position → Position → Position → Type 0
IsLevelFirst a b c d e = (a.y ≡ b.y) × (b.x ≡ c.x) × (c.y ≡ d.y) × (d.x ≡ e.x)

-- or up and across in turn
abbrev pub IsUprightFirst : Position → Position → Position → Position → Position → Type 0
IsUprightFirst a b c d e = (a.x ≡ b.x) × (b.y ≡ c.y) × (c.x ≡ d.x) × (d.y ≡ e.y)

-- five points that go round an upright rectangle, the last at the first
pub record GoRound (a b c d e : Position) : Type 0 where
  pub across : e.x ≡ a.x
  pub up : e.y ≡ a.y
  pub sides : IsLevelFirst a b c d e ⊎ IsUprightFirst a b c d e
