-- The arguments of styles: the parts of a symbol, and the stops of a ramp.
use Rattle.std.specs.Prelude.{ℕ, Bool, true, ◌&&◌, nat_le, ℤ, int_lt, List, [], ◌∷◌, ◌++◌, length, bytes_eq, codes}
use Rattle.std.specs.Prelude.{◌≡◌, ◌≢◌, if◌then◌else◌, is_none, Option, Some, None, Result, Ok, Err}
use Rattle.cv_model.specs.declared.ramp.Stop.{Stop}
use Rattle.cv_model.specs.declared.symbol.Symbol.{Symbol}
use Rattle.cv_model.specs.Ramps.{RampParts}
use Rattle.cv_script.specs.declared.error.Refusal.{Refusal}
use Rattle.cv_script.specs.declared.error.Refusal.TheVariants.{NoMemory}
use denote.Ref.{Bor}
use Rattle.cv_script.specs.Answers.{◌>>=◌, tested}
use Rattle.cv_script.specs.Kinds.{whole_in, coordinate, colour, word_in, shape_word, shapes, ramp_word, ramps}

-- ---- symbols

-- a symbol, and the words behind the parts that it has
pub record Drawn : Type 0 where
  pub symbol : Symbol
  pub rest : List (List ℕ)

-- a call leaves the symbol that is defined and answers the words behind it, unless it has got no memory
abbrev pub Draws : Result (Bor (List (List ℕ))) Refusal → Symbol → Option Drawn → Type 0
Draws (Ok rest) symbol defined = defined ≡ Some (record { symbol = symbol; rest = rest.now })
Draws (Err e) symbol defined = (e ≢ NoMemory) → defined ≡ None

-- no part
abbrev pub no_parts : Symbol
no_parts = record { fill = None; pen = None; marker = None }

-- a symbol with `fill colour`
unfoldable pub with_fill : Symbol → List (List ℕ) → Option Drawn
with_fill s [] = None
with_fill s (a ∷ rest) = do
  free ← tested (is_none s.fill) s
  c ← colour a
  Some (record { symbol = record s { fill = Some c }; rest = rest })

-- a symbol with `pen colour width`
unfoldable pub with_pen : Symbol → List (List ℕ) → Option Drawn
with_pen s [] = None
with_pen s (a ∷ []) = None
with_pen s (a ∷ b ∷ rest) = do
  free ← tested (is_none s.pen) s
  c ← colour a
  width ← whole_in 1 64 b
  Some (record { symbol = record s { pen = Some (record { colour = c; width = width }) }; rest = rest })

-- a symbol with `marker shape colour size`
unfoldable pub with_marker : Symbol → List (List ℕ) → Option Drawn
with_marker s [] = None
with_marker s (a ∷ []) = None
with_marker s (a ∷ b ∷ []) = None
with_marker s (a ∷ b ∷ d ∷ rest) = do
  free ← tested (is_none s.marker) s
  shape ← word_in shape_word shapes a
  c ← colour b
  size ← whole_in 1 256 d
  Some (record {
    symbol = record s { marker = Some (record { shape = shape; colour = c; size = size }) };
    rest = rest;
  })

-- a symbol with one part more, which it hasn't yet; nothing more where no word is left
unfoldable pub with_part : Symbol → List (List ℕ) → Option Drawn
with_part s [] = Some (record { symbol = s; rest = [] })
with_part s (word ∷ rest) =
    if bytes_eq word (codes "fill") then with_fill s rest
    else if bytes_eq word (codes "pen") then with_pen s rest
    else if bytes_eq word (codes "marker") then with_marker s rest
    else None

-- the symbol of some parts, of which there are at most three
unfoldable pub symbol : List (List ℕ) → Option Symbol
symbol words = do
  a ← with_part no_parts words
  b ← with_part a.symbol a.rest
  c ← with_part b.symbol b.rest
  tested (nat_le (length c.rest) 0) c.symbol

-- ---- ramps

-- a value and the colour there
unfoldable pub stop : List ℕ → List ℕ → Option Stop
stop a b = do
  value ← coordinate a
  c ← colour b
  Some (record { value = value; colour = c })

-- pairs of a value and a colour
unfoldable pub stops : List (List ℕ) → Option (List Stop)
stops [] = Some []
stops (a ∷ []) = None
stops (a ∷ b ∷ rest) = do
  first ← stop a b
  others ← stops rest
  Some (first ∷ others)

-- stops that are read, and those of the further words
abbrev pub with_others : List Stop → Option (List Stop) → Option (List Stop)
with_others front None = None
with_others front (Some others) = Some (front ++ others)

-- each stop's value is above the one before it, the first of which is v
abbrev pub ascends_from : ℤ → List Stop → Bool
ascends_from v [] = true
ascends_from v (s ∷ rest) = int_lt v s.value && ascends_from s.value rest

-- each stop's value is above the one before it
abbrev pub ascends : List Stop → Bool
ascends [] = true
ascends (s ∷ rest) = ascends_from s.value rest

-- 1 to 256 stops that ascend
abbrev pub are_stops : List Stop → Bool
are_stops ss = nat_le 1 (length ss) && nat_le (length ss) 256 && ascends ss

-- a ramp of a kind and some stops
unfoldable pub ramp : List (List ℕ) → Option RampParts
ramp [] = None
ramp (word ∷ words) = do
  kind ← word_in ramp_word ramps word
  ss ← stops words
  tested (are_stops ss) (record { kind = kind; stops = ss })
