-- Cells held in 64 bits each: a number of 64 bits for each, and beside them the places where the least of
-- these numbers is the cell's own value.
--
-- Source: this project's own.
use Rattle.std.specs.Prelude.{ℕ, ◌==◌, Bool, false, if◌then◌else◌, ℤ, negsuc, List, [], ◌∷◌, length}
use Rattle.std.specs.Prelude.{◌≡◌, ◌≢◌, ◌<◌, All}
use Rattle.std.proofs.Common.{zero, suc}
use Rattle.std.specs.List.{list_any}
use Rattle.std.specs.Ordering.{int_eq}
use Rattle.cv_model.specs.declared.grid.Cell.{Cell}
use Rattle.cv_model.specs.declared.grid.Cell.TheVariants.{Value, Void}

-- the least number of 64 bits
abbrev pub least : ℤ
least = negsuc 9223372036854775807

-- whether a place is one of these
abbrev pub is_among : List ℕ → ℕ → Bool
is_among places at = list_any (λ place. place == at) places

-- the cell of a number: the least one stands for no data, but where it is the value itself
abbrev pub cell_of_word : Bool → ℤ → Cell
cell_of_word is_itself word =
    if int_eq word least then (if is_itself then Value word else Void) else Value word

-- the cells of numbers in order, by whether the least one is the value itself at a place
abbrev pub cells_of : (ℕ → Bool) → List ℤ → List Cell
cells_of is_itself [] = []
cells_of is_itself (word ∷ words) =
    cell_of_word (is_itself zero) word ∷ cells_of (λ k. is_itself (suc k)) words

-- the cells of numbers in order, where the least one is the value itself at these places
unfoldable pub unpacked : List ℤ → List ℕ → List Cell
unpacked words places = cells_of (is_among places) words

-- the number that a cell is held as
abbrev pub word_of : Cell → ℤ
word_of (Value number) = number
word_of Void = least

-- whether a cell has the least number as its value
abbrev pub is_least : Cell → Bool
is_least (Value number) = int_eq number least
is_least Void = false

-- all places are before the end of the list
abbrev pub AreWithin : List ℤ → List ℕ → Type 0
AreWithin words places = All (λ place. place < length words) places

-- a place is now among these or isn't, and all others are as they were
pub record IsMarked (old new : List ℕ) (at : ℕ) (is_there : Bool) : Type 0 where
  pub here : is_among new at ≡ is_there
  pub others : (k : ℕ) → k ≢ at → is_among new k ≡ is_among old k
