-- The machine that reads the words of a line. What the words of a line are is said by `Spelling`.
use Rattle.std.specs.Prelude.{ℕ, ◌==◌, if◌then◌else◌, List, [], ◌∷◌, ◌++◌, Option, Some, None, option_map}
use Rattle.std.specs.Result.{result_ok}
use Rattle.cv_reading.specs.Machines.{Machine, run}
use Rattle.cv_script.specs.declared.place.Place.{Place}
use Rattle.cv_script.specs.declared.place.Place.TheVariants.{Between, Bare, Quoted, Closed}
use Rattle.cv_script.specs.declared.place.Act.{Act}
use Rattle.cv_script.specs.declared.place.Act.TheVariants.{Skip, Keep, End}
use Rattle.cv_script.specs.Spelling.{is_separator}

-- the place behind a byte, and what becomes of the byte; None where it can't stand
abbrev pub next_of : Place → ℕ → Option (Place × Act)
next_of Between b =
    Some (if is_separator b then (Between, Skip) else if b == 34 then (Quoted, Skip) else (Bare, Keep))
next_of Bare b =
    if is_separator b then Some (Between, End) else if b == 34 then None else Some (Bare, Keep)
next_of Quoted b = Some (if b == 34 then (Closed, Skip) else (Quoted, Keep))
next_of Closed b =
    if b == 34 then Some (Quoted, Keep) else if is_separator b then Some (Between, End) else None

-- a place, the word that is read there, and the words before it
pub record Reading : Type 0 where
  pub place : Place
  pub word : List ℕ
  pub words : List (List ℕ)

-- a reading with what becomes of a byte
abbrev pub with_byte : ℕ → Act → Place → List ℕ → List (List ℕ) → Reading
with_byte b Skip place word words = record { place = place; word = word; words = words }
with_byte b Keep place word words = record { place = place; word = word ++ b ∷ []; words = words }
with_byte b End place word words = record { place = place; word = []; words = words ++ word ∷ [] }

-- the words, where a line can end
abbrev pub ended : Place → List ℕ → List (List ℕ) → Option (List (List ℕ))
ended Between word words = Some words
ended Bare word words = Some (words ++ word ∷ [])
ended Quoted word words = None
ended Closed word words = Some (words ++ word ∷ [])

-- the machine
abbrev pub word_reader : Machine Reading ℕ (List (List ℕ))
word_reader = record {
  step = λ r b. option_map (λ n. with_byte b n.1 n.0 r.word r.words) (next_of r.place b);
  ends = λ r. ended r.place r.word r.words;
}

-- before the first byte
abbrev pub no_words : Reading
no_words = record { place = Between; word = []; words = [] }

-- the words of a line, if it is made of words
unfoldable pub words_of : List ℕ → Option (List (List ℕ))
words_of line = result_ok (run word_reader line no_words)
