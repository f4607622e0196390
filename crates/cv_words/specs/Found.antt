-- What `clap` found under a name.
use Rattle.std.specs.Prelude.{ℕ, List, [], unwrap_or}
use Rattle.clap.specs.Words.{first_value, found_of}
use Rattle.clap.specs.declared.parser.matches.ArgMatches.{ArgMatches}

-- the word that was found under a name, or nothing
abbrev pub word_at : List ℕ → ArgMatches → List ℕ
word_at name found = unwrap_or (first_value (found_of found) name) []
