-- A map of files, as the fakes hold it.
use Rattle.std.specs.Prelude.{ℕ, List, Option, option_map, map, Vec, String, string_bytes}
use Rattle.std.specs.BTreeMap.{get_by_text, BTreeMap}

module _ {Y Z : Type 0} where
  -- the bytes that stand under a name
  abbrev pub bytes_under : BTreeMap (String Y) (Vec ℕ Z) → List ℕ → Option (List ℕ)
  bytes_under files name = option_map (λ v. v.items) (get_by_text files name)

module _ {Y : Type 0} where
  -- names as their bytes
  abbrev pub names_of : List (String Y) → List (List ℕ)
  names_of names = map string_bytes names
