-- What the classes of a style keep.
use Rattle.std.specs.Prelude.{◌≤◌, List, length}

-- there are at most 1,024 of them
abbrev pub AreClasses : {A : Type 0} → List A → Type 0
AreClasses classes = length classes ≤ 1024
