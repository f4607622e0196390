-- The text of a path, step by step.
use Rattle.std.proofs.Common.{◌≡◌, ℕ, List, Bor, rules}
use Rattle.cv_project.specs.declared.path.Path.{Path, Field, Member, the_lemmas}
use Rattle.cv_project.specs.Nodes.{field_path, member_path}
use Rattle.cv_project.specs.Paths.{path_text}

-- a field's path is its name behind the object's path
pub path_text-Field : (parent : Bor Path) (name : Bor (List ℕ))
    → path_text (Field parent name) ≡ field_path (path_text parent.now) name.now
path_text-Field parent name = search (rules, the_lemmas)

-- a member's path is its number behind the list's path
pub path_text-Member : (parent : Bor Path) (at : ℕ)
    → path_text (Member parent at) ≡ member_path (path_text parent.now) at
path_text-Member parent at = search (rules, the_lemmas)
