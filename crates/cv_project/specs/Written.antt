-- What is written for a project file, and that it is read as the same file.
use Rattle.std.specs.Prelude.{◌≡◌, ℕ, List, Ok}
use Rattle.cv_model.specs.ProjectFiles.{FileParts, IsInForm}
use Rattle.cv_project.specs.Kept.{KeptFile}
use Rattle.cv_project.specs.Projects.{IsTree, tree_project}
use Rattle.cv_project.specs.Trees.{file_tree}

-- the bytes are JSON that the tables read as this file
pub record IsReadAs (bytes : List ℕ) (file : FileParts) : Type 0 where
  pub tree : IsTree bytes (file_tree file)
  pub project : tree_project (file_tree file) ≡ Ok file

-- the fields read from the tree that stands for a file in form are that file, where its parts keep what the
-- types of such a file in memory keep
abbrev pub TreesAreRead : Type 0
TreesAreRead = (file : FileParts) → IsInForm file → KeptFile file → tree_project (file_tree file) ≡ Ok file
