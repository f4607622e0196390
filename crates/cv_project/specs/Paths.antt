-- The text of a path.
use Rattle.std.specs.Prelude.{ℕ, List, []}
use Rattle.cv_project.specs.declared.path.Path.{Path, fold-Path}
use Rattle.cv_project.specs.declared.path.Path.TheOpen.{Path-F}
use Rattle.cv_project.specs.Nodes.{field_path, member_path}

-- one step, behind the text of those before it
abbrev pub path_step : Path-F (List ℕ) → List ℕ
path_step Path-F.Top = []
path_step (Path-F.Field parent name) = field_path parent.now name.now
path_step (Path-F.Member parent at) = member_path parent.now at

-- the text of a path
abbrev pub path_text : Path → List ℕ
path_text = fold-Path (List ℕ) path_step
