-- A layer at a version of the store.
use Rattle.std.specs.Prelude.{◌≡◌, ℕ, true}
use Rattle.cv_model.specs.Edits.{fits}
use Rattle.cv_model.specs.Layers.{Contents, Features, Core}
use Rattle.cv_model.specs.Layers.Contents.{Cells}
use Rattle.cv_layer.specs.declared.layer.LayerContents.{LayerContents}
use Rattle.cv_layer.specs.declared.layer.LayerContents.TheVariants.{Text, Grid}

-- the core of a layer, and the version at which it was added or last changed
pub record RevisedCore : Type 0 where
  pub core : Core
  pub revision : ℕ

-- what a layer holds
abbrev pub contents_seen : LayerContents → Contents
contents_seen (Text table) = Features table.columns table.features
contents_seen (Grid cells) = Cells cells

-- what a layer keeps: its style is one for what it holds
abbrev pub IsFitting : Core → Type 0
IsFitting core = fits core.style core.contents ≡ true
