-- The table of commands: the name of each, the kinds of its arguments, and what it makes.
use Rattle.std.specs.Prelude.{ℕ, Bool, true, false, ℤ, pos, int_le, List, [], ◌∷◌, codes}
use Rattle.std.specs.Prelude.{if◌then◌else◌, Option, Some, None}
use Rattle.cv_model.specs.declared.blend.Blend.TheVariants.{Normal}
use Rattle.cv_model.specs.declared.edit.Edit.{Edit}
use Rattle.cv_model.specs.declared.edit.Edit.TheVariants as edit
use Rattle.cv_model.specs.declared.feature.Feature.{Feature}
use Rattle.cv_model.specs.declared.layer.Join.{Join}
use Rattle.cv_model.specs.declared.layer.LayerData.TheVariants as contents
use Rattle.cv_model.specs.declared.layer.NewLayer.{NewLayer}
use Rattle.cv_model.specs.declared.style.Style.TheVariants.{Single, Ramp}
use Rattle.cv_model.specs.Positions.{Rectangle}
use Rattle.cv_model.specs.Scales.{ScaleBounds, all_scales}
use Rattle.cv_script.specs.declared.script.Command.{Command}
use Rattle.cv_script.specs.declared.script.Command.TheVariants as command
use Rattle.cv_script.specs.declared.names.CommandName.{CommandName}
use Rattle.cv_script.specs.declared.names.CommandName.TheVariants as name_of
use Rattle.cv_script.specs.declared.names.EditName.{EditName}
use Rattle.cv_script.specs.declared.names.EditName.TheVariants as edit_name
use Rattle.cv_script.specs.Answers.{◌>>=◌, tested}
use Rattle.cv_script.specs.Kinds.{whole_in, number, id, step, text, texts, name, names, is_none_word, or_none}
use Rattle.cv_script.specs.Kinds.{decimal_in, coordinate, cell, geometry, rgb, word_in, blend_word, blends}
use Rattle.cv_script.specs.Styles.{no_parts, symbol, ramp}

-- ---- so many words, each of a kind, and what they make

abbrev pub none : {R : Type 0} → R → List (List ℕ) → Option R
none made [] = Some made
none made (a ∷ rest) = None

abbrev pub one : {A R : Type 0} → (List ℕ → Option A) → (A → R) → List (List ℕ) → Option R
one p make [] = None
one p make (a ∷ []) = p a >>= λ x. Some (make x)
one p make (a ∷ b ∷ rest) = None

abbrev pub two : {A B R : Type 0} → (List ℕ → Option A) → (List ℕ → Option B) → (A → B → R)
    → List (List ℕ) → Option R
two p q make [] = None
two p q make (a ∷ rest) = p a >>= λ x. one q (make x) rest

abbrev pub three : {A B C R : Type 0} → (List ℕ → Option A) → (List ℕ → Option B) → (List ℕ → Option C)
    → (A → B → C → R) → List (List ℕ) → Option R
three p q r make [] = None
three p q r make (a ∷ rest) = p a >>= λ x. two q r (make x) rest

abbrev pub four : {A B C D R : Type 0} → (List ℕ → Option A) → (List ℕ → Option B) → (List ℕ → Option C)
    → (List ℕ → Option D) → (A → B → C → D → R) → List (List ℕ) → Option R
four p q r s make [] = None
four p q r s make (a ∷ rest) = p a >>= λ x. three q r s (make x) rest

-- and behind them all further words
abbrev pub one_and : {A B R : Type 0} → (List ℕ → Option A) → (List (List ℕ) → Option B) → (A → B → R)
    → List (List ℕ) → Option R
one_and p rest make [] = None
one_and p rest make (a ∷ words) = p a >>= λ x. rest words >>= λ y. Some (make x y)

abbrev pub two_and : {A B C R : Type 0} → (List ℕ → Option A) → (List ℕ → Option B)
    → (List (List ℕ) → Option C) → (A → B → C → R) → List (List ℕ) → Option R
two_and p q rest make [] = None
two_and p q rest make (a ∷ words) = p a >>= λ x. one_and q rest (make x) words

-- ---- further kinds, and arguments of several words

-- a number of a fraction
abbrev pub factor : List ℕ → Option ℕ
factor = whole_in 1 1000

-- `xmin ymin xmax ymax`
unfoldable pub extent : List (List ℕ) → Option Rectangle
extent = four coordinate coordinate coordinate coordinate
    (λ xmin ymin xmax ymax. record { xmin = xmin; ymin = ymin; xmax = xmax; ymax = ymax })

-- `id local key`, or `none`
unfoldable pub join : List (List ℕ) → Option (Option Join)
join [] = None
join (a ∷ []) = if is_none_word a then Some None else None
join (a ∷ b ∷ rest) =
    three number name name (λ layer local key. Some (record { layer = layer; local = local; key = key }))
    (a ∷ b ∷ rest)

-- a bound of scales, from 0 to 10^9 units, or `none`
abbrev pub bound : List ℕ → Option (Option ℤ)
bound = or_none (decimal_in (pos 0) (pos 1000000000000000))

-- the least isn't above the greatest, where both are there
abbrev pub is_ordered : Option ℤ → Option ℤ → Bool
is_ordered None greatest = true
is_ordered (Some a) None = true
is_ordered (Some a) (Some b) = int_le a b

abbrev pub bounds : Option ℤ → Option ℤ → ScaleBounds
bounds least greatest = record { least = least; greatest = greatest }

-- `least greatest`
unfoldable pub scales : List (List ℕ) → Option ScaleBounds
scales words = do
  found ← two bound bound bounds words
  tested (is_ordered found.least found.greatest) found

-- `id wkt value..`
unfoldable pub feature : List (List ℕ) → Option Feature
feature = two_and id geometry texts
    (λ id geometry values. record { id = id; geometry = Some geometry; values = values })

-- a text layer without features, shown as it is painted, in a symbol without parts
abbrev pub empty_layer : ℕ → List ℕ → List (List ℕ) → NewLayer
empty_layer id name columns = record {
  id = id;
  name = name;
  contents = contents.Text (record { columns = columns; features = []; notes = [] });
  visible = true;
  opacity = 255;
  blend = Normal;
  mask = None;
  join = None;
  style = Single no_parts;
  scales = all_scales;
}

-- `id name column..`
unfoldable pub new_layer : List (List ℕ) → Option NewLayer
new_layer = two_and id name names empty_layer

-- ---- the tables

-- a name, and what the words behind it make
pub record Row (R : Type 0) : Type 0 where
  pub name : List ℕ
  pub makes : List (List ℕ) → Option R

-- the commands but for the edits
abbrev pub row : CommandName → Row Command
row name_of.View = record { name = codes "view"; makes = one_and number extent command.View }
row name_of.Pan = record { name = codes "pan"; makes = three number step step command.Pan }
row name_of.Zoom = record { name = codes "zoom"; makes = three number factor factor command.Zoom }
row name_of.Start = record { name = codes "start"; makes = one number command.Start }
row name_of.Cancel = record { name = codes "cancel"; makes = one number command.Cancel }
row name_of.Wait = record { name = codes "wait"; makes = one number command.Wait }
row name_of.Take = record { name = codes "take"; makes = none command.Take }
row name_of.Give = record { name = codes "give"; makes = none command.Give }
row name_of.Preview = record { name = codes "preview"; makes = two number name command.Preview }
row name_of.Save = record { name = codes "save"; makes = two number name command.Save }

-- the edits
abbrev pub edit_row : EditName → Row Edit
edit_row edit_name.AddFeature = record {
  name = codes "add-feature";
  makes = one_and number feature edit.AddFeature;
}
edit_row edit_name.InsertFeature = record {
  name = codes "insert-feature";
  makes = two_and number number feature edit.InsertFeature;
}
edit_row edit_name.RemoveFeature = record {
  name = codes "remove-feature";
  makes = two number id edit.RemoveFeature;
}
edit_row edit_name.SetGeometry = record {
  name = codes "set-geometry";
  makes = three number id (or_none geometry) edit.SetGeometry;
}
edit_row edit_name.SetAttribute = record {
  name = codes "set-attribute";
  makes = four number id name text edit.SetAttribute;
}
edit_row edit_name.SetCell = record {
  name = codes "set-cell";
  makes = four number number number cell edit.SetCell;
}
edit_row edit_name.SetStyle = record {
  name = codes "set-style";
  makes = one_and number symbol (λ l s. edit.SetStyle l (Single s));
}
edit_row edit_name.SetRamp = record {
  name = codes "set-ramp";
  makes = one_and number ramp (λ l r. edit.SetStyle l (Ramp r));
}
edit_row edit_name.SetMask = record {
  name = codes "set-mask";
  makes = two number (or_none number) edit.SetMask;
}
edit_row edit_name.SetJoin = record {
  name = codes "set-join";
  makes = one_and number join edit.SetJoin;
}
edit_row edit_name.AddLayer = record {
  name = codes "add-layer";
  makes = one_and number new_layer edit.AddLayer;
}
edit_row edit_name.RemoveLayer = record {
  name = codes "remove-layer";
  makes = one number edit.RemoveLayer;
}
edit_row edit_name.SetOpacity = record {
  name = codes "opacity";
  makes = two number (whole_in 0 255) edit.SetOpacity;
}
edit_row edit_name.SetBlend = record {
  name = codes "blend";
  makes = two number (word_in blend_word blends) edit.SetBlend;
}
edit_row edit_name.Show = record {
  name = codes "show";
  makes = one number (λ l. edit.SetVisible l true);
}
edit_row edit_name.Hide = record {
  name = codes "hide";
  makes = one number (λ l. edit.SetVisible l false);
}
edit_row edit_name.MoveLayer = record {
  name = codes "move";
  makes = two number number edit.MoveLayer;
}
edit_row edit_name.SetBackground = record {
  name = codes "background";
  makes = one rgb edit.SetBackground;
}
edit_row edit_name.SetScales = record {
  name = codes "set-scales";
  makes = one_and number scales edit.SetScales;
}

-- all of their names
abbrev pub command_names : List CommandName
command_names =
    name_of.View ∷ name_of.Pan ∷ name_of.Zoom ∷ name_of.Start ∷ name_of.Cancel ∷ name_of.Wait
    ∷ name_of.Take ∷ name_of.Give ∷ name_of.Preview ∷ name_of.Save ∷ []

abbrev pub edit_names : List EditName
edit_names =
    edit_name.AddFeature ∷ edit_name.InsertFeature ∷ edit_name.RemoveFeature ∷ edit_name.SetGeometry
    ∷ edit_name.SetAttribute ∷ edit_name.SetCell ∷ edit_name.SetStyle ∷ edit_name.SetRamp
    ∷ edit_name.SetMask ∷ edit_name.SetJoin ∷ edit_name.AddLayer ∷ edit_name.RemoveLayer
    ∷ edit_name.SetOpacity ∷ edit_name.SetBlend ∷ edit_name.Show ∷ edit_name.Hide
    ∷ edit_name.MoveLayer ∷ edit_name.SetBackground ∷ edit_name.SetScales ∷ []

abbrev pub command_spelling : CommandName → List ℕ
command_spelling n = (row n).name

abbrev pub edit_spelling : EditName → List ℕ
edit_spelling n = (edit_row n).name

-- the edit of a name and the words behind it
abbrev pub edit_made : List ℕ → List (List ℕ) → Option Edit
edit_made word words = word_in edit_spelling edit_names word >>= λ n. (edit_row n).makes words

-- the command of a name and the words behind it: by its row, or else an edit
abbrev pub command_made : Option CommandName → List ℕ → List (List ℕ) → Option Command
command_made (Some n) word words = (row n).makes words
command_made None word words = edit_made word words >>= λ e. Some (command.Edit e)

-- the command of some words: the first is its name
unfoldable pub command_of : List (List ℕ) → Option Command
command_of [] = None
command_of (word ∷ words) = command_made (word_in command_spelling command_names word) word words
