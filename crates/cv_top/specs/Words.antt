-- The words of each command.
use Rattle.std.specs.Prelude.{◌≡◌, ◌⊎◌, ℕ, ℤ, ◌≤◌, true, List, [], ◌∷◌, ◌++◌, length, take, drop}
use Rattle.std.specs.Prelude.{Ok, codes}
use Rattle.std.specs.List.{list_all}
use Rattle.std.specs.Str.Parse.{AllDigits, IsNumeral, digits_value}
use Rattle.cv_model.specs.declared.colour.Rgb.{Rgb}
use Rattle.cv_model.specs.Positions.{Rectangle}
use Rattle.cv_model.specs.Views.{PixelGrid}
use Rattle.cv_geom.specs.Views.{view_of}
use Rattle.cv_number.specs.declared.fixed.Fixed.TheVariants.{Value}
use Rattle.cv_number.specs.Spellings.{Spells}
use Rattle.cv_words.specs.Plain.{is_plain}
use Rattle.cv_top.specs.declared.orders.Order.{Order}
use Rattle.cv_top.specs.declared.orders.Order.TheVariants.{Quick, Check, Paint, Session}
use Rattle.cv_top.specs.Parts.{QuickParts, CheckParts, PaintParts, SessionParts}

-- one to ten digits of this value
pub record IsCount (word : List ℕ) (n : ℕ) : Type 0 where
  pub numeral : IsNumeral 10 word
  pub few : length word ≤ 10
  pub value : digits_value 10 word ≡ n

-- the two hexadecimal digits at a place, as a channel
abbrev pub channel_at : List ℕ → ℕ → ℕ
channel_at word at = digits_value 16 (take 2 (drop at word))

-- six hexadecimal digits, in either case: red, green and blue
pub record IsColour (word : List ℕ) (c : Rgb) : Type 0 where
  pub six : length word ≡ 6
  pub digits : AllDigits 16 word
  pub red : channel_at word 0 ≡ c.r
  pub green : channel_at word 2 ≡ c.g
  pub blue : channel_at word 4 ≡ c.b

-- the word spells z millionths, as a decimal that is a value
abbrev pub IsValueOf : List ℕ → ℤ → Type 0
IsValueOf word z = Spells word (Value z)

-- four words spell the numbers of an extent, in millionths
pub record IsExtentOf (xmin ymin xmax ymax : List ℕ) (e : Rectangle) : Type 0 where
  pub west : IsValueOf xmin e.xmin
  pub south : IsValueOf ymin e.ymin
  pub east : IsValueOf xmax e.xmax
  pub north : IsValueOf ymax e.ymax

-- two words are a size at which the extent gives the view
pub record IsViewOf (w h : List ℕ) (e : Rectangle) (view : PixelGrid) : Type 0 where
  pub width : IsCount w view.w
  pub height : IsCount h view.h
  pub gives : view_of e view.w view.h ≡ Ok view

-- seven words are a size, an extent and a colour, which give the view and the fill
pub record IsPlan (w h xmin ymin xmax ymax colour : List ℕ) (view : PixelGrid) (fill : Rgb) : Type 0 where
  pub extent : Rectangle
  pub extent_is : IsExtentOf xmin ymin xmax ymax extent
  pub view_is : IsViewOf w h extent view
  pub fill_is : IsColour colour fill

-- the words are `quick` and the nine words of this order
pub record IsQuick (words : List (List ℕ)) (order : QuickParts) : Type 0 where
  pub w : List ℕ
  pub h : List ℕ
  pub xmin : List ℕ
  pub ymin : List ℕ
  pub xmax : List ℕ
  pub ymax : List ℕ
  pub colour : List ℕ
  pub spelled :
      words
      ≡ codes "quick" ∷ order.csv ∷ order.out ∷ w ∷ h ∷ xmin ∷ ymin ∷ xmax ∷ ymax ∷ colour ∷ []
  pub plan : IsPlan w h xmin ymin xmax ymax colour order.view order.fill

-- the words are `check` and the name of a project
pub record IsCheck (words : List (List ℕ)) (order : CheckParts) : Type 0 where
  pub spelled : words ≡ codes "check" ∷ order.project ∷ []
  pub plain : is_plain order.project ≡ true

-- the words behind `paint`
abbrev pub paint_words : PaintParts → List (List ℕ)
paint_words order = order.project ∷ order.number ∷ order.out ∷ []

-- the words are `paint`, the name of a project, the number of a canvas and the name of a picture
pub record IsPaint (words : List (List ℕ)) (order : PaintParts) : Type 0 where
  pub spelled : words ≡ codes "paint" ∷ paint_words order
  pub plain : list_all is_plain (paint_words order) ≡ true
  pub count : IsCount order.number order.canvas
  pub small : order.canvas ≤ 4294967295

-- the option `--workers` with this number, in two words or in one
abbrev pub IsOption : List (List ℕ) → List ℕ → Type 0
IsOption option number =
    (option ≡ codes "--workers" ∷ number ∷ []) ⊎ (option ≡ (codes "--workers=" ++ number) ∷ [])

-- where the option of a session stands: in front of the project, between it and the script, or behind both
pub data Place : Type 0 where
  First : Place
  Middle : Place
  Last : Place

-- the words behind `session`
abbrev pub placed : Place → List (List ℕ) → SessionParts → List (List ℕ)
placed First option order = option ++ order.project ∷ order.script ∷ []
placed Middle option order = order.project ∷ (option ++ order.script ∷ [])
placed Last option order = order.project ∷ order.script ∷ option

-- words that are the name of a project and that of a script, and somewhere the option with the number 0
pub record IsAlone (rest : List (List ℕ)) (order : SessionParts) : Type 0 where
  pub place : Place
  pub option : List (List ℕ)
  pub spelled : rest ≡ placed place option order
  pub is_option : IsOption option order.number
  pub plain : list_all is_plain (order.project ∷ order.script ∷ []) ≡ true
  pub none : IsCount order.number 0

-- two names and a number make a session where the number is 0
pub record IsNamed (project script number : List ℕ) (order : SessionParts) : Type 0 where
  pub is : order ≡ record { project = project; script = script; number = number }
  pub plain : list_all is_plain (project ∷ script ∷ []) ≡ true
  pub none : IsCount number 0

-- the words are `session` and such words
pub record IsSession (words : List (List ℕ)) (order : SessionParts) : Type 0 where
  pub rest : List (List ℕ)
  pub spelled : words ≡ codes "session" ∷ rest
  pub alone : IsAlone rest order

-- what is asked for is of words that `clap` reads as they are
abbrev pub IsPlainOrder : Order → Type 0
IsPlainOrder (Quick order) = Unit {0}
IsPlainOrder (Check order) = is_plain order.project ≡ true
IsPlainOrder (Paint order) = list_all is_plain (paint_words order) ≡ true
IsPlainOrder (Session order) =
    list_all is_plain (order.number ∷ order.project ∷ order.script ∷ []) ≡ true

-- the words are a command's form, and ask for this
abbrev pub IsOrder : List (List ℕ) → Order → Type 0
IsOrder words (Quick order) = IsQuick words order
IsOrder words (Check order) = IsCheck words order
IsOrder words (Paint order) = IsPaint words order
IsOrder words (Session order) = IsSession words order

-- the words are no command's form
abbrev pub IsNoForm : List (List ℕ) → Type 0
IsNoForm words = (order : Order) → IsOrder words order → ⊥
