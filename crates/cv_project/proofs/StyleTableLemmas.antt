-- The tables of styles: their trees are read as they are.
use Rattle.std.proofs.Common.{◌≡◌, ℕ, ◌+◌, ◌≤◌, ◌&&◌, Bool, true, false, List, [], ◌∷◌, length, Option, Some, None}
use Rattle.std.proofs.Common.{Result, Ok, refl, sym, ap, ◌∙◌, arith, codes, find, bytes_eq, if◌then◌else◌, ℤ, pos}
use Rattle.std.specs.Prelude.{IfSome, All, int_lt, ◌<ℤ◌}
use Rattle.std.proofs.lemmas.Int.{ints}
use Rattle.serde_json.specs.Data.{Data, string}
use Rattle.cv_model.specs.Positions.{IsCoordinate}
use Rattle.cv_model.specs.ProjectFiles.{IsName, IsRange, IsStyle, is_ramp}
use Rattle.cv_model.specs.Ramps.{RampParts, Ascends}
use Rattle.cv_model.specs.declared.ramp.RampKind.{RampKind}
use Rattle.cv_model.specs.declared.ramp.RampKind.TheVariants.{Exact, Discrete, Linear}
use Rattle.cv_model.specs.declared.ramp.Stop.{Stop}
use Rattle.cv_model.specs.declared.style.Class.{Class}
use Rattle.cv_model.specs.declared.style.Field.{Field}
use Rattle.cv_model.specs.declared.style.Range.{Range}
use Rattle.cv_model.specs.declared.style.Style.{Style}
use Rattle.cv_model.specs.declared.style.Style.TheVariants.{Single, Categorised, Graduated, Ramp}
use Rattle.cv_model.specs.declared.symbol.Symbol.{Symbol}
use Rattle.cv_project.specs.declared.words.StyleKind.{StyleKind}
use Rattle.cv_project.specs.declared.words.StyleKind.TheVariants as kind
use Rattle.cv_project.specs.Answers.{◌>>=◌}
use Rattle.cv_project.specs.Kept.{KeptSymbol, KeptClass, KeptRange, KeptStop, KeptClasses, KeptRamp, KeptStyle}
use Rattle.cv_project.specs.Fields.{tested}
use Rattle.cv_project.specs.Kinds.{text_of, name_of, word_in, coordinate_of, colour_of}
use Rattle.cv_project.specs.Lists.{each, list_of}
use Rattle.cv_project.specs.Nodes.{TreeNode}
use Rattle.cv_project.specs.Styles.{column_of, names_twice, class_of, range_of, stop_of, ascends, ascends_from}
use Rattle.cv_project.specs.Styles.{single_of, categorised_of, graduated_of, ramp_of, fits, fitting, styled}
use Rattle.cv_project.specs.Styles.{style_of}
use Rattle.cv_project.specs.Symbols.{symbol_of}
use Rattle.cv_project.specs.Trees.{Fields, object_of, list_tree, decimal_tree, colour_tree, symbol_tree}
use Rattle.cv_project.specs.Trees.{class_fields, class_tree, range_fields, range_tree, stop_fields, stop_tree}
use Rattle.cv_project.specs.Trees.{single_fields, categorised_fields, graduated_fields, ramp_fields, style_tree}
use Rattle.cv_project.specs.Trees.{style_fields}
use Rattle.cv_project.specs.Words.{ramp_word, ramps, style_word, styles}
use Rattle.cv_project.proofs.TreeLemmas.{found, differ, covers, get-fields, plain-object}
use Rattle.cv_project.proofs.StandLemmas.{Stands, node_at, object-reads, required-reads, optional-reads}
use Rattle.cv_project.proofs.StandLemmas.{others-read, tested-passes, plain-any, if_some, text-stands, name-stands}
use Rattle.cv_project.proofs.StandLemmas.{word-stands, coordinate-stands, colour-stands, list-stands, each-stand}
use Rattle.cv_project.proofs.TableLemmas.{symbol-stands}

-- ---- classes and stops

pub class-stands : (class : Class) → KeptClass class → Stands class_of 3 (class_tree class) class
unfolding class_of class_fields
class-stands class kept =
    let value = text-stands 2 class.value in
    let symbol = symbol-stands 0 class.symbol kept in
    let fs = class_fields class in
    record {
      there = refl;
      reads = λ path. rw (
        object-reads path fs,
        required-reads text_of 2 (codes "value") path fs (string class.value) class.value refl refl value,
        required-reads symbol_of 2 (codes "symbol") path fs (symbol_tree class.symbol) class.symbol refl refl symbol,
        others-read (codes "symbol" ∷ codes "value" ∷ []) path fs refl,
      ) refl;
      plain = plain-object 2 fs (symbol.plain, (value.plain, tt));
    }

pub range-stands : (range : Range) → IsRange range → KeptRange range
    → Stands range_of 3 (range_tree range) range
unfolding range_of range_fields
range-stands range form kept =
    let lower = coordinate-stands 2 range.lower form.0 in
    let upper = coordinate-stands 2 range.upper form.1 in
    let symbol = symbol-stands 0 range.symbol kept in
    let fs = range_fields range in
    record {
      there = refl;
      reads = λ path. rw (
        object-reads path fs,
        required-reads coordinate_of 2 (codes "lower") path fs (decimal_tree range.lower) range.lower refl refl lower,
        required-reads coordinate_of 2 (codes "upper") path fs (decimal_tree range.upper) range.upper refl refl upper,
        required-reads symbol_of 2 (codes "symbol") path fs (symbol_tree range.symbol) range.symbol refl refl symbol,
        others-read (codes "lower" ∷ codes "symbol" ∷ codes "upper" ∷ []) path fs refl,
      ) refl;
      plain = plain-object 2 fs (lower.plain, (symbol.plain, (upper.plain, tt)));
    }

pub stop-stands : (stop : Stop) → IsCoordinate stop.value → KeptStop stop
    → Stands stop_of 3 (stop_tree stop) stop
unfolding stop_of stop_fields
stop-stands stop form kept =
    let value = coordinate-stands 2 stop.value form in
    let colour = colour-stands 2 stop.colour kept in
    let fs = stop_fields stop in
    record {
      there = refl;
      reads = λ path. rw (
        object-reads path fs,
        required-reads coordinate_of 2 (codes "value") path fs (decimal_tree stop.value) stop.value refl refl value,
        required-reads colour_of 2 (codes "colour") path fs (colour_tree stop.colour) stop.colour refl refl colour,
        others-read (codes "colour" ∷ codes "value" ∷ []) path fs refl,
      ) refl;
      plain = plain-object 2 fs (colour.plain, (value.plain, tt));
    }

-- ---- columns

-- a column is read from the field that names it
column-reads : (joined : Bool) (name path : List ℕ) (fs : Fields) → differ fs ≡ true
    → found (codes "field") fs ≡ (if joined then None else Some (string name))
    → found (codes "joined") fs ≡ (if joined then Some (string name) else None) → IsName name
    → column_of (node_at path (object_of fs)) ≡ Ok (record { joined = joined; name = name })
unfolding column_of
column-reads true name path fs alone own other short = rw (
  optional-reads name_of 0 (codes "field") path fs string None alone own tt,
  optional-reads name_of 0 (codes "joined") path fs string (Some name) alone other (name-stands 0 name short),
) refl
column-reads false name path fs alone own other short =
    rw (optional-reads name_of 0 (codes "field") path fs string (Some name) alone own
    (name-stands 0 name short)) refl

and_false : (b : Bool) → (b && false) ≡ false
and_false true = refl
and_false false = refl

-- and the other field isn't there
column-once : (joined : Bool) (name path : List ℕ) (fs : Fields) → differ fs ≡ true
    → found (codes "field") fs ≡ (if joined then None else Some (string name))
    → found (codes "joined") fs ≡ (if joined then Some (string name) else None)
    → names_twice (node_at path (object_of fs)) ≡ false
column-once true name path fs alone own other = rw (get-fields (codes "field") fs alone, own) refl
column-once false name path fs alone own other =
    rw (get-fields (codes "joined") fs alone, other) (and_false _)

-- ---- styles

-- a style is read by its kind
style-reads : (grid : Bool) (k : StyleKind) (style : Style) (path : List ℕ) (fs : Fields) → differ fs ≡ true
    → found (codes "kind") fs ≡ Some (string (style_word k))
    → find (λ x. bytes_eq (style_word x) (style_word k)) styles ≡ Some k → fits grid k ≡ true
    → styled k (node_at path (object_of fs)) ≡ Ok style
    → style_of grid (node_at path (object_of fs)) ≡ Ok style
unfolding style_of fitting
style-reads grid k style path fs alone here first fit read = rw (
  object-reads path fs,
  required-reads (word_in style_word styles) 0 (codes "kind") path fs (string (style_word k)) k alone here
      (word-stands 0 style_word styles k first),
  fit,
) read

single-stands : (symbol : Symbol) → KeptSymbol symbol
    → Stands (style_of false) 5 (object_of (single_fields symbol)) (Single symbol)
unfolding single_of single_fields
single-stands symbol kept =
    let one = symbol-stands 2 symbol kept in
    let fs = single_fields symbol in
    record {
      there = refl;
      reads = λ path. style-reads false kind.Single (Single symbol) path fs refl refl refl refl (rw (
        required-reads symbol_of 4 (codes "symbol") path fs (symbol_tree symbol) symbol refl refl one,
        others-read (codes "kind" ∷ codes "symbol" ∷ []) path fs refl,
      ) refl);
      plain = plain-object 4 fs ((text-stands 4 (codes "single")).plain, (one.plain, tt));
    }

-- what the fields of a style with a column have, whose further fields have these names
record HasColumn (joined : Bool) (name : List ℕ) (k : StyleKind) (names : List (List ℕ)) (fs : Fields)
    : Type 0 where
  alone : differ fs ≡ true
  kind : found (codes "kind") fs ≡ Some (string (style_word k))
  own : found (codes "field") fs ≡ (if joined then None else Some (string name))
  other : found (codes "joined") fs ≡ (if joined then Some (string name) else None)
  known : covers (codes "field" ∷ codes "joined" ∷ names) fs ≡ true

categorised-has : (joined : Bool) (name : List ℕ) (classes : List Class) (fallback : Option Symbol)
    → HasColumn joined name kind.Categorised (codes "classes" ∷ codes "fallback" ∷ codes "kind" ∷ [])
    (categorised_fields (record { joined = joined; name = name }) classes fallback)
unfolding categorised_fields
categorised-has true name classes fallback =
    record { alone = refl; kind = refl; own = refl; other = refl; known = refl }
categorised-has false name classes fallback =
    record { alone = refl; kind = refl; own = refl; other = refl; known = refl }

categorised-stands : (column : Field) (classes : List Class) (fallback : Option Symbol)
    → IsName column.name → KeptClasses KeptClass classes → IfSome fallback KeptSymbol
    → Stands (style_of false) 5 (object_of (categorised_fields column classes fallback))
    (Categorised column classes fallback)
unfolding categorised_of categorised_fields
categorised-stands column classes fallback short kept others =
    let list = list-stands 0 1024 (each class_of) 3 class_tree classes (omega arith) kept.few (each-stand
    class_of 3 class_tree [] classes (λ i d below. class-stands _ (kept.each i d below))) in
    let other = if_some fallback (symbol-stands 2) others in
    let fs = categorised_fields column classes fallback in
    let has = categorised-has column.joined column.name classes fallback in
    record {
      there = refl;
      reads = λ path. style-reads false kind.Categorised (Categorised column classes fallback) path fs
          has.alone has.kind refl refl (rw (
            column-reads column.joined column.name path fs has.alone has.own has.other short,
            required-reads (list_of 0 1024 (each class_of)) 4 (codes "classes") path fs (list_tree class_tree classes)
                classes has.alone refl list,
            optional-reads symbol_of 4 (codes "fallback") path fs symbol_tree fallback has.alone refl other,
            column-once column.joined column.name path fs has.alone has.own has.other,
            others-read _ path fs has.known,
          ) refl);
      plain = plain-object 4 fs (list.plain, (plain-any symbol_of 4 symbol_tree fallback other, ((text-stands 4 column.name).plain, ((text-stands 4 (codes "categorised")).plain, tt))));
    }

graduated-has : (joined : Bool) (name : List ℕ) (classes : List Range)
    → HasColumn joined name kind.Graduated (codes "classes" ∷ codes "kind" ∷ [])
    (graduated_fields (record { joined = joined; name = name }) classes)
unfolding graduated_fields
graduated-has true name classes =
    record { alone = refl; kind = refl; own = refl; other = refl; known = refl }
graduated-has false name classes =
    record { alone = refl; kind = refl; own = refl; other = refl; known = refl }

graduated-stands : (column : Field) (classes : List Range) → IsName column.name → All IsRange classes
    → KeptClasses KeptRange classes
    → Stands (style_of false) 5 (object_of (graduated_fields column classes)) (Graduated column classes)
unfolding graduated_of graduated_fields
graduated-stands column classes short form kept =
    let list = list-stands 0 1024 (each range_of) 3 range_tree classes (omega arith) kept.few (each-stand
    range_of 3 range_tree [] classes (λ i d below. range-stands _ (form i d below) (kept.each i d below))) in
    let fs = graduated_fields column classes in
    let has = graduated-has column.joined column.name classes in
    record {
      there = refl;
      reads = λ path. style-reads false kind.Graduated (Graduated column classes) path fs
          has.alone has.kind refl refl (rw (
            column-reads column.joined column.name path fs has.alone has.own has.other short,
            required-reads (list_of 0 1024 (each range_of)) 4 (codes "classes") path fs (list_tree range_tree classes)
                classes has.alone refl list,
            column-once column.joined column.name path fs has.alone has.own has.other,
            others-read _ path fs has.known,
          ) refl);
      plain = plain-object 4 fs (list.plain, ((text-stands 4 column.name).plain, ((text-stands 4 (codes "graduated")).plain, tt)));
    }

above : (a b : ℤ) → a <ℤ b → int_lt a b ≡ true
above a b h = grind (arith, ints)

ascends-from : (stop : Stop) (rest : List Stop) → Ascends (stop ∷ rest) → ascends_from stop.value rest ≡ true
ascends-from stop [] h = refl
ascends-from stop (next ∷ rest) h = rw (above stop.value next.value h.0) (ascends-from next rest h.1)

ascends-passes : (stops : List Stop) → Ascends stops → ascends stops ≡ true
ascends-passes [] h = refl
ascends-passes (stop ∷ rest) h = ascends-from stop rest h

ramp-found : (w : RampKind) → find (λ x. bytes_eq (ramp_word x) (ramp_word w)) ramps ≡ Some w
ramp-found Exact = refl
ramp-found Discrete = refl
ramp-found Linear = refl

ramp-stands : (ramp : RampParts) → KeptRamp ramp
    → Stands (style_of true) 5 (object_of (ramp_fields ramp)) (Ramp ramp)
unfolding ramp_of ramp_fields
ramp-stands ramp kept =
    let is = kept.ramp in
    let word = word-stands 4 ramp_word ramps ramp.kind (ramp-found ramp.kind) in
    let list = list-stands 1 256 (each stop_of) 3 stop_tree ramp.stops is.least is.most (each-stand
    stop_of 3 stop_tree [] ramp.stops (λ i d below. stop-stands _ (is.in_range i d below) (kept.stops i d below))) in
    let fs = ramp_fields ramp in
    record {
      there = refl;
      reads = λ path. style-reads true kind.Ramp (Ramp ramp) path fs refl refl refl refl (rw (
        required-reads (word_in ramp_word ramps) 4 (codes "ramp") path fs (string (ramp_word ramp.kind)) ramp.kind
            refl refl word,
        required-reads (list_of 1 256 (each stop_of)) 4 (codes "stops") path fs (list_tree stop_tree ramp.stops)
            ramp.stops refl refl list,
        tested-passes (ascends ramp.stops) (codes "stops") (node_at path (object_of fs))
            (ascends-passes ramp.stops is.ascends),
        others-read (codes "kind" ∷ codes "ramp" ∷ codes "stops" ∷ []) path fs refl,
      ) refl);
      plain = plain-object 4 fs ((text-stands 4 (codes "ramp")).plain, (word.plain, (list.plain, tt)));
    }

-- a style in form, for a source that it fits
pub style-stands : (style : Style) → IsStyle style → KeptStyle style
    → Stands (style_of (is_ramp style)) 5 (style_tree style) style
style-stands (Single symbol) form kept = single-stands symbol kept
style-stands (Categorised column classes fallback) form kept =
    categorised-stands column classes fallback form kept.0 kept.1
style-stands (Graduated column classes) form kept = graduated-stands column classes form.0 form.1 kept
style-stands (Ramp ramp) form kept = ramp-stands ramp kept
