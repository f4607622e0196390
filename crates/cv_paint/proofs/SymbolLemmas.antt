-- Symbols that a rule gives are those with which features are drawn.
use Rattle.std.proofs.Common.{◌≡◌, ◌∙◌, ap, sym, refl, ℕ, Bool, true, false, if◌then◌else◌, List, [], ◌∷◌, ◌++◌}
use Rattle.std.proofs.Common.{Option, Some, None}
use Rattle.std.specs.Prelude.{bytes_eq, find, position, option_map, option_and_then}
use Rattle.std.specs.Option.{option_or, unwrap_or}
use Rattle.std.proofs.lemmas.Bool.Decides.{same_from_decides}
use Rattle.std.proofs.lemmas.List.Folds.{find-append}
use Rattle.std.proofs.lemmas.Slice.Eq.{bytes_eq-Decides}
use Rattle.cv_model.specs.declared.feature.Feature.{Feature}
use Rattle.cv_model.specs.declared.layer.Join.{Join}
use Rattle.cv_model.specs.declared.style.Class.{Class}
use Rattle.cv_model.specs.declared.style.Field.{Field}
use Rattle.cv_model.specs.declared.style.Style.{Style}
use Rattle.cv_model.specs.declared.style.Style.TheVariants.{Single, Categorised, Graduated, Ramp}
use Rattle.cv_model.specs.declared.symbol.Symbol.{Symbol}
use Rattle.cv_model.specs.Layers.{Contents, Features, Cells, Core, Parts}
use Rattle.cv_model.specs.Styles.{symbol_of, class_of}
use Rattle.cv_model.specs.Texts.{text_of, joined_in, joined_text, field_text, style_text, feature_symbol}
use Rattle.cv_paint.specs.declared.symbols.Rule.{Rule}
use Rattle.cv_paint.specs.Symbols.{symbol_by, text_at, first_at, row_symbol, joined_symbol, column_of, field_of}
use Rattle.cv_paint.specs.Symbols.{IsRuleOf, AreSymbols}

-- the text of a feature by a name is that in the name's column
text_in_column : (contents : Contents) (name : List ℕ) (f : Feature)
    → text_at (column_of contents name) f ≡ text_of contents name f
text_in_column (Features columns features) name f = refl
text_in_column (Cells grid) name f = refl

-- a style with a field reads the field's text
field_read : (style : Style) (field : Field) (parts : Parts) (f : Feature) → field_of style ≡ Some field
    → field_text parts field f ≡ style_text style parts f
field_read (Single symbol) field parts f is = cc
field_read (Categorised own classes fallback) field parts f is =
    let same : field ≡ own = cc in ap (λ (x : Field). field_text parts x f) same
field_read (Graduated own classes) field parts f is =
    let same : field ≡ own = cc in ap (λ (x : Field). field_text parts x f) same
field_read (Ramp ramp) field parts f is = cc

-- a style without a field reads no text
no_field_read : (style : Style) (parts : Parts) (f : Feature) → field_of style ≡ None
    → None ≡ style_text style parts f
no_field_read (Single symbol) parts f is = refl
no_field_read (Categorised own classes fallback) parts f is = cc
no_field_read (Graduated own classes) parts f is = cc
no_field_read (Ramp ramp) parts f is = refl

-- a rule of the style gives the symbols, where the column has the text that the style reads
by_text : (parts : Parts) (column : Option ℕ) (rule : Rule) → IsRuleOf parts.own.style rule
    → ((f : Feature) → text_at column f ≡ style_text parts.own.style parts f) → AreSymbols parts column rule
unfolding feature_symbol
by_text parts column rule is reads f =
    is (text_at column f) ∙ ap (symbol_of parts.own.style) (reads f)

-- without a field
pub no_symbols : (parts : Parts) (rule : Rule) → IsRuleOf parts.own.style rule
    → field_of parts.own.style ≡ None → AreSymbols parts None rule
no_symbols parts rule is none =
    by_text parts None rule is (λ f. no_field_read parts.own.style parts f none)

-- by a field of its own layer
pub own_symbols : (parts : Parts) (field : Field) (rule : Rule) → IsRuleOf parts.own.style rule
    → field_of parts.own.style ≡ Some field → field.joined ≡ false
    → AreSymbols parts (column_of parts.own.contents field.name) rule
own_symbols parts field rule is reads own =
    by_text parts (column_of parts.own.contents field.name) rule is (λ f.
    text_in_column parts.own.contents field.name f
    ∙ sym (ap (λ (b : Bool). if b then joined f else text_of parts.own.contents field.name f) own)
    ∙ field_read parts.own.style field parts f reads)
  where
    joined : Feature → Option (List ℕ)
    joined f = option_and_then
        (λ join. option_and_then
        (λ (there : Core). joined_text parts.own.contents join there.contents field.name f) parts.join)
        parts.own.join

-- the text by a field of the join layer
abbrev by_field : Parts → Field → Feature → Option Join → Option Core → Option (List ℕ)
by_field parts field f join there = option_and_then
    (λ j. option_and_then (λ (k : Core). joined_text parts.own.contents j k.contents field.name f) there)
    join

joined_read : (parts : Parts) (field : Field) (f : Feature) → field_of parts.own.style ≡ Some field
    → field.joined ≡ true → by_field parts field f parts.own.join parts.join ≡ style_text parts.own.style parts f
joined_read parts field f reads joined =
    sym (ap (λ (b : Bool). if b then by_field parts field f parts.own.join parts.join
    else text_of parts.own.contents field.name f) joined)
    ∙ field_read parts.own.style field parts f reads

-- by a field of a join layer, where no join is named
pub unjoined_symbols : (parts : Parts) (field : Field) (rule : Rule) → IsRuleOf parts.own.style rule
    → field_of parts.own.style ≡ Some field → field.joined ≡ true → parts.own.join ≡ None
    → AreSymbols parts None rule
unjoined_symbols parts field rule is reads joined none =
    by_text parts None rule is (λ f.
    sym (ap (λ (j : Option Join). by_field parts field f j parts.join) none)
    ∙ joined_read parts field f reads joined)

-- or where the layer that is named isn't there
pub absent_symbols : (parts : Parts) (field : Field) (join : Join) (rule : Rule) → IsRuleOf parts.own.style rule
    → field_of parts.own.style ≡ Some field → field.joined ≡ true → parts.own.join ≡ Some join
    → parts.join ≡ None → AreSymbols parts None rule
absent_symbols parts field join rule is reads joined named none =
    by_text parts None rule is (λ f.
    sym (ap (λ (j : Option Join). by_field parts field f j parts.join) named
    ∙ ap (λ (k : Option Core). by_field parts field f (Some join) k) none)
    ∙ joined_read parts field f reads joined)

-- or where it is there
pub joined_symbols_are : (parts : Parts) (field : Field) (join : Join) (there : Core) (rule made : Rule)
    → IsRuleOf parts.own.style rule → field_of parts.own.style ≡ Some field → field.joined ≡ true
    → parts.own.join ≡ Some join → parts.join ≡ Some there
    → ((text : Option (List ℕ)) → symbol_by made text
    ≡ symbol_by rule (option_and_then (joined_in there.contents join.key field.name) text))
    → AreSymbols parts (column_of parts.own.contents join.local) made
unfolding feature_symbol
joined_symbols_are parts field join there rule made is reads joined named found gives f =
    let read : option_and_then (joined_in there.contents join.key field.name) (text_of parts.own.contents join.local f)
    ≡ style_text parts.own.style parts f =
    sym (ap (λ (j : Option Join). by_field parts field f j parts.join) named
    ∙ ap (λ (k : Option Core). by_field parts field f (Some join) k) found)
    ∙ joined_read parts field f reads joined in
    gives (text_at (column_of parts.own.contents join.local) f)
    ∙ is (option_and_then (joined_in there.contents join.key field.name)
    (text_at (column_of parts.own.contents join.local) f))
    ∙ ap (λ (t : Option (List ℕ)). symbol_of parts.own.style (option_and_then (joined_in there.contents join.key field.name) t))
    (text_in_column parts.own.contents join.local f)
    ∙ ap (symbol_of parts.own.style) read

-- ---- what a map gives

-- what is kept first, then what is kept of some, then of others
kept_first : {A B : Type 0} (g : A → B) (old : Option B) (x y : Option A)
    → option_or (option_or old (option_map g x)) (option_map g y) ≡ option_or old (option_map g (option_or x y))
kept_first g (Some b) x y = refl
kept_first g None None y = refl
kept_first g None (Some a) y = refl

-- what features give, and then others behind them
pub joined_append : (rule : Rule) (key column : Option ℕ) (rows more : List Feature) (q : List ℕ)
    (old : Option (Option Symbol))
    → option_or (option_or old (joined_symbol rule key column rows q)) (joined_symbol rule key column more q)
    ≡ option_or old (joined_symbol rule key column (rows ++ more) q)
joined_append rule key column rows more q old =
    kept_first (row_symbol rule column) old (first_at key q rows) (first_at key q more)
    ∙ ap (λ (found : Option Feature). option_or old (option_map (row_symbol rule column) found))
    (sym (find-append _ rows more))

-- texts are compared alike in either order
text_sym : (xs ys : List ℕ) → bytes_eq xs ys ≡ bytes_eq ys xs
text_sym xs ys =
    let d = bytes_eq-Decides ys xs in
    same_from_decides (bytes_eq xs ys) (bytes_eq ys xs) (bytes_eq-Decides xs ys)
    (λ (e : bytes_eq ys xs ≡ true). sym (d.0 e), λ (e : xs ≡ ys). d.1 (sym e))

-- what classes give, and then another one behind them
class_cases : (found : Option Class) (c : Class) (test other : Bool) → test ≡ other
    → option_map Some (option_map (λ (k : Class). k.symbol) (option_or found (if test then Some c else None)))
    ≡ option_or (option_map Some (option_map (λ (k : Class). k.symbol) found)) (if other then Some (Some c.symbol) else None)
class_cases (Some x) c test other same = refl
class_cases None c true other same = simp (sym same) refl
class_cases None c false other same = simp (sym same) refl

pub class_more : (classes : List Class) (c : Class) (q : List ℕ)
    → option_map Some (class_of (classes ++ c ∷ []) q)
    ≡ option_or (option_map Some (class_of classes q)) (if bytes_eq q c.value then Some (Some c.symbol) else None)
class_more classes c q =
    ap (λ (found : Option Class). option_map Some (option_map (λ (k : Class). k.symbol) found))
    (find-append (λ k. bytes_eq k.value q) classes (c ∷ []))
    ∙ class_cases (find (λ k. bytes_eq k.value q) classes) c (bytes_eq c.value q) (bytes_eq q c.value) (text_sym c.value q)

-- a map of the classes, and the symbol of all other texts, is the rule of a categorised style
pub classes_are_rule : (classes : List Class) (fallback : Option Symbol) (given : List ℕ → Option (Option Symbol))
    (text : Option (List ℕ)) → ((q : List ℕ) → given q ≡ option_map Some (class_of classes q))
    → unwrap_or (option_and_then given text) fallback ≡ option_or (option_and_then (class_of classes) text) fallback
classes_are_rule classes fallback given None is = refl
classes_are_rule classes fallback given (Some q) is =
    ap (λ (x : Option (Option Symbol)). unwrap_or x fallback) (is q) ∙ unwrapped (class_of classes q) fallback
  where
    unwrapped : (x : Option Symbol) (y : Option Symbol) → unwrap_or (option_map Some x) y ≡ option_or x y
    unwrapped None y = refl
    unwrapped (Some s) y = refl

-- a map of what a table's features give, and the symbol of an absent text, gives by the joined text
found_gives : (rule : Rule) (name : Option ℕ) (found : Option Feature)
    → unwrap_or (option_map (row_symbol rule name) found) (symbol_by rule None)
    ≡ symbol_by rule (option_and_then (text_at name) found)
found_gives rule name None = refl
found_gives rule name (Some row) = refl

text_joins : (rule : Rule) (columns : List (List ℕ)) (features : List Feature) (key name text : List ℕ)
    → unwrap_or (joined_symbol rule (position (bytes_eq key) columns) (position (bytes_eq name) columns) features text)
    (symbol_by rule None)
    ≡ symbol_by rule (joined_in (Features columns features) key name text)
text_joins rule columns features key name text =
    found_gives rule (position (bytes_eq name) columns) (first_at (position (bytes_eq key) columns) text features)

pub table_joins : (rule : Rule) (columns : List (List ℕ)) (features : List Feature) (key name : List ℕ)
    (given : List ℕ → Option (Option Symbol)) (other : Option Symbol) (k n : Option ℕ)
    → k ≡ position (bytes_eq key) columns → n ≡ position (bytes_eq name) columns → other ≡ symbol_by rule None
    → ((q : List ℕ) → given q ≡ joined_symbol rule k n features q) → (text : Option (List ℕ))
    → unwrap_or (option_and_then given text) other
    ≡ symbol_by rule (option_and_then (joined_in (Features columns features) key name) text)
table_joins rule columns features key name given other k n key_is name_is other_is is None = other_is
table_joins rule columns features key name given other k n key_is name_is other_is is (Some q) =
    ap (λ (x : Option (Option Symbol)). unwrap_or x other) (is q)
    ∙ ap (unwrap_or (joined_symbol rule k n features q)) other_is
    ∙ ap (λ (i : Option ℕ). unwrap_or (joined_symbol rule i n features q) (symbol_by rule None)) key_is
    ∙ ap (λ (i : Option ℕ). unwrap_or (joined_symbol rule (position (bytes_eq key) columns) i features q) (symbol_by rule None))
    name_is
    ∙ text_joins rule columns features key name q
