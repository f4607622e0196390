-- The tokens of well-known text and their kinds. Source: the tagged text of OGC 06-103r4, section 7.2, words
-- in any case.
use Rattle.std.specs.Prelude.{ℕ, Bool, true, false, ◌||◌, ◌==◌, if◌then◌else◌, List, [], ◌∷◌, length, take}
use Rattle.std.specs.Prelude.{drop, Option, Some, None, option_map, unwrap_or, is_some, codes}
use Rattle.std.specs.Char.{is_ascii_digit}
use Rattle.std.specs.List.{list_all}
use Rattle.std.specs.Option.{option_or}
use Rattle.std.specs.Str.{str_eq_ignore_ascii_case}
use Rattle.cv_reading.specs.Space.{is_space}
use Rattle.cv_reading.specs.Tokens.{ByteKind, White, Single, Word, Token, cut}
use Rattle.cv_number.specs.declared.fixed.Fixed.{Fixed}
use Rattle.cv_decimal.specs.Ranges.{IsInRange}
use Rattle.cv_number.specs.Reader.{decimal_of}
use Rattle.cv_wkt.specs.declared.kind.Word.{Word as Title}
use Rattle.cv_wkt.specs.declared.kind.Word.TheVariants.{Point, LineString, Polygon, MultiPoint}
use Rattle.cv_wkt.specs.declared.kind.Word.TheVariants.{MultiLineString, MultiPolygon, Collection}
use Rattle.cv_wkt.specs.declared.kind.Kind.{Kind}
use Rattle.cv_wkt.specs.declared.kind.Kind.TheVariants.{Open, Close, Comma, Semicolon, Equals, Srid, Empty}
use Rattle.cv_wkt.specs.declared.kind.Kind.TheVariants.{Tag, Name, Curve, Number, Other}

-- `(`, `)`, `,`, `;` and `=`
abbrev pub is_sign : ℕ → Bool
is_sign b = b == 40 || b == 41 || b == 44 || b == 59 || b == 61

-- white space stands between tokens, a sign is a token, and other bytes are one as long as they go on
abbrev pub byte_kind : ℕ → ByteKind
byte_kind b = if is_space b then White else if is_sign b then Single else Word

-- the tokens of a text, with their offsets
abbrev pub tokens_of : List ℕ → List Token
tokens_of text = cut byte_kind 0 text

-- is a token a word, in any case
abbrev pub is_word : List ℕ → List ℕ → Bool
is_word name bytes = str_eq_ignore_ascii_case name bytes

-- is a token a tag: Z, M or ZM
abbrev pub is_tag : List ℕ → Bool
is_tag bytes = is_word (codes "Z") bytes || is_word (codes "M") bytes || is_word (codes "ZM") bytes

-- whether a tag stands behind a word: nothing, or a tag
abbrev pub tag_in : List ℕ → Option Bool
tag_in bytes = if length bytes == 0 then Some false else if is_tag bytes then Some true else None

-- whether a name has a tag joined to it; None where it isn't this name
abbrev pub named : List ℕ → List ℕ → Option Bool
named name bytes = if is_word name (take (length name) bytes) then tag_in (drop (length name) bytes) else None

-- ---- words

-- the words of geometries, each with what it names
abbrev pub geometry_words : List (List ℕ × Title)
geometry_words =
    (codes "POINT", Point) ∷ (codes "LINESTRING", LineString) ∷ (
      codes "POLYGON",
      Polygon,
    ) ∷ (codes "MULTIPOINT", MultiPoint)
    ∷ (codes "MULTILINESTRING", MultiLineString) ∷ (codes "MULTIPOLYGON", MultiPolygon)
    ∷ (codes "GEOMETRYCOLLECTION", Collection) ∷ []

-- the words of curves and surfaces, which are refused
abbrev pub refused_words : List (List ℕ × Unit {0})
refused_words =
    (codes "CIRCULARSTRING", tt) ∷ (codes "COMPOUNDCURVE", tt) ∷ (
      codes "CURVEPOLYGON",
      tt,
    ) ∷ (codes "MULTICURVE", tt)
    ∷ (codes "MULTISURFACE", tt) ∷ (codes "CURVE", tt) ∷ (codes "SURFACE", tt) ∷ (
      codes "POLYHEDRALSURFACE",
      tt,
    )
    ∷ (codes "TIN", tt) ∷ (codes "TRIANGLE", tt) ∷ []

-- what the first word of a table stands for that a token is, and whether a tag is joined to it
abbrev pub found_in : {A : Type 0} → List (List ℕ × A) → List ℕ → Option (A × Bool)
found_in [] bytes = None
found_in (entry ∷ table) bytes =
    option_or (option_map (λ joined. (entry.1, joined)) (named entry.0 bytes)) (found_in table bytes)

-- ---- kinds

-- the kind of a geometry's word, or of a word that is refused
unfoldable pub geometry_kind : List ℕ → Kind
geometry_kind bytes =
    unwrap_or (option_map (λ found. Name found.0 found.1) (found_in geometry_words bytes))
    (if is_some (found_in refused_words bytes) then Curve else Other)

-- the kind of a token that is neither a decimal nor a sign
unfoldable pub keyword_kind : List ℕ → Kind
keyword_kind bytes =
    if is_word (codes "SRID") bytes then Srid
    else if is_word (codes "EMPTY") bytes then Empty
    else if is_tag bytes then Tag
    else geometry_kind bytes

-- the kind of a token that is no decimal
unfoldable pub word_kind : List ℕ → Kind
word_kind bytes =
    if is_word (codes "(") bytes then Open
    else if is_word (codes ")") bytes then Close
    else if is_word (codes ",") bytes then Comma
    else if is_word (codes ";") bytes then Semicolon
    else if is_word (codes "=") bytes then Equals
    else keyword_kind bytes

-- a decimal, and whether it consists of digits alone
abbrev pub number_kind : List ℕ → Option Fixed → Option Kind
number_kind bytes v = option_map (λ f. Number f (list_all is_ascii_digit bytes)) v

-- the kind of a token, given by its bytes
unfoldable pub kind_of : List ℕ → Kind
kind_of bytes = unwrap_or (number_kind bytes (decimal_of bytes)) (word_kind bytes)

-- a token that is a value is a coordinate
abbrev pub IsKindInRange : Kind → Type 0
IsKindInRange (Number v digits) = IsInRange v
IsKindInRange _ = Unit {0}
