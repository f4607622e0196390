-- A style whose strokes all have one colour gives symbols of that colour alone.
use Rattle.std.proofs.Common.{◌≡◌, ℕ, true, ◌&&◌, ◌==◌, Option, Some, refl, ap, ◌∙◌, arith}
use Rattle.std.specs.Option.{option_map_or}
use Rattle.std.proofs.lemmas.Bool.Decides.{nat_tests}
use Rattle.cv_model.specs.declared.colour.Rgba.{Rgba}
use Rattle.cv_model.specs.declared.symbol.Symbol.{Symbol}
use Rattle.cv_model.specs.Layers.{Parts}
use Rattle.cv_model.specs.Pens.{PenParts}
use Rattle.cv_model.specs.Markers.{MarkerParts}
use Rattle.cv_model.specs.Styles.{holds}
use Rattle.cv_paint.specs.Inks.{is_colour, draws_only, is_ink_of}
use Rattle.cv_paint.specs.Layings.{TakesSymbol, TakesLayer}
use Rattle.cv_paint.proofs.StyleLemmas.{both, each_given}

-- colours that are the same by their test
same_colour : (a b : Rgba) → is_colour a b ≡ true → b ≡ a
same_colour a b same =
    let first = both (a.r == b.r) ((a.g == b.g) && ((a.b == b.b) && (a.a == b.a))) same in
    let second = both (a.g == b.g) ((a.b == b.b) && (a.a == b.a)) first.1 in
    let third = both (a.b == b.b) (a.a == b.a) second.1 in
    let r : b.r ≡ a.r = number (a.r) (b.r) first.0 in
    let g : b.g ≡ a.g = number (a.g) (b.g) second.0 in
    let k : b.b ≡ a.b = number (a.b) (b.b) third.0 in
    let l : b.a ≡ a.a = number (a.a) (b.a) third.1 in
    equal b.r b.g b.b b.a a r g k l
  where
    number : (m n : ℕ) → (m == n) ≡ true → n ≡ m
    number m n same = grind (arith, nat_tests)

    equal : (r g b a : ℕ) (s : Rgba) → r ≡ s.r → g ≡ s.g → b ≡ s.b → a ≡ s.a
        → (let made : Rgba = record { r = r; g = g; b = b; a = a } in made) ≡ s
    equal r g b a s er eg eb ea = rw (er, eg, eb, ea) refl

-- a symbol of one colour
takes_symbol : (ink : Rgba) (symbol : Symbol) → draws_only ink symbol ≡ true → TakesSymbol (Some ink) symbol
takes_symbol ink symbol only =
    let fills = both (option_map_or (is_colour ink) symbol.fill true)
    (option_map_or (λ (pen : PenParts). is_colour ink pen.colour) symbol.pen true
    && option_map_or (λ (marker : MarkerParts). is_colour ink marker.colour) symbol.marker true) only in
    let others = both (option_map_or (λ (pen : PenParts). is_colour ink pen.colour) symbol.pen true)
    (option_map_or (λ (marker : MarkerParts). is_colour ink marker.colour) symbol.marker true) fills.1 in
    record {
      fill = λ colour is. same_colour ink colour (in_fill symbol.fill colour fills.0 is);
      pen = λ pen is. same_colour ink pen.colour (in_pen symbol.pen pen others.0 is);
      marker = λ marker is. same_colour ink marker.colour (in_marker symbol.marker marker others.1 is);
    }
  where
    in_fill : (fill : Option Rgba) (colour : Rgba) → option_map_or (is_colour ink) fill true ≡ true
        → fill ≡ Some colour → is_colour ink colour ≡ true
    in_fill fill colour holds is = rw is at holds

    in_pen : (drawn : Option PenParts) (pen : PenParts)
        → option_map_or (λ (pen : PenParts). is_colour ink pen.colour) drawn true ≡ true → drawn ≡ Some pen
        → is_colour ink pen.colour ≡ true
    in_pen drawn pen holds is = rw is at holds

    in_marker : (drawn : Option MarkerParts) (marker : MarkerParts)
        → option_map_or (λ (marker : MarkerParts). is_colour ink marker.colour) drawn true ≡ true → drawn ≡ Some marker
        → is_colour ink marker.colour ≡ true
    in_marker drawn marker holds is = rw is at holds

-- a canvas of the colour takes the layer's symbols
pub takes_layer : (used ink : Rgba) (parts : Parts) → used ≡ ink → is_ink_of ink parts.own.style ≡ true
    → TakesLayer (Some used) parts
takes_layer used ink parts same only feature symbol is =
    let mine : is_ink_of used parts.own.style ≡ true = ap (λ (c : Rgba). is_ink_of c parts.own.style) same ∙ only in
    takes_symbol used symbol (rw is at (each_given (draws_only used) parts feature mine))
