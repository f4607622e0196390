-- Markers: the columns before one, and those that it reaches.
use Rattle.std.proofs.Common.{◌≡◌, refl, ℕ, ◌+◌, ◌*◌, ◌≤◌, max, Bool, true, false, not, ◌&&◌, ◌||◌, ℤ, pos, negsuc, ◌+ℤ◌, ◌-ℤ◌, ◌*ℤ◌, ◌≤ℤ◌, int_lt, int_le, unsigned_abs, arith}
use Rattle.std.proofs.lemmas.Int.{ints}
use Rattle.std.proofs.lemmas.Nat.{mul-le}
use Rattle.cv_model.specs.declared.shape.Shape.{Shape}
use Rattle.cv_model.specs.declared.shape.Shape.TheVariants.{Square, Diamond, Circle}
use Rattle.cv_model.specs.Positions.{Position, doubled}
use Rattle.cv_model.specs.Views.{PixelGrid, centre_of}
use Rattle.cv_model.specs.Markers.{covers, is_marked}
use Rattle.cv_geom.specs.Falls.{FallsIn}
use Rattle.cv_geom.proofs.CentreLemmas.{centres-rise}
use Rattle.cv_pen.specs.Dots.{is_before, is_reached}

-- a square by the size of its side
pub square-is : (z : ℤ) → z *ℤ z ≡ pos (unsigned_abs z * unsigned_abs z)
square-is (pos n) = refl
square-is (negsuc n) = refl

square-le : (x y : ℤ) → unsigned_abs x ≤ unsigned_abs y → (x *ℤ x) ≤ℤ (y *ℤ y)
square-le x y order =
    let less = mul-le (unsigned_abs x) (unsigned_abs x) (unsigned_abs y) (unsigned_abs y) order order in
    let first = square-is x in
    let second = square-is y in
    omega (arith, ints)

less-square : (a b d r : ℤ) → a ≤ℤ b → int_le (b +ℤ d) r ≡ true → int_le (a +ℤ d) r ≡ true
less-square a b d r order held = grind (arith, ints)

less-most : (a b d : ℕ) (r : ℤ) → a ≤ b → int_le (pos (max b d)) r ≡ true → int_le (pos (max a d)) r ≡ true
less-most a b d r order held = grind (arith, ints)

less-sum : (a b d : ℕ) (r : ℤ) → a ≤ b → int_le (pos (b + d)) r ≡ true → int_le (pos (a + d)) r ≡ true
less-sum a b d r order held = grind (arith, ints)

-- what is covered is covered at less of a distance to the side too
covers-nearer :
    (shape : Shape) (r near far dy : ℤ) → unsigned_abs near ≤ unsigned_abs far → covers shape r far dy ≡ true
    → covers shape r near dy ≡ true
covers-nearer Square r near far dy order held = less-most (unsigned_abs near) (unsigned_abs far) (unsigned_abs dy) r order held
covers-nearer Diamond r near far dy order held = less-sum (unsigned_abs near) (unsigned_abs far) (unsigned_abs dy) r order held
covers-nearer Circle r near far dy order held = less-square (near *ℤ near) (far *ℤ far) (dy *ℤ dy) (r *ℤ r) (square-le near far order) held

both-hold : (x y : Bool) → (x && y) ≡ true → (x ≡ true) × (y ≡ true)
both-hold true y held = (refl, held)
both-hold false y held = cc

at-most : (z : ℤ) → int_le z (pos 0) ≡ true → z ≤ℤ pos 0
at-most z held = grind (arith, ints)

is-at-most : (z : ℤ) → z ≤ℤ pos 0 → int_le z (pos 0) ≡ true
is-at-most z held = grind (arith, ints)

-- what lies before a marker has before it what lies further west
before-step :
    (near far : ℤ) (b b' : Bool) → far ≤ℤ near → (unsigned_abs near ≤ unsigned_abs far → b' ≡ true → b ≡ true)
    → (int_le near (pos 0) && not b) ≡ true → (int_le far (pos 0) && not b') ≡ true
before-step near far b b' order nearer held =
    let parts = both-hold (int_le near (pos 0)) (not b) held in
    let west = at-most near parts.0 in
    let by = is-at-most far (omega (arith, ints)) in
    let size : unsigned_abs near ≤ unsigned_abs far = omega (arith, ints) in
    rw by (out b b' (nearer size) parts.1)
  where
    out : (b b' : Bool) → (b' ≡ true → b ≡ true) → not b ≡ true → (true && not b') ≡ true
    out b false implied free = refl
    out true true implied free = free
    out false true implied free = implied refl

-- what a marker reaches has before it what lies further west
reached-step :
    (near far : ℤ) (t b b' : Bool) → int_lt far (pos 0) ≡ t → far ≤ℤ near
    → (unsigned_abs far ≤ unsigned_abs near → b ≡ true → b' ≡ true)
    → (int_lt near (pos 0) || b) ≡ true → (t || b') ≡ true
reached-step near far true b b' test order nearer held = refl
reached-step near far false b b' test order nearer held =
    let east : pos 0 ≤ℤ far = grind (arith, ints) in
    let free : int_lt near (pos 0) ≡ false = not-less near (omega (arith, ints)) in
    let size : unsigned_abs far ≤ unsigned_abs near = omega (arith, ints) in
    nearer size (rw free at held)
  where
    not-less : (z : ℤ) → pos 0 ≤ℤ z → int_lt z (pos 0) ≡ false
    not-less z some = grind (arith, ints)

-- the columns before a marker are the first ones
pub before-falls :
    (v : PixelGrid) (j low high : ℕ) (shape : Shape) (r : ℤ) (at : Position) → pos 1 ≤ℤ v.u
    → FallsIn (λ i. is_before shape r (centre_of v i j) at) low high
before-falls v j low high shape r at unit i k from order below held =
    let east = centres-rise v i k j unit order in
    let near = (centre_of v k j).x -ℤ (doubled at).x in
    let far = (centre_of v i j).x -ℤ (doubled at).x in
    before-step near far (is_marked shape r (centre_of v k j) at) (is_marked shape r (centre_of v i j) at)
    (omega (arith, ints))
    (λ size covered. covers-nearer shape r near far ((centre_of v k j).y -ℤ (doubled at).y) size covered) held

-- those that it reaches too
pub reached-falls :
    (v : PixelGrid) (j low high : ℕ) (shape : Shape) (r : ℤ) (at : Position) → pos 1 ≤ℤ v.u
    → FallsIn (λ i. is_reached shape r (centre_of v i j) at) low high
reached-falls v j low high shape r at unit i k from order below held =
    let east = centres-rise v i k j unit order in
    let near = (centre_of v k j).x -ℤ (doubled at).x in
    let far = (centre_of v i j).x -ℤ (doubled at).x in
    reached-step near far (int_lt far (pos 0)) (is_marked shape r (centre_of v k j) at)
    (is_marked shape r (centre_of v i j) at) refl (omega (arith, ints))
    (λ size covered. covers-nearer shape r far near ((centre_of v k j).y -ℤ (doubled at).y) size covered) held

-- what isn't before a marker and is reached is covered
pub marked-between :
    (shape : Shape) (r : ℤ) (p at : Position)
    → (not (is_before shape r p at) && is_reached shape r p at) ≡ is_marked shape r p at
marked-between shape r p at =
    by (is_marked shape r p at) (int_le dx (pos 0)) (int_lt dx (pos 0)) refl refl
  where
    dx : ℤ
    dx = p.x -ℤ (doubled at).x

    by :
        (m x y : Bool) → int_le dx (pos 0) ≡ x → int_lt dx (pos 0) ≡ y → (not (x && not m) && (y || m)) ≡ m
    by true true true most less = refl
    by true true false most less = refl
    by true false true most less = refl
    by true false false most less = refl
    by false true y most less = refl
    by false false true most less = grind (arith, ints)
    by false false false most less = refl
