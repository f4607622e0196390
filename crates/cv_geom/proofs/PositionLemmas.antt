-- Positions by their coordinates.
use Rattle.std.proofs.Common.{◌≡◌, ◌∙◌, ℤ, ap}
use Rattle.cv_model.specs.Positions.{Position}

-- positions with the same coordinates are the same
pub same_place : (p q : Position) → p.x ≡ q.x → p.y ≡ q.y → p ≡ q
same_place p q same_x same_y =
    let east : ℤ → Position = λ x. record { x = x; y = p.y } in
    let north : ℤ → Position = λ y. record { x = q.x; y = y } in
    ap east same_x ∙ ap north same_y
