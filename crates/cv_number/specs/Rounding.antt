-- Division of whole numbers to the nearest whole number.
use Rattle.std.specs.Prelude.{ℕ, ◌+◌, ◌*◌, ◌/◌}

-- n / d to the nearest whole number, a half upwards
abbrev pub rnd : ℕ → ℕ → ℕ
rnd n d = (2 * n + d) / (2 * d)
