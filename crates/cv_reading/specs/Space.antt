-- White space, the same in every format of text.
use Rattle.std.specs.Prelude.{ℕ, Bool, ◌||◌, ◌==◌}

-- space, tab, carriage return and line feed. Source: the white space of RFC 8259, section 2.
abbrev pub is_space : ℕ → Bool
is_space b = b == 32 || b == 9 || b == 13 || b == 10
