-- The bits of a mask: bit 0, the lowest, is the body, which is part 0; bit p is part p.
use Rattle.std.specs.Prelude.{ℕ, ◌/◌, ◌%◌, ◌^◌, Bool, ◌==◌}

-- bit p of the mask m
abbrev pub bit : ℕ → ℕ → Bool
bit p m = m / 2 ^ p % 2 == 1
