-- The number that digits with an exponent spell, which no public contract speaks of.
use Rattle.std.specs.Prelude.{ℕ, ◌+◌, ◌*◌, ◌/◌, ◌^◌, List, ◌++◌, length}
use Rattle.std.specs.Str.Parse.{digits_value}

-- digits m, f of which are after a point, times 10^up, over 10^down, in millionths, cut
abbrev pub scaled_magnitude : List ℕ → List ℕ → ℕ → ℕ → ℕ
scaled_magnitude whole fraction up down =
    digits_value 10 (whole ++ fraction) * 10 ^ (6 + up) / 10 ^ (length fraction + down)
