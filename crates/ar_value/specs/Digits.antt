-- Numbers that digits spell.
use Rattle.std.specs.Prelude.{ℕ, ◌*◌, ◌/◌, ◌^◌, List, ◌++◌, length}
use Rattle.std.specs.Str.Parse.{digits_value}

-- digits m, f of which are after a point, spell m / 10^f: in millionths m * 10^6 / 10^f, cut
abbrev pub magnitude_of : List ℕ → List ℕ → ℕ
magnitude_of whole fraction = digits_value 10 (whole ++ fraction) * 10 ^ 6 / 10 ^ length fraction
