-- How often the numbers of a bundle are put.
use Rattle.std.specs.Prelude.{ℕ, nat_lt, if◌then◌else◌}

-- whether a number was put, as a count
abbrev pub once_below : (number upto : ℕ) → ℕ
once_below number upto = if nat_lt number upto then 1 else 0
