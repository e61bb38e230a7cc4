-- How names are listed, as many as a line has room for.
use Rattle.std.specs.Prelude.{ℕ, ◌-◌, ◌==◌, nat_lt, if◌then◌else◌, List, [], ◌++◌, codes, decimal}
use Rattle.std.specs.List.{join_by}
use Rattle.ar_value.specs.Terms.{Text}
use Rattle.ar_quote.specs.Shown.{quoted}

-- how many are listed
abbrev pub most_listed : ℕ
most_listed = 8

-- each but the first after a comma
abbrev pub names_listed : (names : List Text) → Text
names_listed names = join_by quoted (codes ", ") names

-- how many there are past those that are listed
abbrev pub others_counted : (count : ℕ) → Text
others_counted count =
    if nat_lt most_listed count then codes " and " ++ (decimal (count - most_listed) ++ codes " more") else []

-- of `count` things of a kind: the names of the first ones, and how many things there are past those that are listed
abbrev pub those_listed : (kinds : Text) → (names : List Text) → (count : ℕ) → Text
those_listed kinds names count =
    if count == 0 then codes "there are no " ++ kinds
    else kinds ++ (codes " are " ++ (names_listed names ++ others_counted count))
