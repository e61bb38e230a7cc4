-- Arguments: a list of names with their values.
use Rattle.std.specs.Prelude.{List, [], ◌∷◌, map, Option, String, string_bytes, if◌then◌else◌}
use Rattle.std.specs.Str.{bytes_eq}
use Rattle.std.specs.Map.{lookup}
use Rattle.std.specs.declared.alloc.Global.{Global}
use Rattle.ar_value.specs.Terms.{Text}

-- entries of a map, seen by the bytes of their names
abbrev pub by_name : {V : Type 0} → List (String Global × V) → List (Text × V)
by_name entries = map (λ entry. (string_bytes entry.0, entry.1)) entries

-- the value of a name
abbrev pub value_of : {V : Type 0} → Text → List (Text × V) → Option V
value_of name arguments = lookup (bytes_eq name) arguments

-- the arguments after a name is given a value: in place of the one that it has, or else last
abbrev pub with_value : {V : Type 0} → List (Text × V) → Text → V → List (Text × V)
with_value [] name value = (name, value) ∷ []
with_value (first ∷ rest) name value =
    if bytes_eq name first.0 then (first.0, value) ∷ rest else first ∷ with_value rest name value
