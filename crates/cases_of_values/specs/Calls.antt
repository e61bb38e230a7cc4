-- The calls on numbers, texts, shapes and values by their names, which docs/design/conformance.md lists by subjects.
use Rattle.std.specs.Prelude.{ℕ, Bool, ◌||◌, List, [], ◌∷◌, codes}
use Rattle.std.specs.List.{list_any}
use Rattle.std.specs.Str.{bytes_eq}

abbrev pub arithmetic_calls : List (List ℕ)
arithmetic_calls = codes "add" ∷ codes "subtract" ∷ codes "multiply" ∷ codes "divide" ∷ codes "remainder" ∷ []

abbrev pub number_calls : List (List ℕ)
number_calls =
    codes "compare" ∷ codes "order" ∷ codes "negate" ∷ codes "to_decimal" ∷ codes "text" ∷ codes "same_text"
    ∷ codes "add" ∷ codes "subtract" ∷ codes "multiply" ∷ codes "divide" ∷ codes "remainder" ∷ codes "decimal"
    ∷ codes "digits" ∷ []

abbrev pub shape_calls : List (List ℕ)
shape_calls =
    codes "read_shape" ∷ codes "plain" ∷ codes "field_shape" ∷ codes "merge" ∷ codes "common" ∷ codes "read_value"
    ∷ codes "field" ∷ codes "fits" ∷ []

abbrev pub is_one_of : (names : List (List ℕ)) → (call : List ℕ) → Bool
is_one_of names call = list_any (bytes_eq call) names

-- the calls that this library handles
abbrev pub is_call : (call : List ℕ) → Bool
is_call call = is_one_of number_calls call || is_one_of shape_calls call
