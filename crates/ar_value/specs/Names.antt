-- The names of a record's fields: where one is among them, and their order.
use Rattle.std.specs.Prelude.{ℕ, suc, ◌==◌, if◌then◌else◌, List, [], ◌∷◌, Option, Some, None, option_map, ◌≡◌, codes, refl}
use Rattle.std.specs.Cmp.Lexicographic.{slice_cmp}
use Rattle.std.specs.List.Sorted.{IsStrictlySortedBy}
use Rattle.std.specs.Ordering.{nat_cmp}
use Rattle.std.specs.Str.{bytes_eq}
use Rattle.ar_value.specs.Terms.{Text}

-- each name is below all that come after it, byte by byte
abbrev pub Rise : List Text → Type 0
Rise names = IsStrictlySortedBy (slice_cmp nat_cmp) names

-- the index of the first of these names that is the same as a name
abbrev pub index_named : Text → List Text → Option ℕ
index_named name [] = None
index_named name (of ∷ names) = if bytes_eq of name then Some 0 else option_map suc (index_named name names)

-- the index of the first of these numbers that is the same as a number
abbrev pub index_of : ℕ → List ℕ → Option ℕ
index_of number [] = None
index_of number (of ∷ numbers) = if of == number then Some 0 else option_map suc (index_of number numbers)

-- ---- worked rows

second_of_two : index_named (codes "b") (codes "a" ∷ codes "b" ∷ []) ≡ Some 1
second_of_two = refl

of_no_such_name : index_named (codes "c") (codes "a" ∷ codes "b" ∷ []) ≡ None
of_no_such_name = refl
