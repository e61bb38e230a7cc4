-- Words that shown values and shown conditions share.
use Rattle.std.specs.Prelude.{ℕ, ◌==◌, Bool, true, false, if◌then◌else◌, List, [], ◌++◌, codes, decimal}

abbrev pub boolean_text : Bool → List ℕ
boolean_text true = codes "true"
boolean_text false = codes "false"

-- what comes before an item: nothing before the first one
abbrev pub between : (first : Bool) → List ℕ
between first = if first then [] else codes ", "

-- what the word for one thing has at its end where there are `number` of them
abbrev pub plural : (number : ℕ) → List ℕ
plural number = if number == 1 then [] else codes "s"

-- the word for things that are counted; `what`: the word for one of them
abbrev pub units : (what : List ℕ) → (number : ℕ) → List ℕ
units what number = what ++ plural number

-- how many are left out, where some are
abbrev pub left_out : (what : List ℕ) → (number : ℕ) → List ℕ
left_out what number =
    if number == 0 then [] else codes " and " ++ (decimal number ++ (codes " more " ++ units what number))
