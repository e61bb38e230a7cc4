-- The calls on templates, conditions, code and judges by their names, which docs/design/conformance.md lists by
-- subjects.
use Rattle.std.specs.Prelude.{ℕ, Bool, List, [], ◌∷◌, codes}
use Rattle.cases_of_values.specs.Calls.{is_one_of}

abbrev pub library_calls : List (List ℕ)
library_calls =
    codes "bind" ∷ codes "arguments" ∷ codes "tokens" ∷ codes "parse" ∷ codes "check" ∷ codes "decode" ∷ codes "compile"
    ∷ codes "verify" ∷ codes "run_tested" ∷ codes "change_byte" ∷ codes "condition" ∷ codes "judge" ∷ codes "judge_code"
    ∷ []

-- the calls that this library handles
abbrev pub is_library_call : (call : List ℕ) → Bool
is_library_call call = is_one_of library_calls call
