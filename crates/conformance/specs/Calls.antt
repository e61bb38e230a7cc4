-- The calls that this program handles by itself, by their names, which docs/design/conformance.md lists by subjects.
use Rattle.std.specs.Prelude.{ℕ, Bool, ◌||◌, List, [], ◌∷◌, codes}
use Rattle.cases_of_values.specs.Calls.{is_call as is_value_call, is_one_of}
use Rattle.cases_of_conditions.specs.Calls.{is_library_call as is_judge_call}

abbrev pub own_calls : List (List ℕ)
own_calls =
    codes "phase" ∷ codes "positive_counts" ∷ codes "phases" ∷ codes "read_json" ∷ codes "read_bundle"
    ∷ codes "findings" ∷ codes "limits" ∷ codes "core" ∷ codes "command_of" ∷ []

abbrev pub is_own_call : (call : List ℕ) → Bool
is_own_call call = is_one_of own_calls call

abbrev pub is_suite_call : (call : List ℕ) → Bool
is_suite_call call = is_value_call call || (is_judge_call call || is_own_call call)
