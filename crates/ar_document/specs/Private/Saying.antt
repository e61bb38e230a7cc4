-- What an entry says, as it is found in a value that borrows its texts.
use Rattle.std.specs.Prelude.{◌≡◌, Bool, false, Option, Some, option_map}
use Rattle.std.specs.Borrow.{Bor}
use Rattle.json.specs.Json.{Json, boolean}
use Rattle.json.specs.Value.{value_view}
use Rattle.json.specs.declared.value.Value.{Value}
use Rattle.serde_json.specs.Data.{Data}
use Rattle.serde_json.specs.Read.{of_json}
use Rattle.ar_value.specs.Answer.{BothOrNeither}
use Rattle.ar_document.specs.Entries.{Stated, stated_as}
use Rattle.ar_document.specs.declared.entries.Stated.{Stated as Found}

-- this is the data of a value that was found, or there is neither
abbrev pub IsGiven : {A : Type 0} → Option (Bor (Value A)) → Option Data → Type 0
IsGiven found given = BothOrNeither (λ json made. of_json (value_view json.now) ≡ Some made) found given

-- what was found, with the data of its value
abbrev pub stated_with : Found → Option Data → Stated
stated_with found given =
    stated_as (option_map (λ text. text.now) found.run) (option_map (λ text. text.now) found.metric) found.stops given
    found.fails

abbrev pub is_true_in : Option Json → Bool
is_true_in (Some (boolean value)) = value
is_true_in found = false
