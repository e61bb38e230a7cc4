-- A JSON object that is being made, one member after another, and members of usual kinds.
use Rattle.std.specs.Prelude.{◌≡◌, ℕ, ℤ, pos, negsuc, List, Option, Result, IfOk, String}
use Rattle.std.specs.BTreeMap.{BTreeMap}
use Rattle.std.specs.Option.{option_map_or}
use Rattle.std.specs.declared.alloc.AllocError.{AllocError}
use Rattle.std.specs.declared.alloc.Global.{Global}
use Rattle.serde_json.specs.Data.{Data, Members, array, negative, null, number, string, unsigned}
use Rattle.serde_json.specs.View.{items_of, members_view}
use Rattle.serde_json.specs.declared.value.Value.{Value}
use Rattle.ar_value.specs.Terms.{Text}

-- it has these members, unless memory was refused
abbrev pub Has : Result (BTreeMap (String Global) Value) AllocError → Members → Type 0
Has made members = IfOk made (λ map. members_view map.entries ≡ members)

-- ---- values

abbrev pub count_data : ℕ → Data
count_data n = number (unsigned n)

abbrev pub integer_data : ℤ → Data
integer_data (pos n) = number (unsigned n)
integer_data (negsuc n) = number (negative (negsuc n))

-- null where there is none
abbrev pub count_or_null : Option ℕ → Data
count_or_null found = option_map_or count_data found null

abbrev pub text_or_null : Option Text → Data
text_or_null found = option_map_or string found null

abbrev pub array_of : List Data → Data
array_of found = array (items_of found)

-- of the forms of all objects that the program writes (docs/use/json.md)
abbrev pub version : Data
version = count_data 1
