-- Looking into a JSON document (RFC 8259).
use Rattle.std.specs.Prelude.{List, [], ◌∷◌, Option, Some, None, option_and_then, option_map, Result, Ok, Err}
use Rattle.ar_value.specs.Terms.{Text}
use Rattle.serde_json.specs.Data.{Data, null, string, Items, no_items, item}
use Rattle.serde_json.specs.Find.{get, as_array, as_str}

-- null counts as missing
abbrev pub unless_null : Option Data → Option Data
unless_null None = None
unless_null (Some null) = None
unless_null (Some d) = Some d

-- the member of an object; what is no object has no members
abbrev pub member : Text → Data → Option Data
member name d = unless_null (get name d)

-- a member's member
abbrev pub member_of_member : Text → Text → Data → Option Data
member_of_member outer name d = option_and_then (member name) (member outer d)

-- a member that is a text
abbrev pub text_member : Text → Data → Option Text
text_member name d = option_and_then as_str (member name d)

-- a text that may be missing; any other value is refused
abbrev pub text_or : {E : Type 0} → E → Option Data → Result (Option Text) E
text_or refusal None = Ok None
text_or refusal (Some (string text)) = Ok (Some text)
text_or refusal (Some d) = Err refusal

-- the values of a JSON list
abbrev pub listed : Items → List Data
listed no_items = []
listed (item d ds) = d ∷ listed ds

abbrev pub list_of : Data → Option (List Data)
list_of d = option_map listed (as_array d)

-- an empty text counts as missing
abbrev pub unless_empty : Text → Option Text
unless_empty [] = None
unless_empty (byte ∷ text) = Some (byte ∷ text)
