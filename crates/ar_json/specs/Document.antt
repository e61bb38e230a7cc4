-- JSON documents of limited size.
use Rattle.std.specs.Prelude.{ℕ, nat_lt, Bool, true, false, if◌then◌else◌, length, Option, None, Result, Err}
use Rattle.std.specs.Str.{is_utf8}
use Rattle.ar_value.specs.Terms.{Bytes}
use Rattle.serde_json.specs.Data.{Data}
use Rattle.serde_json.specs.Read.{read}
use Rattle.ar_value.specs.Answer.{there_or}
use Rattle.ar_json.specs.declared.document.JsonError.{JsonError}
use Rattle.ar_json.specs.declared.document.JsonError.TheVariants.{TooLarge, Utf8OrJson, OutOfMemory}

-- how many bytes a document may have
abbrev pub most_bytes : ℕ
most_bytes = 16777216

-- the JSON value (RFC 8259) whose text in UTF-8 an input is: of at most 127 levels, and of equal names the last counts
abbrev pub json_of : Bytes → Option Data
json_of input = if is_utf8 input then read input else None

-- the JSON document that an input is, or its first fault
unfoldable pub json_in : Bytes → Result Data JsonError
json_in input = if nat_lt most_bytes (length input) then Err TooLarge else there_or Utf8OrJson (json_of input)

abbrev pub is_document_memory : JsonError → Bool
is_document_memory OutOfMemory = true
is_document_memory error = false
