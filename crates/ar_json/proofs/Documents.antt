-- Inputs and the JSON values that they are.
use Rattle.std.proofs.Common.{◌≡◌, ℕ, Bool, true, false, List, Some, None, refl}
use Rattle.std.specs.Str.{IsUtf8, is_utf8}
use Rattle.std.proofs.lemmas.Str.{is_utf8-from_IsUtf8, IsUtf8-from_is_utf8}
use Rattle.serde_json.specs.Data.{Data}
use Rattle.serde_json.specs.Read.{read}
use Rattle.ar_json.specs.Document.{json_of}

-- a text that is read is the value
pub json : (input : List ℕ) (value : Data) → IsUtf8 input → read input ≡ Some value → json_of input ≡ Some value
json input value utf8 is_read = rw (is_utf8-from_IsUtf8 input utf8) is_read

unread : (input : List ℕ) (utf8 : Bool) → is_utf8 input ≡ utf8 → (IsUtf8 input → read input ≡ None) → json_of input ≡ None
unread input true valid none = rw valid (none (IsUtf8-from_is_utf8 input valid))
unread input false invalid none = rw invalid refl

-- a text that isn't read is no value
pub no_json : (input : List ℕ) → (IsUtf8 input → read input ≡ None) → json_of input ≡ None
no_json input none = unread input (is_utf8 input) refl none
