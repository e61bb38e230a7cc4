-- The line of a JSON value (RFC 8259).
use Rattle.std.specs.Prelude.{◌≡◌, ◌++◌, codes, Some}
use Rattle.serde_json.specs.Data.{Data}
use Rattle.serde_json.specs.Read.{read}
use Rattle.serde_json.specs.Written.{compact_text}
use Rattle.ar_value.specs.Terms.{Text}

pub record IsJsonLine (object : Data) (text : Text) : Type 0 where
  -- its text without blanks, and a line feed
  pub is : text ≡ compact_text object ++ codes "\n"
  -- the text reads back as the object
  pub reads_back : read (compact_text object) ≡ Some object
