-- What is passed of a text's tokens: a value whose numbers are in range, and what comes after it.
use Rattle.std.specs.Prelude.{◌≡◌, ◌<◌, ℕ, List, ◌∷◌, Option, Some, None, option_map}
use Rattle.json.specs.Json.{value}
use Rattle.json.specs.Token.{Token}
use Rattle.serde_json.specs.Data.{Data, null}
use Rattle.serde_json.specs.Find.{as_array, as_null}
use Rattle.serde_json.specs.Read.{converted, of_json}
use Rattle.ar_stream.specs.declared.passing.Entered.{Entered}
use Rattle.ar_stream.specs.declared.passing.Entered.TheVariants as entered

-- the data that tokens begin with, of at most that many levels, and the tokens after it
abbrev pub data_at : (levels : ℕ) → List Token → Option (Data × List Token)
data_at levels tokens = converted of_json (value levels tokens)

abbrev pub tokens_left : {A : Type 0} → Option (A × List Token) → Option (List Token)
tokens_left found = option_map (λ pair. pair.1) found

-- the tokens after that data
abbrev pub after_value : (levels : ℕ) → List Token → Option (List Token)
after_value levels tokens = tokens_left (data_at levels tokens)

-- data that is neither an array nor null, and the tokens after it
pub record IsOther (levels : ℕ) (old new : List Token) : Type 0 where
  pub is : Data
  pub found : data_at levels old ≡ Some (is, new)
  pub no_array : as_array is ≡ None
  pub no_null : as_null is ≡ None

-- the tokens that are left where an array was entered, or any other value was passed over
abbrev pub Enters : (levels : ℕ) → List Token → Entered → List Token → Type 0
Enters levels old entered.Array new = (0 < levels) × (old ≡ Token.begin_array ∷ new)
Enters levels old entered.Null new = data_at levels old ≡ Some (null, new)
Enters levels old entered.Other new = IsOther levels old new

-- an object doesn't begin here
abbrev pub BeginsNoObject : List Token → Type 0
BeginsNoObject (Token.begin_object ∷ rest) = ⊥
BeginsNoObject tokens = Unit {0}
