-- The tokens after the rest of an array or an object, of which the first token was taken.
use Rattle.std.specs.Prelude.{ℕ, List, length, Option}
use Rattle.json.specs.Json.{items, members, value}
use Rattle.json.specs.Token.{Token}
use Rattle.serde_json.specs.Data.{no_members}
use Rattle.serde_json.specs.Read.{converted, of_items, of_members}
use Rattle.ar_stream.specs.Passing.{tokens_left}

-- the tokens after the rest of an array
abbrev pub after_items : (levels : ℕ) → List Token → Option (List Token)
after_items levels tokens = tokens_left (converted of_items (items (value levels) (length tokens) tokens))

-- the tokens after the rest of an object
abbrev pub after_members : (levels : ℕ) → List Token → Option (List Token)
after_members levels tokens =
    tokens_left (converted (λ found. of_members found no_members) (members (value levels) (length tokens) tokens))
