-- JSON (RFC 8259) that is written one token after another.
use Rattle.std.specs.Prelude.{◌≡◌, List, [], ◌∷◌, ◌++◌, flat_map, Result, IfOk, Some}
use Rattle.std.specs.List.{AllByRecursion}
use Rattle.std.specs.declared.alloc.AllocError.{AllocError}
use Rattle.json.specs.Token as json
use Rattle.json.specs.Tree.{json_tokens}
use Rattle.json.specs.Written.{Written}
use Rattle.serde_json.specs.Data.{Data}
use Rattle.serde_json.specs.Read.{of_json}
use Rattle.serde_json.specs.Written.{outline}
use Rattle.ar_value.specs.Terms.{Text}

-- what a writer wrote, or that memory was refused
abbrev pub Output : Type 0
Output = Result Written AllocError

-- these tokens were written, unless memory was refused
abbrev pub HasTokens : Output → List json.Token → Type 0
HasTokens output tokens = IfOk output (λ written. written.tokens ≡ tokens)

-- these tokens come after those before
pub record AddsTokens (tokens : List json.Token) (old new : Output) : Type 0 where
  pub adds : (before : List json.Token) → HasTokens old before → HasTokens new (before ++ tokens)

-- ---- values

abbrev pub value_tokens : Data → List json.Token
value_tokens value = json_tokens (outline value)

-- a reader of these tokens finds the value again
abbrev pub ReadsBack : Data → Type 0
ReadsBack value = of_json (outline value) ≡ Some value

-- these values come after what was written before
pub record AddsValues (values : List Data) (old new : Output) : Type 0 where
  pub tokens_are : AddsTokens (flat_map value_tokens values) old new
  pub read_back : AllByRecursion ReadsBack values

abbrev pub AddsValue : Data → (old new : Output) → Type 0
AddsValue value = AddsValues (value ∷ [])

-- a member of an object comes after what was written before
pub record AddsMember (key : Text) (value : Data) (old new : Output) : Type 0 where
  pub tokens_are : AddsTokens (json.key key ∷ value_tokens value) old new
  pub reads_back : ReadsBack value

-- one value was written, and nothing else
pub record HasValue (value : Data) (output : Output) : Type 0 where
  pub tokens_are : HasTokens output (value_tokens value)
  pub reads_back : ReadsBack value
