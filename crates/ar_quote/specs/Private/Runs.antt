-- What bytes a token may continue with.
use Rattle.std.specs.Prelude.{ℕ, Bool}
use Rattle.ar_quote.specs.Tokens.{is_inner, is_of_number, is_of_word}
use Rattle.ar_quote.specs.declared.tokens.Run.{Run}
use Rattle.ar_quote.specs.declared.tokens.Run.TheVariants.{Word, Number, Character}

abbrev pub continues : Run → (byte : ℕ) → Bool
continues Word byte = is_of_word byte
continues Number byte = is_of_number byte
continues Character byte = is_inner byte
