-- Refusals of texts: their names, and the byte at which a text stops being a condition.
use Rattle.std.specs.Prelude.{ℕ, codes, Option, Some, None}
use Rattle.ar_value.specs.Limits.{most_text_bytes}
use Rattle.ar_value.specs.Terms.{Text}
use Rattle.ar_syntax.specs.declared.error.SyntaxError.{SyntaxError}
use Rattle.ar_syntax.specs.declared.error.SyntaxError.TheVariants.{TooLong, BadCharacter, OpenText, OpenComment, BadEscape, LiteralTooFine, NumberTooLarge, Unexpected, UnknownName, WrongCount, ItemOutside, TooManyItems, TooDeep, OutOfMemory}

-- a text that is too long is so at the first byte that is too many
abbrev pub syntax_refused_at : SyntaxError → Option ℕ
syntax_refused_at TooLong = Some most_text_bytes
syntax_refused_at (BadCharacter at) = Some at
syntax_refused_at (OpenText at) = Some at
syntax_refused_at (OpenComment at) = Some at
syntax_refused_at (BadEscape at) = Some at
syntax_refused_at (LiteralTooFine at) = Some at
syntax_refused_at (NumberTooLarge at) = Some at
syntax_refused_at (Unexpected at) = Some at
syntax_refused_at (UnknownName at) = Some at
syntax_refused_at (WrongCount at) = Some at
syntax_refused_at (ItemOutside at) = Some at
syntax_refused_at (TooManyItems at) = Some at
syntax_refused_at (TooDeep at) = Some at
syntax_refused_at OutOfMemory = None

abbrev pub syntax_error_name : SyntaxError → Text
syntax_error_name TooLong = codes "TooLong"
syntax_error_name (BadCharacter at) = codes "BadCharacter"
syntax_error_name (OpenText at) = codes "OpenText"
syntax_error_name (OpenComment at) = codes "OpenComment"
syntax_error_name (BadEscape at) = codes "BadEscape"
syntax_error_name (LiteralTooFine at) = codes "LiteralTooFine"
syntax_error_name (NumberTooLarge at) = codes "NumberTooLarge"
syntax_error_name (Unexpected at) = codes "Unexpected"
syntax_error_name (UnknownName at) = codes "UnknownName"
syntax_error_name (WrongCount at) = codes "WrongCount"
syntax_error_name (ItemOutside at) = codes "ItemOutside"
syntax_error_name (TooManyItems at) = codes "TooManyItems"
syntax_error_name (TooDeep at) = codes "TooDeep"
syntax_error_name OutOfMemory = codes "OutOfMemory"
