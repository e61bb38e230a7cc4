-- What helps where a condition has something of another language.
use Rattle.std.specs.Prelude.{Bool, false, [], ◌∷◌, ◌&&◌, ◌||◌, nat_eq, if◌then◌else◌, codes, Option, Some, None}
use Rattle.std.specs.Char.{is_ascii_digit}
use Rattle.std.specs.List.{ends_with, list_all, starts_with}
use Rattle.std.specs.Option.{option_or}
use Rattle.std.specs.Str.{bytes_eq}
use Rattle.ar_value.specs.Terms.{Text}
use Rattle.ar_quote.specs.Tokens.{TokenAt}
use Rattle.ar_syntax.specs.declared.error.SyntaxError.{SyntaxError}
use Rattle.ar_syntax.specs.declared.error.SyntaxError.TheVariants.{BadCharacter, Unexpected, UnknownName}

-- ---- Argo Rollouts' functions

abbrev pub is_conversion : (token : Text) → Bool
is_conversion token = bytes_eq token (codes "asFloat") || bytes_eq token (codes "asInt")

abbrev pub is_float_test : (token : Text) → Bool
is_float_test token = bytes_eq token (codes "isNaN") || bytes_eq token (codes "isInf")

abbrev pub function_hint : (token : Text) → Option Text
function_hint token =
    if is_conversion token then Some (codes "leave it out: the shape says the kind")
    else (if is_float_test token
    then Some
    (codes "NaN is no value here: it is the error NotFinite, which consecutiveErrorLimit counts")
    else None)

-- ---- signs and words

abbrev pub token_hint : (token : Text) → Option Text
token_hint token =
    if bytes_eq token (codes "=") then Some (codes "`==` compares")
    else (if bytes_eq token (codes "`") then Some (codes "a text stands in \"..\" or '..'")
    else (if bytes_eq token (codes "|") then Some (codes "there are no pipes; write calls as len(result)")
    else (if bytes_eq token (codes "matches")
    then Some (codes "there are no regular expressions; contains, startsWith and endsWith compare texts")
    else None)))

abbrev pub comes_after : (sign before : Text) → Bool
comes_after sign before = ends_with nat_eq before sign

abbrev pub token_begins : (sign token : Text) → Bool
token_begins sign token = starts_with nat_eq token sign

-- of a sign that two others make
abbrev pub pair_hint : (before token : Text) → Option Text
pair_hint before token =
    if comes_after (codes "*") before && token_begins (codes "*") token
    then Some (codes "there is no power; write a product")
    else (if comes_after (codes ".") before && token_begins (codes ".") token
    then Some (codes "there are no ranges; write two comparisons")
    else None)

-- of a question mark, by what is after it
abbrev pub question_hint : (after : Text) → Option Text
question_hint after =
    if token_begins (codes "?") after then Some (codes "there is no `??`; default(a, b) is b where a is nil")
    else (if token_begins (codes ".") after then Some (codes "there is no `?.`; test isNil(a) first")
    else None)

-- an exponent's letter, with its digits where they have no sign
abbrev pub is_exponent_part : (token : Text) → Bool
is_exponent_part [] = false
is_exponent_part (letter ∷ digits) = (nat_eq letter 101 || nat_eq letter 69) && list_all is_ascii_digit digits

-- of what continues a number
abbrev pub exponent_hint : (token : Text) → Option Text
exponent_hint token =
    if is_exponent_part token
    then Some (codes "a number has no exponent; write 0.001 in place of 1e-3") else None

abbrev pub sign_hint : (token after : Text) → Option Text
sign_hint token after = if bytes_eq token (codes "?") then question_hint after else exponent_hint token

abbrev pub syntax_hint : SyntaxError → TokenAt → Option Text
syntax_hint (BadCharacter at) here = option_or (token_hint here.token) (sign_hint here.token here.after)
syntax_hint (Unexpected at) here = option_or (token_hint here.token) (pair_hint here.before here.token)
syntax_hint (UnknownName at) here = option_or (function_hint here.token) (token_hint here.token)
syntax_hint error here = None
