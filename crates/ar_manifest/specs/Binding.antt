-- Binding: each `{{args.name}}` in a text is replaced by the argument's value.
use Rattle.std.specs.Prelude.{ℕ, nat_eq, ◌==◌, if◌then◌else◌, List, [], ◌∷◌, ◌++◌, drop, reverse, codes, Option, Some, None, Result, Ok, Err, ◌≡◌, refl}
use Rattle.std.specs.List.{starts_with}
use Rattle.std.specs.Option.{option_or}
use Rattle.ar_value.specs.Terms.{Text}
use Rattle.ar_value.specs.Bytes.{byte_of}
use Rattle.ar_value.specs.Answer.{◌>>=◌, there_or}
use Rattle.ar_manifest.specs.Arguments.{value_of}
use Rattle.ar_manifest.specs.Cut.{Parts, whole, unclosed, reference, cut_at, parts_of, parts_within}
use Rattle.ar_manifest.specs.Template.{TemplateArguments}
use Rattle.ar_manifest.specs.declared.error.ManifestError.{ManifestError}
use Rattle.ar_manifest.specs.declared.error.ManifestError.TheVariants.{OpenBraces, UnknownArg, NoValue}

-- a run's own arguments
abbrev pub RunArguments : Type 0
RunArguments = List (Text × Text)

-- a text without the spaces at its front
abbrev pub without_leading_spaces : Text → Text
without_leading_spaces [] = []
without_leading_spaces (byte ∷ text) = if byte == byte_of (codes " ") then without_leading_spaces text else byte ∷ text

abbrev pub without_trailing_spaces : Text → Text
without_trailing_spaces text = reverse (without_leading_spaces (reverse text))

-- what is in braces, without the spaces next to them
abbrev pub trimmed : Text → Text
trimmed between = without_trailing_spaces (without_leading_spaces between)

-- the name in `args.name`
abbrev pub argument_name : Text → Option Text
argument_name text = if starts_with nat_eq text (codes "args.") then Some (drop 5 text) else None

-- The value of what is in braces: it has to be `args.` and a name of the template's arguments; the run's own value
-- takes precedence over the template's. The number is the metric's.
unfoldable pub referred_value : TemplateArguments → RunArguments → ℕ → Text → Result Text ManifestError
referred_value arguments own i between = do
  name ← there_or (UnknownArg i) (argument_name (trimmed between))
  value ← there_or (UnknownArg i) (value_of name arguments)
  there_or (NoValue i) (option_or (value_of name own) value)

-- parts, with its value for each reference; a value isn't searched again
unfoldable pub filled : TemplateArguments → RunArguments → ℕ → Parts → Result Text ManifestError
filled arguments own i (whole text) = Ok text
filled arguments own i (unclosed before) = Err (OpenBraces i)
filled arguments own i (reference before between parts) = do
  value ← referred_value arguments own i between
  later ← filled arguments own i parts
  Ok (before ++ (value ++ later))

-- a text of metric i, bound
unfoldable pub bound_text : TemplateArguments → RunArguments → ℕ → Text → Result Text ManifestError
bound_text arguments own i text = filled arguments own i (parts_of text)

-- ---- worked rows

of_the_template : bound_text ((codes "max", Some (codes "5")) ∷ []) [] 0 (codes "result < {{args.max}}")
    ≡ Ok (codes "result < 5")
unfolding bound_text filled referred_value parts_of parts_within cut_at
of_the_template = refl

of_the_run : bound_text ((codes "max", Some (codes "5")) ∷ []) ((codes "max", codes "7") ∷ []) 0
    (codes "result < {{ args.max }}")
    ≡ Ok (codes "result < 7")
unfolding bound_text filled referred_value parts_of parts_within cut_at
of_the_run = refl

no_such_argument : bound_text [] [] 0 (codes "{{args.max}}") ≡ Err (UnknownArg 0)
unfolding bound_text filled referred_value parts_of parts_within cut_at
no_such_argument = refl

left_open : bound_text [] [] 0 (codes "result < {{args.max") ≡ Err (OpenBraces 0)
unfolding bound_text filled referred_value parts_of parts_within cut_at
left_open = refl
