-- Limits that are refused.
use Rattle.std.proofs.Common.{◌≡◌, ℕ, Bool, true, false, List, length, refl, sym, ◌∙◌, ap, arith, Option, Some, None, Result, Ok, Err}
use Rattle.std.specs.Prelude.{is_ok, nat_le, option_map, if◌then◌else◌}
use Rattle.std.specs.Result.{result_ok}
use Rattle.std.specs.Str.Parse.{digits_value}
use Rattle.std.proofs.lemmas.Bool.Decides.{nat_tests}
use Rattle.ar_value.specs.Answer.{◌>>=◌}
use Rattle.ar_manifest.specs.Binding.{RunArguments, bound_text}
use Rattle.ar_manifest.specs.Bound.{bound_limit, is_limit_text, limit_of_number, limit_of_text, most}
use Rattle.ar_manifest.specs.Found.{is_bad_limit, most_shown, refuses_limit, refused_value, text_value}
use Rattle.ar_manifest.specs.Private.Shown.{refused_answer, refused_bound}
use Rattle.ar_manifest.specs.Private.Within.{limit_within, text_within, within}
use Rattle.ar_manifest.specs.Template.{TemplateArguments}
use Rattle.ar_manifest.specs.declared.error.ManifestError.{ManifestError}
use Rattle.ar_manifest.specs.declared.error.ManifestError.TheVariants.{BadLimit}
use Rattle.ar_manifest.specs.declared.found.LimitValue.{LimitValue}
use Rattle.ar_manifest.specs.declared.found.LimitValue.TheVariants as values
use Rattle.ar_manifest.specs.declared.template.Limit.TheVariants as limits
use Rattle.ar_manifest.proofs.Keeping.{long_limit}

-- a limit that is no limit is refused as one
abbrev Refuses : Result ℕ ManifestError → Type 0
Refuses answer = (value : LimitValue) → (if is_ok answer then None else Some value) ≡ (if refuses_limit (answer >>= λ limit. Ok (Some limit)) then Some value else None)

module _ (i : ℕ) where
  number_refuses : (n : ℕ) → Refuses (limit_of_number i n)
  number_refuses n = by (nat_le n most)
    where
      by : (test : Bool) → Refuses (if test then Ok n else Err (BadLimit i))
      by true value = refl
      by false value = refl

  text_refuses : (text : List ℕ) → Refuses (limit_of_text i text)
  unfolding limit_of_text
  text_refuses text = by (is_limit_text text)
    where
      by : (test : Bool) → Refuses (if test then limit_of_number i (digits_value 10 text) else Err (BadLimit i))
      by true value = number_refuses (digits_value 10 text) value
      by false value = refl

  -- a text of more than 256 bytes is no limit
  long_refused : (text : List ℕ) → nat_le (length text) most_shown ≡ false → limit_of_text i text ≡ Err (BadLimit i)
  long_refused text long = long_limit i text (grind (arith, nat_tests, long))

  bound_refused : (text : List ℕ) → refused_bound i (within (Some most_shown) text) ≡ (if refuses_limit (limit_of_text i text >>= λ limit. Ok (Some limit)) then Some (text_value text) else None)
  unfolding refused_bound within limit_within
  bound_refused text = by (nat_le (length text) most_shown) refl
    where
      by : (short : Bool) → nat_le (length text) most_shown ≡ short
          → refused_bound i (if short then Some text else None) ≡ (if refuses_limit (limit_of_text i text >>= λ limit. Ok (Some limit)) then Some (if short then values.Text text else values.LongText) else None)
      by true is = text_refuses text (values.Text text)
      by false is = rw (long_refused text is) refl

neither : (test : Bool) → None ≡ if◌then◌else◌ {A = Option LimitValue} test None None
neither true = refl
neither false = refl

module _ (arguments : TemplateArguments) (own : RunArguments) (i : ℕ) where
  -- a text that is refused is so by what is kept of it
  module _ (text : List ℕ) where
    text_refused : refused_answer i (text_within arguments own i (Some most_shown) text) ≡ refused_value arguments own i (Some (limits.Text text))
    unfolding text_within refused_value bound_limit
    text_refused = by (bound_text arguments own i text)
      where
        by : (answer : Result (List ℕ) ManifestError)
            → refused_answer i (answer >>= λ bound. Ok (within (Some most_shown) bound))
            ≡ (if refuses_limit (answer >>= limit_of_text i >>= λ limit. Ok (Some limit)) then option_map text_value (result_ok answer) else None)
        by (Ok bound) = bound_refused i bound
        by (Err refusal) = neither (is_bad_limit refusal)

    pub refused_as_bound : (bound : Option (List ℕ)) → text_within arguments own i (Some most_shown) text ≡ Ok bound → refused_bound i bound ≡ refused_value arguments own i (Some (limits.Text text))
    refused_as_bound bound is = sym (ap (refused_answer i) is) ∙ text_refused

    pub not_bound : (refusal : ManifestError) → text_within arguments own i (Some most_shown) text ≡ Err refusal → None ≡ refused_value arguments own i (Some (limits.Text text))
    not_bound refusal is = sym (ap (refused_answer i) is) ∙ text_refused
