-- Worked rows, computed by the definitions alone.
use Rattle.std.proofs.Common.{◌≡◌, [], ◌∷◌, refl, Some, None, Ok, Err, true, false}
use Rattle.std.specs.Prelude.{codes, option_map}
use Rattle.serde_json.specs.Read.{read}
use Rattle.serde_json.proofs.OnLiterals.{serde_json_on_literals}
use Rattle.ar_value.specs.Answer.{each_after}
use Rattle.ar_manifest.specs.Binding.{bound_text, filled, referred_value}
use Rattle.ar_manifest.specs.Bound.{bound_limit, effective_count, limit_of_text}
use Rattle.ar_manifest.specs.Cut.{cut_at, parts_of, parts_within, whole, reference}
use Rattle.ar_manifest.specs.Found.{refused_value, unbound_in}
use Rattle.ar_manifest.specs.Template.{TemplateArguments, argument_of, metric_limits, metric_of, named_metric, template_of}
use Rattle.ar_manifest.specs.declared.error.ManifestError.TheVariants.{BadArgs, OpenBraces, UnknownArg, NoValue, BadLimit, IntervalMissing, WrongKind, Unsupported}
use Rattle.ar_manifest.specs.declared.found.LimitValue.TheVariants as values
use Rattle.ar_manifest.specs.declared.template.Limit.TheVariants as limits

-- ---- texts

-- an argument with a value, one without, and one whose value looks like a reference
abbrev arguments : TemplateArguments
arguments = (codes "threshold", Some (codes "0.95")) ∷ (codes "service", None) ∷ (codes "a", Some (codes "{{args.b}}")) ∷ []

replaced : bound_text arguments [] 0 (codes "result >= {{ args.threshold }}") ≡ Ok (codes "result >= 0.95")
unfolding bound_text filled parts_of parts_within cut_at referred_value
replaced = refl

own_first : bound_text arguments ((codes "threshold", codes "0.9") ∷ []) 0 (codes "{{args.threshold}}") ≡ Ok (codes "0.9")
unfolding bound_text filled parts_of parts_within cut_at referred_value
own_first = refl

not_again : bound_text arguments [] 0 (codes "{{args.a}} {{args.threshold}}") ≡ Ok (codes "{{args.b}} 0.95")
unfolding bound_text filled parts_of parts_within cut_at referred_value
not_again = refl

unknown : bound_text arguments [] 3 (codes "{{args.x}}{{args.y") ≡ Err (UnknownArg 3)
unfolding bound_text filled parts_of parts_within cut_at referred_value
unknown = refl

no_end : bound_text arguments [] 0 (codes "{{args.threshold") ≡ Err (OpenBraces 0)
unfolding bound_text filled parts_of parts_within cut_at referred_value
no_end = refl

no_value : bound_text arguments [] 0 (codes "{{args.service}}") ≡ Err (NoValue 0)
unfolding bound_text filled parts_of parts_within cut_at referred_value
no_value = refl

three_braces : parts_of (codes "a{{{b}}}c}}") ≡ reference (codes "a") (codes "{b") (whole (codes "}c}}"))
unfolding parts_of parts_within cut_at
three_braces = refl

-- ---- limits

greatest : limit_of_text 0 (codes "1000000000") ≡ Ok 1000000000
unfolding limit_of_text
greatest = refl

above_greatest : limit_of_text 0 (codes "1000000001") ≡ Err (BadLimit 0)
unfolding limit_of_text
above_greatest = refl

eleven_digits : limit_of_text 0 (codes "00000000001") ≡ Err (BadLimit 0)
unfolding limit_of_text
eleven_digits = refl

negative : limit_of_text 0 (codes "-1") ≡ Err (BadLimit 0)
unfolding limit_of_text
negative = refl

no_digit : limit_of_text 0 [] ≡ Err (BadLimit 0)
unfolding limit_of_text
no_digit = refl

number_limit : bound_limit arguments [] 0 (Some (limits.Whole 2)) ≡ Ok (Some 2)
unfolding bound_limit
number_limit = refl

number_below : bound_limit arguments [] 0 (Some limits.OtherNumber) ≡ Err (BadLimit 0)
unfolding bound_limit
number_below = refl

-- ---- what is found

first_unbound : unbound_in arguments [] 0 (parts_of (codes "{{args.threshold}} {{ args.service }}{{args.x}}")) ≡ Some (codes "args.service")
unfolding unbound_in parts_of parts_within cut_at referred_value
first_unbound = refl

refused_text : refused_value arguments [] 0 (Some (limits.Text (codes "-{{args.threshold}}"))) ≡ Some (values.Text (codes "-0.95"))
unfolding refused_value bound_limit limit_of_text bound_text filled parts_of parts_within cut_at referred_value
refused_text = refl

unbound_text : refused_value arguments [] 0 (Some (limits.Text (codes "{{args.service}}"))) ≡ None
unfolding refused_value bound_limit limit_of_text bound_text filled parts_of parts_within cut_at referred_value
unbound_text = refl

-- ---- counts

once : effective_count 0 false None ≡ Ok (Some 1)
once = refl

without_end : effective_count 0 true (Some 0) ≡ Ok None
without_end = refl

interval_missing : effective_count 0 false (Some 2) ≡ Err (IntervalMissing 0)
interval_missing = refl

-- ---- documents

other_kind : option_map template_of (read (codes "{\"apiVersion\":\"argoproj.io/v1alpha1\",\"kind\":\"List\"}")) ≡ Some (Err WrongKind)
unfolding template_of serde_json_on_literals
other_kind = refl

unsupported : option_map template_of (read (codes "{\"apiVersion\":\"argoproj.io/v1alpha1\",\"kind\":\"AnalysisTemplate\",\"metadata\":{\"name\":\"t\"},\"spec\":{\"metrics\":[{\"name\":\"m\",\"consecutiveSuccessLimit\":1}]}}"))
    ≡ Some (Err (Unsupported 0))
unfolding template_of each_after metric_of named_metric metric_limits serde_json_on_literals
unsupported = refl

no_value_is_a_number : option_map template_of (read (codes "{\"apiVersion\":\"argoproj.io/v1alpha1\",\"kind\":\"AnalysisTemplate\",\"metadata\":{\"name\":\"t\"},\"spec\":{\"args\":[{\"name\":\"a\"},{\"name\":\"b\",\"value\":1}]}}"))
    ≡ Some (Err (BadArgs 1))
unfolding template_of each_after argument_of serde_json_on_literals
no_value_is_a_number = refl
