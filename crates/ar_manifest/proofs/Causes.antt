-- What is found where binding is refused.
use Rattle.std.proofs.Common.{◌≡◌, ◌+◌, ℕ, zero, suc, Bool, true, false, List, [], ◌∷◌, ◌++◌, length, map, refl, subst, arith, Option, Some, None, Result, Ok, Err}
use Rattle.std.specs.Prelude.{is_ok, is_some, nat_le, nat_lt, not, ◌&&◌, option_and_then, option_map, slice_get, if◌then◌else◌, IsSome}
use Rattle.std.specs.Option.{option_or}
use Rattle.std.specs.Result.{result_ok}
use Rattle.std.specs.Str.Parse.{digits_value}
use Rattle.std.proofs.lemmas.List.{length-append}
use Rattle.ar_value.specs.Answer.{◌>>=◌, each_after, there_or}
use Rattle.ar_manifest.specs.Arguments.{value_of}
use Rattle.ar_manifest.specs.Binding.{RunArguments, argument_name, bound_text, filled, referred_value, trimmed}
use Rattle.ar_manifest.specs.Bound.{bound_condition, bound_limit, bound_metric, bound_of, effective_count, is_limit_text, limit_of_number, limit_of_text, most, next_bound}
use Rattle.ar_manifest.specs.Cut.{Parts, whole, unclosed, reference, parts_of}
use Rattle.ar_manifest.specs.Found.{fields, first_some, limit_at, limit_text, refused_in_field, refused_in_metric, refused_limit, refused_value, refuses_limit, text_value, texts_of, unbound_in, unbound_in_metric, unbound_in_text, unbound_reference}
use Rattle.ar_manifest.specs.Template.{TemplateArguments}
use Rattle.ar_manifest.specs.declared.bound.BoundMetric.{BoundMetric}
use Rattle.ar_manifest.specs.declared.error.ManifestError.{ManifestError}
use Rattle.ar_manifest.specs.declared.error.ManifestError.TheVariants.{UnknownArg, NoValue, BadLimit, IntervalMissing}
use Rattle.ar_manifest.specs.declared.found.LimitField.{LimitField}
use Rattle.ar_manifest.specs.declared.found.LimitField.TheVariants.{Count, Failure, Inconclusive, ConsecutiveError}
use Rattle.ar_manifest.specs.declared.found.LimitValue.{LimitValue}
use Rattle.ar_manifest.specs.declared.found.LimitValue.TheVariants as values
use Rattle.ar_manifest.specs.declared.template.Limit.{Limit}
use Rattle.ar_manifest.specs.declared.template.Limit.TheVariants as limits
use Rattle.ar_manifest.specs.declared.template.Metric.{Metric}
use Rattle.ar_manifest.specs.declared.template.Template.{Template}

-- A refusal of metric i for a reference's value or a limit has one that is found. The booleans say whether one is.
abbrev Explains : (unbound refused : Bool) → ℕ → ManifestError → Type 0
Explains unbound refused i (UnknownArg n) = (n ≡ i) × (unbound ≡ true)
Explains unbound refused i (NoValue n) = (n ≡ i) × (unbound ≡ true)
Explains unbound refused i (BadLimit n) = (n ≡ i) × (refused ≡ true)
Explains unbound refused i refusal = Unit {0}

abbrev Explained : {A : Type 0} → (unbound refused : Bool) → ℕ → Result A ManifestError → Type 0
Explained unbound refused i (Ok x) = Unit {0}
Explained unbound refused i (Err refusal) = Explains unbound refused i refusal

explained_next : {A B : Type 0} (unbound refused : Bool) (i : ℕ) (first : Result A ManifestError) (next : A → Result B ManifestError)
    → Explained unbound refused i first → ((x : A) → Explained unbound refused i (next x)) → Explained unbound refused i (first >>= next)
explained_next unbound refused i (Ok x) next is later = later x
explained_next unbound refused i (Err refusal) next is later = is

explained_there : {A : Type 0} (unbound refused : Bool) (i : ℕ) (refusal : ManifestError) (found : Option A)
    → Explains unbound refused i refusal → Explained unbound refused i (there_or refusal found)
explained_there unbound refused i refusal None is = is
explained_there unbound refused i refusal (Some x) is = tt

module _ (arguments : TemplateArguments) (own : RunArguments) (i : ℕ) (unbound refused : Bool) where
  -- ---- references

  value_explained : (between : List ℕ) → unbound ≡ true → Explained unbound refused i (referred_value arguments own i between)
  unfolding referred_value
  value_explained between is =
      explained_next unbound refused i (there_or (UnknownArg i) (argument_name (trimmed between))) _ (explained_there unbound refused i (UnknownArg i) (argument_name (trimmed between)) (refl, is)) (λ name.
      explained_next unbound refused i (there_or (UnknownArg i) (value_of name arguments)) _ (explained_there unbound refused i (UnknownArg i) (value_of name arguments) (refl, is)) (λ value.
      explained_there unbound refused i (NoValue i) (option_or (value_of name own) value) (refl, is)))

  parts_explained : (parts : Parts) → (is_some (unbound_in arguments own i parts) ≡ true → unbound ≡ true) → Explained unbound refused i (filled arguments own i parts)
  unfolding filled unbound_in
  parts_explained (whole text) found = tt
  parts_explained (unclosed before) found = tt
  parts_explained (reference before between parts) found = by (referred_value arguments own i between) refl (parts_explained parts) found
    where
      by : (answer : Result (List ℕ) ManifestError) → referred_value arguments own i between ≡ answer
          → ((is_some (unbound_in arguments own i parts) ≡ true → unbound ≡ true) → Explained unbound refused i (filled arguments own i parts))
          → (is_some (if is_ok answer then unbound_in arguments own i parts else Some (trimmed between)) ≡ true → unbound ≡ true)
          → Explained unbound refused i (answer >>= λ value. filled arguments own i parts >>= λ rest. Ok (before ++ (value ++ rest)))
      by (Ok value) is later found = explained_next unbound refused i (filled arguments own i parts) _ (later found) (λ rest. tt)
      by (Err refusal) is later found = subst (Explained unbound refused i) is (value_explained between (found refl))

  condition_explained : (condition : Option (List ℕ)) → (is_some (unbound_in_text arguments own i condition) ≡ true → unbound ≡ true)
      → Explained unbound refused i (bound_condition arguments own i condition)
  unfolding bound_condition bound_text
  condition_explained None found = tt
  condition_explained (Some text) found = explained_next unbound refused i (filled arguments own i (parts_of text)) _ (parts_explained (parts_of text) found) (λ bound. tt)

  -- ---- limits

  abbrev LimitExplained : Result ℕ ManifestError → Type 0
  LimitExplained answer =
      (value : LimitValue) → (is_some (if refuses_limit (answer >>= λ limit. Ok (Some limit)) then Some value else None) ≡ true → refused ≡ true)
      → Explained unbound refused i (answer >>= λ limit. Ok (Some limit))

  number_explained : (n : ℕ) → LimitExplained (limit_of_number i n)
  number_explained n = by (nat_le n most)
    where
      by : (test : Bool) → LimitExplained (if test then Ok n else Err (BadLimit i))
      by true value found = tt
      by false value found = (refl, found refl)

  text_explained : (text : List ℕ) → LimitExplained (limit_of_text i text)
  unfolding limit_of_text
  text_explained text = by (is_limit_text text)
    where
      by : (test : Bool) → LimitExplained (if test then limit_of_number i (digits_value 10 text) else Err (BadLimit i))
      by true value found = number_explained (digits_value 10 text) value found
      by false value found = (refl, found refl)

  limit_explained : (limit : Option Limit) → (is_some (unbound_in_text arguments own i (limit_text limit)) ≡ true → unbound ≡ true)
      → (is_some (refused_value arguments own i limit) ≡ true → refused ≡ true) → Explained unbound refused i (bound_limit arguments own i limit)
  unfolding bound_limit refused_value bound_text
  limit_explained None without found = tt
  limit_explained (Some (limits.Whole n)) without found = number_explained n (values.Whole n) found
  limit_explained (Some limits.OtherNumber) without found = (refl, found refl)
  limit_explained (Some (limits.Text text)) without found = by (filled arguments own i (parts_of text)) refl found
    where
      by : (answer : Result (List ℕ) ManifestError) → filled arguments own i (parts_of text) ≡ answer
          → (is_some (if refuses_limit (answer >>= limit_of_text i >>= λ limit. Ok (Some limit)) then option_map text_value (result_ok answer) else None) ≡ true → refused ≡ true)
          → Explained unbound refused i (answer >>= limit_of_text i >>= λ limit. Ok (Some limit))
      by (Ok bound) is found = text_explained bound (text_value bound) found
      by (Err refusal) is found = subst (Explained unbound refused i) is (parts_explained (parts_of text) without)

  count_explained : (has_interval : Bool) (count : Option ℕ) → Explained unbound refused i (effective_count i has_interval count)
  count_explained has_interval None = tt
  count_explained has_interval (Some zero) = tt
  count_explained has_interval (Some (suc n)) = by (nat_lt 1 (suc n) && not has_interval)
    where
      by : (test : Bool) → Explained unbound refused i (if◌then◌else◌ {A = Result (Option ℕ) ManifestError} test (Err (IntervalMissing i)) (Ok (Some (suc n))))
      by true = tt
      by false = tt

-- ---- metrics

-- one of some is there
module _ {A : Type 0} where
  first_there : (found rest : Option A) → is_some found ≡ true → is_some (option_or found rest) ≡ true
  first_there None rest is = absurd (cc)
  first_there (Some x) rest is = refl

  there_at : (n : ℕ) (list : List (Option A)) (one : Option A) → slice_get list n ≡ Some one → is_some one ≡ true → is_some (first_some list) ≡ true
  there_at n [] one at is = absurd (cc)
  there_at zero (found ∷ rest) one at is = let same : found ≡ one = cc in first_there found (first_some rest) (rw same is)
  there_at (suc n) (None ∷ rest) one at is = there_at n rest one at is
  there_at (suc n) (Some x ∷ rest) one at is = refl

mapped_there : {A B : Type 0} → (f : A → B) (found : Option A) → is_some found ≡ true → is_some (option_map f found) ≡ true
mapped_there f None is = absurd (cc)
mapped_there f (Some x) is = refl

module _ (arguments : TemplateArguments) (own : RunArguments) where
  module _ (i : ℕ) (metric : Metric) where
    abbrev unbound : Bool
    unbound = is_some (unbound_in_metric arguments own i metric)

    abbrev refused : Bool
    refused = is_some (refused_in_metric arguments own i metric)

    text_there : (n : ℕ) (one : Option (List ℕ)) → slice_get (map (unbound_in_text arguments own i) (texts_of metric)) n ≡ Some one → is_some one ≡ true → unbound ≡ true
    text_there n one = there_at n (map (unbound_in_text arguments own i) (texts_of metric)) one

    limit_there : (n : ℕ) (field : LimitField) → slice_get (map (refused_in_field arguments own i metric.limits) fields) n ≡ Some (refused_in_field arguments own i metric.limits field)
        → is_some (refused_value arguments own i (limit_at metric.limits field)) ≡ true → refused ≡ true
    limit_there n field at is =
        there_at n (map (refused_in_field arguments own i metric.limits) fields) (refused_in_field arguments own i metric.limits field) at (mapped_there _ (refused_value arguments own i (limit_at metric.limits field)) is)

    metric_explained : Explained unbound refused i (bound_metric arguments own i metric)
    unfolding bound_metric
    metric_explained =
        explained_next unbound refused i (bound_condition arguments own i metric.success_condition) _ (condition_explained arguments own i unbound refused metric.success_condition (text_there 0 _ refl)) (λ success.
        explained_next unbound refused i (bound_condition arguments own i metric.failure_condition) _ (condition_explained arguments own i unbound refused metric.failure_condition (text_there 1 _ refl)) (λ failure.
        explained_next unbound refused i (bound_limit arguments own i metric.limits.count) _ (limit_explained arguments own i unbound refused metric.limits.count (text_there 2 _ refl) (limit_there 0 Count refl)) (λ count.
        explained_next unbound refused i (bound_limit arguments own i metric.limits.failure) _ (limit_explained arguments own i unbound refused metric.limits.failure (text_there 3 _ refl) (limit_there 1 Failure refl)) (λ failures.
        explained_next unbound refused i (bound_limit arguments own i metric.limits.inconclusive) _ (limit_explained arguments own i unbound refused metric.limits.inconclusive (text_there 4 _ refl) (limit_there 2 Inconclusive refl)) (λ inconclusive.
        explained_next unbound refused i (bound_limit arguments own i metric.limits.consecutive_error) _ (limit_explained arguments own i unbound refused metric.limits.consecutive_error (text_there 5 _ refl) (limit_there 3 ConsecutiveError refl)) (λ error.
        explained_next unbound refused i (effective_count i metric.has_interval count) _ (count_explained arguments own i unbound refused metric.has_interval count) (λ effective. tt)))))))

  -- a refusal of metrics, of which the first is metric n, is one of the metric at an index j
  abbrev IsOfOne : ℕ → List Metric → ManifestError → Type 0
  IsOfOne n metrics refusal =
      (j : ℕ) × (i : ℕ) × (i ≡ n + j)
      × Explains (is_some (option_and_then (unbound_in_metric arguments own i) (slice_get metrics j))) (is_some (option_and_then (refused_in_metric arguments own i) (slice_get metrics j))) i refusal

  each_explained : (earlier : List BoundMetric) (metrics : List Metric) (refusal : ManifestError) → each_after (next_bound arguments own) earlier metrics ≡ Err refusal → IsOfOne (length earlier) metrics refusal
  unfolding each_after
  each_explained earlier [] refusal is = absurd (cc)
  each_explained earlier (metric ∷ metrics) refusal is =
      by (bound_metric arguments own (length earlier) metric) refl (λ made. each_explained (earlier ++ made ∷ []) metrics refusal) is
    where
      by : (answer : Result BoundMetric ManifestError) → bound_metric arguments own (length earlier) metric ≡ answer
          → ((made : BoundMetric) → each_after (next_bound arguments own) (earlier ++ made ∷ []) metrics ≡ Err refusal → IsOfOne (length (earlier ++ made ∷ [])) metrics refusal)
          → (answer >>= λ made. each_after (next_bound arguments own) (earlier ++ made ∷ []) metrics) ≡ Err refusal → IsOfOne (length earlier) (metric ∷ metrics) refusal
      by (Ok made) given later is =
          let one = later made is in
          (suc one.0, one.1, omega (arith, one.2, length-append earlier (made ∷ [])), one.3)
      by (Err fault) given later is =
          let same : fault ≡ refusal = cc in
          let explained = subst (Explained (unbound (length earlier) metric) (refused (length earlier) metric) (length earlier)) given (metric_explained (length earlier) metric) in
          (0, length earlier, omega arith, subst (Explains (unbound (length earlier) metric) (refused (length earlier) metric) (length earlier)) same explained)

-- ---- templates

module _ (template : Template) (own : RunArguments) where
  refused_one : (refusal : ManifestError) → bound_of template own ≡ Err refusal → IsOfOne template.arguments own 0 template.metrics refusal
  unfolding bound_of
  refused_one refusal = each_explained template.arguments own [] template.metrics refusal

  reference_at : (i j n : ℕ) → i ≡ n → n ≡ 0 + j → is_some (option_and_then (unbound_in_metric template.arguments own n) (slice_get template.metrics j)) ≡ true → is_some (unbound_reference template own i) ≡ true
  unfolding unbound_reference
  reference_at i j n number index some =
      let same : j ≡ n = omega (arith, index) in
      let there = rw same at some in
      rw number there

  limit_at_number : (i j n : ℕ) → i ≡ n → n ≡ 0 + j → is_some (option_and_then (refused_in_metric template.arguments own n) (slice_get template.metrics j)) ≡ true → is_some (refused_limit template own i) ≡ true
  unfolding refused_limit
  limit_at_number i j n number index some =
      let same : j ≡ n = omega (arith, index) in
      let there = rw same at some in
      rw number there

  module _ (i : ℕ) where
    pub unknown_found : bound_of template own ≡ Err (UnknownArg i) → IsSome (unbound_reference template own i)
    unknown_found is = let one = refused_one (UnknownArg i) is in reference_at i one.0 one.1 one.3.0 one.2 one.3.1

    pub no_value_found : bound_of template own ≡ Err (NoValue i) → IsSome (unbound_reference template own i)
    no_value_found is = let one = refused_one (NoValue i) is in reference_at i one.0 one.1 one.3.0 one.2 one.3.1

    pub bad_limit_found : bound_of template own ≡ Err (BadLimit i) → IsSome (refused_limit template own i)
    bad_limit_found is = let one = refused_one (BadLimit i) is in limit_at_number i one.0 one.1 one.3.0 one.2 one.3.1
