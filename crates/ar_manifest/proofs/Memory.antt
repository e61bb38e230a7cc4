-- Which refusals are defined where: none is out of memory; those of a whole document precede the check of its parts.
use Rattle.std.proofs.Common.{◌≡◌, ◌≢◌, ℕ, zero, suc, Bool, true, false, List, [], ◌∷◌, ◌++◌, length, Option, Some, None, Result, Ok, Err, ap, cond}
use Rattle.std.specs.Prelude.{◌↔◌, ◌&&◌, codes, option_and_then, is_none, nat_le, nat_lt, not}
use Rattle.std.specs.List.{list_any}
use Rattle.std.specs.Option.{option_or}
use Rattle.serde_json.specs.Data.{Data, null, boolean, number, string, array, object}
use Rattle.ar_value.specs.Answer.{◌>>=◌, Gives, Unless, each_after, holds_or, there_or}
use Rattle.ar_value.specs.Limits.{most_metrics}
use Rattle.ar_manifest.specs.Refusals.{is_memory}
use Rattle.ar_manifest.specs.Arguments.{value_of}
use Rattle.ar_manifest.specs.Binding.{RunArguments, argument_name, bound_text, filled, referred_value, trimmed}
use Rattle.ar_manifest.specs.Bound.{bound_condition, bound_limit, bound_metric, bound_of, effective_count, is_limit_text, limit_of_number, limit_of_text, most, next_bound}
use Rattle.ar_manifest.specs.Cut.{Parts, whole, unclosed, reference, parts_of}
use Rattle.ar_json.specs.Members.{list_of, member, member_of_member, text_member, text_or, unless_empty}
use Rattle.ar_manifest.specs.DryRun.{dry_name, dry_names, names_metric, with_dry_run}
use Rattle.ar_manifest.specs.Private.Early.{first_counted}
use Rattle.ar_manifest.specs.Template.{TemplateArguments, argument_of, arguments_of, metrics_counted, counted_metrics, has_text_or, head_of, is_kind, is_named, is_text, limit_or, metric_limits, metric_of, named_metric, new_name, template_name, template_of}
use Rattle.ar_manifest.specs.declared.error.ManifestError.{ManifestError}
use Rattle.ar_manifest.specs.declared.error.ManifestError.TheVariants.{WrongVersion, WrongKind, NameMissing, BadArgs, NoMetrics, TooManyMetrics, MetricNameMissing, DoubleMetric, BadField, Unsupported, BadDryRun, UnknownDryRun, UnknownArg, NoValue, BadLimit, IntervalMissing, OutOfMemory}
use Rattle.ar_manifest.specs.declared.template.Limit.{Limit}
use Rattle.ar_manifest.specs.declared.template.Limit.TheVariants as limits
use Rattle.ar_manifest.specs.declared.template.Metric.{Metric}
use Rattle.ar_manifest.specs.declared.template.Template.{Template}

-- a refusal of an argument, of a metric or of `dryRun`
abbrev pub IsOfPart : ManifestError → Type 0
IsOfPart WrongVersion = ⊥
IsOfPart WrongKind = ⊥
IsOfPart NameMissing = ⊥
IsOfPart NoMetrics = ⊥
IsOfPart TooManyMetrics = ⊥
IsOfPart OutOfMemory = ⊥
IsOfPart refusal = Unit {0}

-- an answer is no other refusal
abbrev pub Judges : {A : Type 0} → Result A ManifestError → Type 0
Judges (Ok x) = Unit {0}
Judges (Err refusal) = IsOfPart refusal

judges_then : {A B : Type 0} (first : Result A ManifestError) (next : A → Result B ManifestError) → Judges first → ((x : A) → Judges (next x)) → Judges (first >>= next)
judges_then (Ok x) next first-is next-is = next-is x
judges_then (Err refusal) next first-is next-is = first-is

judges_there : {A : Type 0} (refusal : ManifestError) (found : Option A) → IsOfPart refusal → Judges (there_or refusal found)
judges_there refusal None is = is
judges_there refusal (Some x) is = tt

judges_holds : (refusal : ManifestError) (fact : Bool) → IsOfPart refusal → Judges (holds_or refusal fact)
judges_holds refusal false is = is
judges_holds refusal true is = tt

judges_each : {A B : Type 0} (step : List B → A → Result B ManifestError) → ((earlier : List B) (item : A) → Judges (step earlier item)) → (earlier : List B) (items : List A) → Judges (each_after step earlier items)
unfolding each_after
judges_each step step-is earlier [] = tt
judges_each step step-is earlier (item ∷ items) = judges_then (step earlier item) _ (step-is earlier item) (λ made. judges_each step step-is (earlier ++ made ∷ []) items)

judges_text : (refusal : ManifestError) (found : Option Data) → IsOfPart refusal → Judges (text_or refusal found)
judges_text refusal None is = tt
judges_text refusal (Some null) is = is
judges_text refusal (Some (boolean b)) is = is
judges_text refusal (Some (number n)) is = is
judges_text refusal (Some (string text)) is = tt
judges_text refusal (Some (array ds)) is = is
judges_text refusal (Some (object ms)) is = is

judges_limit : (refusal : ManifestError) (found : Option Data) → IsOfPart refusal → Judges (limit_or refusal found)
judges_limit refusal None is = tt
judges_limit refusal (Some null) is = is
judges_limit refusal (Some (boolean b)) is = is
judges_limit refusal (Some (number n)) is = tt
judges_limit refusal (Some (string text)) is = tt
judges_limit refusal (Some (array ds)) is = is
judges_limit refusal (Some (object ms)) is = is

argument_judges : (earlier : TemplateArguments) (d : Data) → Judges (argument_of earlier d)
unfolding argument_of
argument_judges earlier d =
    judges_then (there_or (BadArgs (length earlier)) (text_member (codes "name") d)) _ (judges_there _ (text_member (codes "name") d) tt) (λ name.
    judges_then (holds_or (BadArgs (length earlier)) (is_none (value_of name earlier))) _ (judges_holds _ (is_none (value_of name earlier)) tt) (λ new.
    judges_then (text_or (BadArgs (length earlier)) (member (codes "value") d)) _ (judges_text _ (member (codes "value") d) tt) (λ value. tt)))

arguments_judge : (found : Option Data) → Judges (arguments_of found)
arguments_judge None = tt
arguments_judge (Some d) = judges_then (there_or (BadArgs 0) (list_of d)) _ (judges_there _ (list_of d) tt) (judges_each argument_of argument_judges [])

limits_judge : (i : ℕ) (d : Data) → Judges (metric_limits i d)
unfolding metric_limits
limits_judge i d =
    judges_then (limit_or (BadField i) (member (codes "count") d)) _ (judges_limit _ (member (codes "count") d) tt) (λ count.
    judges_then (limit_or (BadField i) (member (codes "failureLimit") d)) _ (judges_limit _ (member (codes "failureLimit") d) tt) (λ failure.
    judges_then (limit_or (BadField i) (member (codes "inconclusiveLimit") d)) _ (judges_limit _ (member (codes "inconclusiveLimit") d) tt) (λ inconclusive.
    judges_then (limit_or (BadField i) (member (codes "consecutiveErrorLimit") d)) _ (judges_limit _ (member (codes "consecutiveErrorLimit") d) tt) (λ error. tt))))

named_judges : (i : ℕ) (name : List ℕ) (d : Data) → Judges (named_metric i name d)
unfolding named_metric
named_judges i name d =
    judges_then (text_or (BadField i) (member (codes "successCondition") d)) _ (judges_text _ (member (codes "successCondition") d) tt) (λ success.
    judges_then (text_or (BadField i) (member (codes "failureCondition") d)) _ (judges_text _ (member (codes "failureCondition") d) tt) (λ failure.
    judges_then (has_text_or (BadField i) (member (codes "interval") d)) _ (judges_then (text_or (BadField i) (member (codes "interval") d)) _ (judges_text _ (member (codes "interval") d) tt) (λ text. tt)) (λ interval.
    judges_then (metric_limits i d) _ (limits_judge i d) (λ limits. tt))))

name_judges : (earlier : List Metric) (d : Data) → Judges (new_name earlier d)
name_judges earlier d =
    judges_then (there_or (MetricNameMissing (length earlier)) (text_member (codes "name") d)) _ (judges_there _ (text_member (codes "name") d) tt) (λ name.
    judges_then (holds_or (DoubleMetric (length earlier)) (not (list_any (is_named name) earlier))) _ (judges_holds _ (not (list_any (is_named name) earlier)) tt) (λ new. tt))

metric_judges : (earlier : List Metric) (d : Data) → Judges (metric_of earlier d)
unfolding metric_of
metric_judges earlier d =
    judges_then (new_name earlier d) _ (name_judges earlier d) (λ name.
    judges_then (named_metric (length earlier) name d) _ (named_judges (length earlier) name d) (λ metric.
    judges_then (holds_or (Unsupported (length earlier)) (is_none (member (codes "consecutiveSuccessLimit") d))) _ (judges_holds _ (is_none (member (codes "consecutiveSuccessLimit") d)) tt) (λ supported. tt)))

judges_cond : {A : Type 0} (test : Bool) (held failed : Result A ManifestError) → Judges held → Judges failed → Judges (cond test held failed)
judges_cond true held failed held-is failed-is = held-is
judges_cond false held failed held-is failed-is = failed-is

-- a refusal of two steps that the second never gives is one of the first
of_first : {A B : Type 0} (refusal : ManifestError) (first : Result A ManifestError) (next : A → Result B ManifestError) → ((x : A) → next x ≢ Err refusal)
    → (first >>= next) ≡ Err refusal → first ≡ Err refusal
of_first refusal (Ok x) next never e = absurd (never x e)
of_first refusal (Err other) next never e = let same : other ≡ refusal = cc in ap (λ fault. Err fault) same

dry_name_judges : (metrics : List Metric) (earlier : List (List ℕ)) (d : Data) → Judges (dry_name metrics earlier d)
unfolding dry_name
dry_name_judges metrics earlier d =
    let i = length earlier in
    judges_then (there_or (BadDryRun i) (option_and_then unless_empty (text_member (codes "metricName") d))) _ (judges_there _ (option_and_then unless_empty (text_member (codes "metricName") d)) tt) (λ name.
    judges_then (holds_or (UnknownDryRun i) (list_any (names_metric name) metrics)) _ (judges_holds _ (list_any (names_metric name) metrics) tt) (λ known. tt))

dry_names_judge : (metrics : List Metric) (found : Option Data) → Judges (dry_names metrics found)
dry_names_judge metrics None = tt
dry_names_judge metrics (Some d) =
    judges_then (there_or (BadDryRun 0) (list_of d)) _ (judges_there _ (list_of d) tt) (λ list. judges_each (dry_name metrics) (dry_name_judges metrics) [] list)

dry_run_judges : (found : Option Data) (metrics : List Metric) → Judges (with_dry_run found metrics)
dry_run_judges found metrics = judges_then (dry_names metrics found) _ (dry_names_judge metrics found) (λ names. tt)

-- what is at `spec.args` and `spec.metrics`
abbrev spec_arguments : Data → Option Data
spec_arguments d = member_of_member (codes "spec") (codes "args") d

abbrev spec_metrics : Data → Option Data
spec_metrics d = member_of_member (codes "spec") (codes "metrics") d

-- a template, once its metrics are counted
abbrev after_items : Data → List ℕ → TemplateArguments → List Data → Result Template ManifestError
after_items d name arguments items = do
  metrics ← each_after metric_of [] items
  marked ← with_dry_run (member_of_member (codes "spec") (codes "dryRun") d) metrics
  Ok (record { name = name; arguments = arguments; metrics = marked })

module _ (refusal : ManifestError) (other : IsOfPart refusal → ⊥) where
  never : {A : Type 0} (answer : Result A ManifestError) → Judges answer → answer ≢ Err refusal
  never answer judges e = other (rw e at judges)

  module _ (d : Data) where
    -- after the number of metrics only parts are refused
    after_judges : (name : List ℕ) (arguments : TemplateArguments) (items : List Data) → Judges (after_items d name arguments items)
    after_judges name arguments items =
        judges_then (each_after metric_of [] items) _ (judges_each metric_of metric_judges [] items) (λ metrics.
        judges_then (with_dry_run (member_of_member (codes "spec") (codes "dryRun") d) metrics) _ (dry_run_judges (member_of_member (codes "spec") (codes "dryRun") d) metrics) (λ marked. tt))

    by_arguments : (name : List ℕ) (found : Result TemplateArguments ManifestError) → Judges found
        → (found >>= λ arguments. counted_metrics (spec_metrics d) >>= after_items d name arguments) ≡ Err refusal
        → counted_metrics (spec_metrics d) ≡ Err refusal
    by_arguments name (Ok arguments) judges e = of_first refusal (counted_metrics (spec_metrics d)) (after_items d name arguments) (λ items. never (after_items d name arguments items) (after_judges name arguments items)) e
    by_arguments name (Err fault) judges e = let same : fault ≡ refusal = cc in absurd (other (rw same at judges))

    by_head : (head : Result (List ℕ) ManifestError)
        → (head >>= λ name. arguments_of (spec_arguments d) >>= λ arguments. counted_metrics (spec_metrics d) >>= after_items d name arguments) ≡ Err refusal
        → (head >>= λ name. counted_metrics (spec_metrics d)) ≡ Err refusal
    by_head (Ok name) e = by_arguments name (arguments_of (spec_arguments d)) (arguments_judge (spec_arguments d)) e
    by_head (Err fault) e = let same : fault ≡ refusal = cc in ap (λ refused. Err refused) same

    -- what no part is refused as is found before any is examined
    early : template_of d ≡ Err refusal → first_counted d ≡ Err refusal
    unfolding template_of
    early e = by_head (head_of d) e

-- a refusal of the number of metrics
abbrev IsOfCount : ManifestError → Type 0
IsOfCount NoMetrics = Unit {0}
IsOfCount TooManyMetrics = Unit {0}
IsOfCount refusal = ⊥

counted_is : (found : Option Data) (refusal : ManifestError) → (IsOfCount refusal → ⊥) → counted_metrics found ≢ Err refusal
counted_is found refusal other e = by_list (option_and_then list_of found) e
  where
    by_list : (list : Option (List Data)) → (there_or NoMetrics list >>= metrics_counted) ≡ Err refusal → ⊥
    by_list None e = let same : refusal ≡ NoMetrics = cc in other (rw same tt)
    by_list (Some []) e = let same : refusal ≡ NoMetrics = cc in other (rw same tt)
    by_list (Some (d ∷ ds)) e = by_test (nat_lt most_metrics (length (d ∷ ds))) e
      where
        by_test : (test : Bool) → cond test (Err TooManyMetrics) (Ok (d ∷ ds)) ≡ Err refusal → ⊥
        by_test true e = let same : refusal ≡ TooManyMetrics = cc in other (rw same tt)
        by_test false e = cc

-- the version, the kind and the name of a template are refused as what they are
module _ (d : Data) where
  first_head : (refusal : ManifestError) → (IsOfCount refusal → ⊥) → first_counted d ≡ Err refusal → head_of d ≡ Err refusal
  first_head refusal other e = of_first refusal (head_of d) _ (λ name. counted_is (spec_metrics d) refusal other) e

  pub version_early : template_of d ≡ Err WrongVersion → head_of d ≡ Err WrongVersion
  version_early e = first_head WrongVersion (λ is. is) (early WrongVersion (λ is. is) d e)

  pub kind_early : template_of d ≡ Err WrongKind → head_of d ≡ Err WrongKind
  kind_early e = first_head WrongKind (λ is. is) (early WrongKind (λ is. is) d e)

  pub name_early : template_of d ≡ Err NameMissing → head_of d ≡ Err NameMissing
  name_early e = first_head NameMissing (λ is. is) (early NameMissing (λ is. is) d e)

  pub none_early : template_of d ≡ Err NoMetrics → first_counted d ≡ Err NoMetrics
  none_early e = early NoMetrics (λ is. is) d e

  pub many_early : template_of d ≡ Err TooManyMetrics → first_counted d ≡ Err TooManyMetrics
  many_early e = early TooManyMetrics (λ is. is) d e

  head_not_memory : head_of d ≢ Err OutOfMemory
  head_not_memory e = by_version (is_text (codes "argoproj.io/v1alpha1") (text_member (codes "apiVersion") d)) (is_kind (text_member (codes "kind") d)) (template_name d) e
    where
      by_version : (version kind : Bool) (name : Option (List ℕ))
          → (holds_or WrongVersion version >>= λ of_version. holds_or WrongKind kind >>= λ of_kind. there_or NameMissing name) ≡ Err OutOfMemory → ⊥
      by_version false kind name e = cc
      by_version true false name e = cc
      by_version true true None e = cc
      by_version true true (Some text) e = cc

  pub template_not_memory : template_of d ≢ Err OutOfMemory
  template_not_memory e = head_not_memory (first_head OutOfMemory (λ is. is) (early OutOfMemory (λ is. is) d e))

-- a refusal that is always returned where it is defined is returned exactly there
pub exactly : {X : Type 0} (refusal : ManifestError) (result answer : Result X ManifestError) → is_memory refusal ≡ false → Gives is_memory (λ x. x) result answer
    → (answer ≡ Err refusal → result ≡ Err refusal) → (result ≡ Err refusal) ↔ (answer ≡ Err refusal)
exactly refusal result answer other gives refuses = (λ is. unless_not (is_memory refusal) other (rw is at gives), refuses)
  where
    unless_not : {P : Type 0} (memory : Bool) → memory ≡ false → Unless memory P → P
    unless_not true is holds = absurd (let impossible : true ≡ false = is in cc)
    unless_not false is holds = holds

module _ (arguments : TemplateArguments) (own : RunArguments) (i : ℕ) where
  value_judges : (between : List ℕ) → Judges (referred_value arguments own i between)
  unfolding referred_value
  value_judges between =
      judges_then (there_or (UnknownArg i) (argument_name (trimmed between))) _ (judges_there _ (argument_name (trimmed between)) tt) (λ name.
      judges_then (there_or (UnknownArg i) (value_of name arguments)) _ (judges_there _ (value_of name arguments) tt) (λ value.
      judges_there (NoValue i) (option_or (value_of name own) value) tt))

  filled_judges : (parts : Parts) → Judges (filled arguments own i parts)
  unfolding filled
  filled_judges (whole text) = tt
  filled_judges (unclosed before) = tt
  filled_judges (reference before between parts) =
      judges_then (referred_value arguments own i between) _ (value_judges between) (λ value.
      judges_then (filled arguments own i parts) _ (filled_judges parts) (λ later. tt))

  text_judges : (text : List ℕ) → Judges (bound_text arguments own i text)
  unfolding bound_text
  text_judges text = filled_judges (parts_of text)

  condition_judges : (condition : Option (List ℕ)) → Judges (bound_condition arguments own i condition)
  unfolding bound_condition
  condition_judges None = tt
  condition_judges (Some text) = judges_then (bound_text arguments own i text) _ (text_judges text) (λ bound. tt)

  number_judges : (n : ℕ) → Judges (limit_of_number i n)
  number_judges n = judges_cond (nat_le n most) (Ok n) (Err (BadLimit i)) tt tt

  limit_text_judges : (text : List ℕ) → Judges (limit_of_text i text)
  unfolding limit_of_text
  limit_text_judges text = judges_cond (is_limit_text text) (limit_of_number i _) (Err (BadLimit i)) (number_judges _) tt

  limit_judges : (limit : Option Limit) → Judges (bound_limit arguments own i limit)
  unfolding bound_limit
  limit_judges None = tt
  limit_judges (Some (limits.Whole n)) = judges_then (limit_of_number i n) _ (number_judges n) (λ limit. tt)
  limit_judges (Some limits.OtherNumber) = tt
  limit_judges (Some (limits.Text text)) =
      judges_then (bound_text arguments own i text >>= limit_of_text i) _ (judges_then (bound_text arguments own i text) (limit_of_text i) (text_judges text) limit_text_judges) (λ limit. tt)

  count_judges : (has_interval : Bool) (count : Option ℕ) → Judges (effective_count i has_interval count)
  count_judges has_interval None = tt
  count_judges has_interval (Some zero) = tt
  count_judges has_interval (Some (suc n)) = judges_cond (nat_lt 1 (suc n) && not has_interval) (Err (IntervalMissing i)) (Ok (Some (suc n))) tt tt

  bound_judges : (metric : Metric) → Judges (bound_metric arguments own i metric)
  unfolding bound_metric
  bound_judges metric =
      judges_then (bound_condition arguments own i metric.success_condition) _ (condition_judges metric.success_condition) (λ success.
      judges_then (bound_condition arguments own i metric.failure_condition) _ (condition_judges metric.failure_condition) (λ failure.
      judges_then (bound_limit arguments own i metric.limits.count) _ (limit_judges metric.limits.count) (λ count.
      judges_then (bound_limit arguments own i metric.limits.failure) _ (limit_judges metric.limits.failure) (λ failures.
      judges_then (bound_limit arguments own i metric.limits.inconclusive) _ (limit_judges metric.limits.inconclusive) (λ inconclusive.
      judges_then (bound_limit arguments own i metric.limits.consecutive_error) _ (limit_judges metric.limits.consecutive_error) (λ error.
      judges_then (effective_count i metric.has_interval count) _ (count_judges metric.has_interval count) (λ effective. tt)))))))

pub bound_not_memory : (template : Template) (own : RunArguments) → bound_of template own ≢ Err OutOfMemory
unfolding bound_of
bound_not_memory template own =
    never OutOfMemory (λ is. is) (bound_of template own)
    (judges_each (next_bound template.arguments own) (λ earlier metric. bound_judges template.arguments own (length earlier) metric) [] template.metrics)
