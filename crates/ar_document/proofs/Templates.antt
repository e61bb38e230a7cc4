-- How many metrics a template has, and what is bound of them.
use Rattle.std.proofs.Common.{◌≡◌, ◌≤◌, ◌+◌, ℕ, zero, suc, Bool, true, false, List, [], ◌∷◌, ◌++◌, length, map, Option, Some, None, Result, Ok, Err, refl, subst, ◌∙◌, ap, arith}
use Rattle.std.specs.Prelude.{nat_lt, not, ◌&&◌, if◌then◌else◌, IfSome, option_and_then}
use Rattle.std.specs.List.{AllByRecursion}
use Rattle.std.proofs.lemmas.Bool.Decides.{nat_tests}
use Rattle.std.proofs.lemmas.List.{length-append, length-map}
use Rattle.serde_json.specs.Data.{Data}
use Rattle.std.specs.Prelude.{codes, unwrap_or}
use Rattle.serde_json.specs.Data.{null}
use Rattle.serde_json.specs.Find.{get}
use Rattle.ar_judge.specs.Saying.{refused_as}
use Rattle.ar_document.specs.Opening.{template_in}
use Rattle.ar_document.specs.declared.error.BundleError.TheVariants.{Manifest}
use Rattle.ar_manifest.specs.Binding.{RunArguments}
use Rattle.ar_manifest.specs.Bound.{bound_condition, bound_limit, bound_metric, bound_of, count_without, effective_count, next_bound}
use Rattle.ar_manifest.specs.DryRun.{dry_names, with_dry, with_dry_run}
use Rattle.ar_manifest.specs.Template.{TemplateArguments, arguments_of, metrics_counted, counted_metrics, head_of, metric_of, template_of}
use Rattle.ar_manifest.specs.declared.template.Metric.{Metric}
use Rattle.ar_document.proofs.Growing.{one_more}
use Rattle.ar_manifest.specs.declared.bound.BoundMetric.{BoundMetric}
use Rattle.ar_value.specs.Answer.{◌>>=◌, each_after, there_or}
use Rattle.ar_value.specs.Limits.{most_metrics}
use Rattle.ar_json.specs.Members.{member_of_member, list_of}
use Rattle.ar_manifest.specs.declared.error.ManifestError.{ManifestError}
use Rattle.ar_manifest.specs.declared.error.ManifestError.TheVariants.{IntervalMissing, NoMetrics}
use Rattle.ar_manifest.specs.declared.template.Template.{Template}

-- the first of two steps returns, where both do
module _ {A B : Type 0} (second : A → Result B ManifestError) (all : B) where
  pub first_answers : (first : Result A ManifestError) → first >>= second ≡ Ok all → (made : A) × (first ≡ Ok made) × (second made ≡ Ok all)
  first_answers (Ok made) both = (made, refl, both)
  first_answers (Err refusal) both = absurd cc

-- one is made of each item
pub as_many : {A B : Type 0} (step : List B → A → Result B ManifestError) (earlier : List B) (items : List A) (all : List B) → each_after step earlier items ≡ Ok all → length all ≡ length earlier + length items
unfolding each_after
as_many step earlier [] all is = let same : earlier ≡ all = cc in rw (← same) (omega arith)
as_many {B = B} step earlier (item ∷ items) all is =
    let made = first_answers (λ made. each_after step (earlier ++ made ∷ []) items) all (step earlier item) is in
    as_many step (earlier ++ made.0 ∷ []) items all made.2 ∙ rw (length-append {A = B} earlier (made.0 ∷ [])) (omega arith)

few_items : (items some : List Data) → metrics_counted items ≡ Ok some → length some ≤ most_metrics
few_items [] some is = absurd cc
few_items (item ∷ items) some is = by_test (nat_lt most_metrics (length (item ∷ items))) refl
  where
    by_test : (many : Bool) → nat_lt most_metrics (length (item ∷ items)) ≡ many → length some ≤ most_metrics
    by_test true test = absurd (let no = rw test at is in cc)
    by_test false test = let same : item ∷ items ≡ some = let yes = rw test at is in cc in rw (← same) (grind (arith, nat_tests, test))

same_metrics : (made template : Template) (answer : Result Template ManifestError) → answer ≡ Ok made → answer ≡ Ok template → made.metrics ≡ template.metrics
same_metrics made template answer first is = let same : made ≡ template = cc in ap (λ (template : Template). template.metrics) same

-- as many metrics are there after `dryRun` as before it
as_many_dry : (found : Option Data) (metrics marked : List Metric) → with_dry_run found metrics ≡ Ok marked → length marked ≡ length metrics
as_many_dry found metrics marked is =
    let named = first_answers (λ (names : List (List ℕ)). Ok (map (with_dry names) metrics)) marked (dry_names metrics found) is in
    let same : map (with_dry named.0) metrics ≡ marked = let made = named.2 in cc in
    rw (← same) (length-map metrics (with_dry named.0))

-- a template has at most 64 metrics
pub few_metrics : (document : Data) (template : Template) → template_of document ≡ Ok template → length template.metrics ≤ most_metrics
unfolding template_of
few_metrics document template is =
    let named = first_answers _ template (head_of document) is in
    let argued = first_answers _ template (arguments_of (member_of_member (codes "spec") (codes "args") document)) named.2 in
    let listed = first_answers _ template (counted_metrics (member_of_member (codes "spec") (codes "metrics") document)) argued.2 in
    let made = first_answers _ template (each_after metric_of [] listed.0) listed.2 in
    let marked = first_answers _ template (with_dry_run (member_of_member (codes "spec") (codes "dryRun") document) made.0) made.2 in
    let items = first_answers metrics_counted listed.0 (there_or NoMetrics (option_and_then list_of (member_of_member (codes "spec") (codes "metrics") document))) listed.1 in
    let few = few_items items.0 listed.0 items.2 in
    let many = as_many metric_of [] listed.0 made.0 made.1 in
    let dry = as_many_dry (member_of_member (codes "spec") (codes "dryRun") document) made.0 marked.0 marked.1 in
    let same : marked.0 ≡ template.metrics = same_metrics _ template _ refl marked.2 in
    rw (← same) (omega (arith, dry, many, few))

answered : (answer : Result Template ManifestError) (template : Template) → refused_as Manifest answer ≡ Ok template → answer ≡ Ok template
answered (Ok made) template is = let same : made ≡ template = cc in ap (λ (template : Template). Ok template) same
answered (Err refusal) template is = absurd cc

pub few_metrics_in : (document : Data) (template : Template) → template_in document ≡ Ok template → length template.metrics ≤ most_metrics
few_metrics_in document template is = few_metrics (unwrap_or (get (codes "manifest") document) null) template (answered (template_of (unwrap_or (get (codes "manifest") document) null)) template is)

-- as many metrics are bound as the template has
pub bound_many : (template : Template) (own : RunArguments) (bound : List BoundMetric) → bound_of template own ≡ Ok bound → length bound ≡ length template.metrics
unfolding bound_of
bound_many template own bound is = as_many (next_bound template.arguments own) [] template.metrics bound is ∙ omega arith

-- ---- the limits of bound metrics

-- a count, where there is one, is 1 or more
abbrev pub IsPositive : Option ℕ → Type 0
IsPositive count = IfSome count (λ n. 1 ≤ n)

positive_without : (has_interval : Bool) → IsPositive (count_without has_interval)
positive_without true = tt
positive_without false = omega arith

same_count : (made count : Option ℕ) (answer : Result (Option ℕ) ManifestError) → answer ≡ Ok made → answer ≡ Ok count → made ≡ count
same_count made count answer first second = cc

positive_effective : (i : ℕ) (has_interval : Bool) (count effective : Option ℕ) → effective_count i has_interval count ≡ Ok effective → IsPositive effective
positive_effective i has_interval None effective is = subst IsPositive (same_count (count_without has_interval) effective _ refl is) (positive_without has_interval)
positive_effective i has_interval (Some zero) effective is = subst IsPositive (same_count (count_without has_interval) effective _ refl is) (positive_without has_interval)
positive_effective i has_interval (Some (suc n)) effective is = by_test (nat_lt 1 (suc n) && not has_interval) is
  where
    by_test : (missing : Bool) → (if missing then Err (IntervalMissing i) else Ok (Some (suc n))) ≡ Ok effective → IsPositive effective
    by_test true answer = absurd cc
    by_test false answer = subst IsPositive (same_count (Some (suc n)) effective _ refl answer) (omega arith)

pub positive_count : (arguments : TemplateArguments) (own : RunArguments) (i : ℕ) (metric : Metric) (bound : BoundMetric) → bound_metric arguments own i metric ≡ Ok bound → IsPositive bound.count
unfolding bound_metric
positive_count arguments own i metric bound is =
    let success = first_answers _ bound (bound_condition arguments own i metric.success_condition) is in
    let failure = first_answers _ bound (bound_condition arguments own i metric.failure_condition) success.2 in
    let count = first_answers _ bound (bound_limit arguments own i metric.limits.count) failure.2 in
    let failures = first_answers _ bound (bound_limit arguments own i metric.limits.failure) count.2 in
    let inconclusives = first_answers _ bound (bound_limit arguments own i metric.limits.inconclusive) failures.2 in
    let errors = first_answers _ bound (bound_limit arguments own i metric.limits.consecutive_error) inconclusives.2 in
    let effective = first_answers _ bound (effective_count i metric.has_interval count.0) errors.2 in
    subst IsPositive (same_bound _ bound _ refl effective.2) (positive_effective i metric.has_interval count.0 effective.0 effective.1)
  where
    same_bound : (made other : BoundMetric) (answer : Result BoundMetric ManifestError) → answer ≡ Ok made → answer ≡ Ok other → made.count ≡ other.count
    same_bound made other answer first second = let same : made ≡ other = cc in ap (λ (bound : BoundMetric). bound.count) same

-- what holds of each that a step makes holds of all
each_is : {A B : Type 0} (P : B → Type 0) (step : List B → A → Result B ManifestError) → ((earlier : List B) (item : A) (made : B) → step earlier item ≡ Ok made → P made) → (earlier : List B) (items : List A) (all : List B)
    → AllByRecursion P earlier → each_after step earlier items ≡ Ok all → AllByRecursion P all
unfolding each_after
each_is P step holds earlier [] all before is = subst (AllByRecursion P) (let same : earlier ≡ all = cc in same) before
each_is {B = B} P step holds earlier (item ∷ items) all before is =
    let made = first_answers (λ made. each_after step (earlier ++ made ∷ []) items) all (step earlier item) is in
    each_is P step holds (earlier ++ made.0 ∷ []) items all (one_more P earlier made.0 before (holds earlier item made.0 made.1)) made.2

-- the counts of bound metrics are 1 or more
pub positive_counts : (template : Template) (own : RunArguments) (bound : List BoundMetric) → bound_of template own ≡ Ok bound → AllByRecursion (λ metric. IsPositive metric.count) bound
unfolding bound_of
positive_counts template own bound is = each_is (λ metric. IsPositive metric.count) (next_bound template.arguments own) (λ earlier metric made makes. positive_count template.arguments own (length earlier) metric made makes) [] template.metrics bound tt is
