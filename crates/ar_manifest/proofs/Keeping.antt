-- Conditions, limits and metrics of texts that are kept while they are short enough.
use Rattle.std.proofs.Common.{◌≡◌, ◌+◌, ℕ, Bool, true, false, List, [], ◌∷◌, ◌++◌, length, map, refl, sym, ◌∙◌, ap, Option, Some, None, Result, Ok, Err}
use Rattle.std.specs.Prelude.{nat_le, ◌&&◌, if◌then◌else◌}
use Rattle.std.specs.Char.{is_ascii_digit}
use Rattle.std.specs.List.{list_all}
use Rattle.std.proofs.lemmas.List.{length-map, map-append}
use Rattle.ar_value.specs.Answer.{◌>>=◌, Gives, Unless, each_after}
use Rattle.ar_value.proofs.Steps.{refuses_first, refuses_same}
use Rattle.ar_value.specs.Limits.{most_text_bytes}
use Rattle.ar_json.specs.Members.{unless_empty}
use Rattle.ar_manifest.specs.Binding.{RunArguments, bound_text}
use Rattle.ar_manifest.specs.Bound.{bound_condition, bound_metric, bound_of, is_limit_text, limit_of_text, next_bound}
use Rattle.ar_manifest.specs.Private.BoundParts.{limit_in}
use Rattle.ar_manifest.specs.Private.Within.{condition_within, kept, kept_condition, kept_metric, limit_within, most_kept, next_kept, text_within, within}
use Rattle.ar_manifest.specs.Refusals.{is_memory}
use Rattle.ar_manifest.specs.Shortened.{shortened, shortened_of, spaces}
use Rattle.ar_manifest.specs.Template.{TemplateArguments}
use Rattle.ar_manifest.specs.declared.bound.BoundMetric.{BoundMetric}
use Rattle.ar_manifest.specs.declared.error.ManifestError.{ManifestError}
use Rattle.ar_manifest.specs.declared.error.ManifestError.TheVariants.{BadLimit}
use Rattle.ar_manifest.specs.declared.template.Metric.{Metric}
use Rattle.ar_manifest.specs.declared.template.Template.{Template}

-- ---- limits

-- a text of more than ten bytes is no limit
long_text : (text : List ℕ) → nat_le (length text) 10 ≡ false → is_limit_text text ≡ false
long_text text long = by_first (nat_le 1 (length text))
  where
    by_first : (some : Bool) → (some && nat_le (length text) 10 && list_all is_ascii_digit text) ≡ false
    by_first true = rw long refl
    by_first false = refl

pub long_limit : (i : ℕ) (text : List ℕ) → nat_le (length text) 10 ≡ false → limit_of_text i text ≡ Err (BadLimit i)
unfolding limit_of_text
long_limit i text long = rw (long_text text long) refl

limit_of_within : (i : ℕ) (text : List ℕ) → limit_within i (within (Some 10) text) ≡ limit_of_text i text
unfolding within limit_within
limit_of_within i text = by_test (nat_le (length text) 10) refl
  where
    by_test : (short : Bool) → nat_le (length text) 10 ≡ short → limit_within i (if short then Some text else None) ≡ limit_of_text i text
    by_test true short = refl
    by_test false long = sym (long_limit i text long)

-- what is returned is what is defined
pub gives_same : {A : Type 0} (result answer : Result A ManifestError) → result ≡ answer → Gives is_memory (λ x. x) result answer
gives_same (Ok x) answer same = sym same
gives_same (Err refusal) answer same = refuses_same (is_memory refusal) refusal answer (sym same)

module _ (arguments : TemplateArguments) (own : RunArguments) (i : ℕ) (text : List ℕ) where
  limit_in_within : (text_within arguments own i (Some 10) text >>= limit_within i) ≡ limit_in arguments own i text
  unfolding text_within
  limit_in_within = by_answer (bound_text arguments own i text)
    where
      by_answer : (answer : Result (List ℕ) ManifestError) → ((answer >>= λ bound. Ok (within (Some 10) bound)) >>= limit_within i) ≡ (answer >>= limit_of_text i)
      by_answer (Ok bound) = limit_of_within i bound
      by_answer (Err refusal) = refl

  pub limit_refused : (refusal : ManifestError) → Unless (is_memory refusal) (text_within arguments own i (Some 10) text ≡ Err refusal) → Unless (is_memory refusal) (limit_in arguments own i text ≡ Err refusal)
  limit_refused refusal refused =
      refuses_first (is_memory refusal) refusal (text_within arguments own i (Some 10) text) (limit_within i) (limit_in arguments own i text) refused limit_in_within

  pub limit_kept : (bound : Option (List ℕ)) → text_within arguments own i (Some 10) text ≡ Ok bound → limit_within i bound ≡ limit_in arguments own i text
  limit_kept bound is = sym (ap (λ answer. answer >>= limit_within i) is) ∙ limit_in_within

-- ---- conditions

-- what is kept of a condition, where it is shortened or whole
condition_of_within : (shortens : Bool) (text : List ℕ) → condition_within (within (most_kept shortens) text) ≡ kept shortens (unless_empty text)
unfolding within condition_within shortened
condition_of_within false text = refl
condition_of_within true [] = refl
condition_of_within true (byte ∷ text) = by_test (nat_le (length (byte ∷ text)) most_text_bytes)
  where
    by_test : (short : Bool)
        → condition_within (if short then Some (byte ∷ text) else None) ≡ Some (if short then byte ∷ text else spaces (most_text_bytes + 1))
    by_test true = refl
    by_test false = refl

module _ (arguments : TemplateArguments) (own : RunArguments) (i : ℕ) (shortens : Bool) (text : List ℕ) where
  kept_of_text : (text_within arguments own i (most_kept shortens) text >>= λ bound. Ok (condition_within bound)) ≡ kept_condition arguments own i shortens (Some text)
  unfolding text_within bound_condition
  kept_of_text = by_answer (bound_text arguments own i text)
    where
      by_answer : (answer : Result (List ℕ) ManifestError)
          → ((answer >>= λ bound. Ok (within (most_kept shortens) bound)) >>= λ bound. Ok (condition_within bound))
          ≡ ((answer >>= λ bound. Ok (unless_empty bound)) >>= λ bound. Ok (kept shortens bound))
      by_answer (Ok bound) = ap (λ (condition : Option (List ℕ)). Ok condition) (condition_of_within shortens bound)
      by_answer (Err refusal) = refl

  pub condition_refused : (refusal : ManifestError) → Unless (is_memory refusal) (text_within arguments own i (most_kept shortens) text ≡ Err refusal)
      → Unless (is_memory refusal) (kept_condition arguments own i shortens (Some text) ≡ Err refusal)
  condition_refused refusal refused =
      refuses_first (is_memory refusal) refusal (text_within arguments own i (most_kept shortens) text) (λ bound. Ok (condition_within bound)) (kept_condition arguments own i shortens (Some text)) refused kept_of_text

  pub condition_kept : (bound condition : Option (List ℕ)) → text_within arguments own i (most_kept shortens) text ≡ Ok bound → condition ≡ condition_within bound
      → kept_condition arguments own i shortens (Some text) ≡ Ok condition
  condition_kept bound condition is made =
      sym kept_of_text ∙ ap (λ (answer : Result (Option (List ℕ)) ManifestError). answer >>= λ bound. Ok (condition_within bound)) is ∙ ap (λ (condition : Option (List ℕ)). Ok condition) (sym made)

-- ---- all metrics

module _ (arguments : TemplateArguments) (own : RunArguments) (shortens : Bool) where
  -- metrics that are bound one after another, their conditions shortened or whole
  each_kept : (earlier : List BoundMetric) (items : List Metric)
      → each_after (next_kept arguments own shortens) (map (kept_metric shortens) earlier) items
      ≡ (each_after (next_bound arguments own) earlier items >>= λ metrics. Ok (map (kept_metric shortens) metrics))
  unfolding each_after
  each_kept earlier [] = refl
  each_kept earlier (item ∷ items) =
      ap (λ n. (bound_metric arguments own n item >>= λ bound. Ok (kept_metric shortens bound)) >>= later) (length-map earlier (kept_metric shortens))
      ∙ by_answer (bound_metric arguments own (length earlier) item) (λ made. each_kept (earlier ++ made ∷ []) items)
    where
      later : BoundMetric → Result (List BoundMetric) ManifestError
      later made = each_after (next_kept arguments own shortens) (map (kept_metric shortens) earlier ++ made ∷ []) items

      by_answer : (answer : Result BoundMetric ManifestError)
          → ((made : BoundMetric) → each_after (next_kept arguments own shortens) (map (kept_metric shortens) (earlier ++ made ∷ [])) items
          ≡ (each_after (next_bound arguments own) (earlier ++ made ∷ []) items >>= λ metrics. Ok (map (kept_metric shortens) metrics)))
          → ((answer >>= λ bound. Ok (kept_metric shortens bound)) >>= later)
          ≡ ((answer >>= λ made. each_after (next_bound arguments own) (earlier ++ made ∷ []) items) >>= λ metrics. Ok (map (kept_metric shortens) metrics))
      by_answer (Ok made) same = ap (λ before. each_after (next_kept arguments own shortens) before items) (sym (map-append (kept_metric shortens) earlier (made ∷ []))) ∙ same made
      by_answer (Err refusal) same = refl

-- metrics that are whole are as they are
all_whole : (metrics : List BoundMetric) → map (kept_metric false) metrics ≡ metrics
all_whole [] = refl
all_whole (metric ∷ metrics) = ap (λ (rest : List BoundMetric). metric ∷ rest) (all_whole metrics)

module _ (template : Template) (own : RunArguments) where
  pub bound_whole : each_after (next_kept template.arguments own false) [] template.metrics ≡ bound_of template own
  unfolding bound_of
  bound_whole = each_kept template.arguments own false [] template.metrics ∙ by_answer (each_after (next_bound template.arguments own) [] template.metrics)
    where
      by_answer : (answer : Result (List BoundMetric) ManifestError) → (answer >>= λ metrics. Ok (map (kept_metric false) metrics)) ≡ answer
      by_answer (Ok metrics) = ap (λ (all : List BoundMetric). Ok all) (all_whole metrics)
      by_answer (Err refusal) = refl

  pub bound_shortened : each_after (next_kept template.arguments own true) [] template.metrics ≡ shortened_of template own
  unfolding bound_of shortened_of
  bound_shortened = each_kept template.arguments own true [] template.metrics
