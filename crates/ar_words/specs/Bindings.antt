-- The template and the arguments of a run, the conditions of its metrics, bound, and what binding finds where it is
-- refused.
use Rattle.std.specs.Prelude.{ℕ, List, codes, Option, Some, None, option_and_then, option_map, slice_get, Result, Ok, Err}
use Rattle.ar_value.specs.Terms.{Text}
use Rattle.serde_json.specs.Data.{Data}
use Rattle.serde_json.specs.Find.{get}
use Rattle.ar_document.specs.Opening.{own_arguments}
use Rattle.ar_judge.specs.declared.error.BuildError.{BuildError}
use Rattle.ar_judge.specs.declared.error.BuildError.TheVariants.{Success, Failure, OutOfMemory}
use Rattle.ar_manifest.specs.Binding.{RunArguments}
use Rattle.ar_manifest.specs.Found.{refused_limit, unbound_reference}
use Rattle.ar_manifest.specs.Shortened.{shortened_of}
use Rattle.ar_manifest.specs.Template.{template_of}
use Rattle.ar_manifest.specs.declared.bound.BoundMetric.{BoundMetric}
use Rattle.ar_manifest.specs.declared.found.RefusedLimit.{RefusedLimit}
use Rattle.ar_manifest.specs.declared.template.Template.{Template}
use Rattle.ar_words.specs.Lists.{list_item, runs}

-- what was made, unless it was refused
abbrev pub made : {A E : Type 0} → Result A E → Option A
made (Ok x) = Some x
made (Err e) = None

-- the arguments of a run
abbrev pub own_of : Data → (run : ℕ) → Option RunArguments
own_of document run =
    option_and_then (λ item. made (own_arguments (get (codes "args") item))) (list_item run (runs document))

abbrev pub given_template : Data → Option Template
given_template document = option_and_then (λ manifest. made (template_of manifest)) (get (codes "manifest") document)

-- the template, and the arguments that a run gives it
abbrev pub binding_of : Data → (run : ℕ) → Option (Template × RunArguments)
binding_of document run =
    option_and_then (λ own. option_map (λ template. (template, own)) (given_template document)) (own_of document run)

-- ---- conditions

abbrev pub bound_metrics : Data → (run : ℕ) → Option (List BoundMetric)
bound_metrics document run =
    option_and_then (λ binding. made (shortened_of binding.0 binding.1)) (binding_of document run)

-- the condition of a metric that is refused
abbrev pub refused_condition : BuildError → BoundMetric → Option Text
refused_condition (Success cause) metric = metric.success_condition
refused_condition (Failure cause) metric = metric.failure_condition
refused_condition OutOfMemory metric = None

abbrev pub condition_in : Option (List BoundMetric) → (metric : ℕ) → BuildError → Option Text
condition_in metrics metric error =
    option_and_then (refused_condition error) (option_and_then (λ metrics. slice_get metrics metric) metrics)

unfoldable pub condition_bound_for : Data → (run metric : ℕ) → BuildError → Option Text
condition_bound_for document run metric error = condition_in (bound_metrics document run) metric error

-- ---- refusals of binding

-- the first reference in the texts of a metric that has no value
abbrev pub unbound_of_run : Data → (run metric : ℕ) → Option Text
unbound_of_run document run metric =
    option_and_then (λ binding. unbound_reference binding.0 binding.1 metric) (binding_of document run)

-- the limit of a metric that is refused
abbrev pub limit_in : Data → (run metric : ℕ) → Option RefusedLimit
limit_in document run metric =
    option_and_then (λ binding. refused_limit binding.0 binding.1 metric) (binding_of document run)
