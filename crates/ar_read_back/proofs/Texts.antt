-- The text says what the object states.
use Rattle.std.proofs.Common.{◌≡◌, ℕ, ◌++◌, Bool, true, false, List, [], ◌∷◌, map, Option, Some, None, refl, ap, append-nil}
use Rattle.std.specs.Prelude.{codes, flat_map, option_map}
use Rattle.std.specs.Str.{bytes_eq}
use Rattle.ar_value.specs.Operators.{Failure}
use Rattle.ar_value.specs.Terms.{Text}
use Rattle.ar_value.specs.declared.operator.UnaryOperator.TheVariants as unary
use Rattle.ar_tree.specs.Typed.{Typed}
use Rattle.ar_tree.specs.Typed as typed
use Rattle.ar_show.specs.PartText.{shown_part}
use Rattle.ar_bundle.specs.Event.{EventNumber}
use Rattle.ar_facts.specs.Facts.{MetricFacts}
use Rattle.ar_misfit.specs.Misfit.{Misfit}
use Rattle.ar_misfit.specs.MisfitText.{misfit_text}
use Rattle.std.specs.Prelude.{is_some}
use Rattle.ar_limits.specs.Metric.{decided_by}
use Rattle.ar_progress.specs.Settled.{settled_by, settled_text}
use Rattle.ar_progress.specs.Counts.{changed_counts, count_and_limit, measured_text, next_limit}
use Rattle.ar_progress.specs.declared.steps.Change.{Change}
use Rattle.ar_explain.specs.Lines.{Outcome, failed, is_item, passed, unneeded, valued}
use Rattle.ar_evaluation.specs.EvaluatedData.{converts}
use Rattle.ar_evaluation.specs.EvaluatedText.{conversion_text, part_line}
use Rattle.ar_reason.specs.Reason.{Given, gave_error, gave_misfit, gave_nothing, gave_value}
use Rattle.ar_reason.specs.ReasonText.{change_line, given_line, metric_lines}
use Rattle.ar_read_back.specs.StatedCondition.{stated_part}
use Rattle.ar_read_back.specs.Stated.{stated_change, stated_given, stated_metric, stated_misfit, stated_settled}
use Rattle.ar_read_back.specs.StatedText.{facts_stated, stated_change_line, stated_conversion, stated_given_line, stated_metric_lines, stated_misfit_text, stated_part_line, stated_settled_text}
use Rattle.ar_read_back.specs.StatedLaws.{EventLinesAreStated, PartLinesAreStated, RunLinesAreStated}

-- ---- parts

conversion_stated : (part : Typed) (failure : Failure) (on : Option Text) → conversion_text part ≡ stated_conversion (converts part (failed failure on))
conversion_stated (typed.unary unary.ToDecimal operand) failure on = refl
conversion_stated part failure on = refl

line_with : (items : List ℕ) (part : Typed) (said : Outcome) → part_line (record { items = items; part = part; said = said }) ≡ stated_part_line (stated_part (record { items = items; part = part; said = said }))
unfolding part_line
line_with items part (valued shown (Some apart)) = refl
line_with items part (valued shown None) = by (bytes_eq (shown_part part) (codes "#")) refl where
  by : (item : Bool) → bytes_eq (shown_part part) (codes "#") ≡ item → part_line (record { items = items; part = part; said = valued shown None }) ≡ stated_part_line (stated_part (record { items = items; part = part; said = valued shown None }))
  by true is = rw (is, append-nil shown.text) refl
  by false is = rw is refl
line_with items part (is_item shown) = refl
line_with items part (failed failure on) = rw (conversion_stated part failure on) refl
line_with items part unneeded = refl
line_with items part (passed many held) = refl

pub parts_stated : PartLinesAreStated
parts_stated line = line_with line.items line.part line.said

-- ---- an event

misfit_stated : (number : EventNumber) (misfit : Misfit) → misfit_text misfit ≡ stated_misfit_text (stated_misfit number misfit)
unfolding misfit_text
misfit_stated number misfit = refl

given_stated : (number : EventNumber) (given : Given) → given_line given ≡ stated_given_line (stated_given number given)
given_stated number gave_nothing = refl
given_stated number (gave_error text) = refl
given_stated number (gave_value value) = refl
given_stated number (gave_misfit misfit) = rw (misfit_stated number misfit) refl

change_stated : (change : Option Change) → change_line change ≡ stated_change_line (option_map stated_change change)
unfolding changed_counts next_limit count_and_limit measured_text
change_stated None = refl
change_stated (Some change) = refl

pub events_stated : EventLinesAreStated
events_stated reason = rw (given_stated reason.event.number reason.given, change_stated reason.change) refl

-- ---- a run

settled_stated : (closer : Option EventNumber) (metric : MetricFacts) → option_map settled_text (settled_by closer metric.limits metric.counts) ≡ option_map (stated_settled_text metric) (option_map stated_settled (settled_by closer metric.limits metric.counts))
settled_stated None metric = refl
settled_stated (Some closer) metric = by (is_some (decided_by metric.limits metric.counts)) refl where
  by : (decided : Bool) → is_some (decided_by metric.limits metric.counts) ≡ decided → option_map settled_text (settled_by (Some closer) metric.limits metric.counts) ≡ option_map (stated_settled_text metric) (option_map stated_settled (settled_by (Some closer) metric.limits metric.counts))
  by true is = rw is refl
  by false is = rw is refl

metric_stated : (closer : Option EventNumber) (metric : MetricFacts) → metric_lines closer metric ≡ stated_metric_lines (stated_metric closer metric)
metric_stated closer metric = rw (settled_stated closer metric) refl

joined : (first same others alike : Text) → first ≡ same → others ≡ alike → first ++ others ≡ same ++ alike
joined first same others alike one two = rw (one, two) refl

metrics_stated : (closer : Option EventNumber) (metrics : List MetricFacts) → flat_map (metric_lines closer) metrics ≡ flat_map stated_metric_lines (map (stated_metric closer) metrics)
metrics_stated closer [] = refl
metrics_stated closer (metric ∷ metrics) = joined (metric_lines closer metric) _ (flat_map (metric_lines closer) metrics) _ (metric_stated closer metric) (metrics_stated closer metrics)

facts_stay : (closer : Option EventNumber) (metrics : List MetricFacts) → metrics ≡ map facts_stated (map (stated_metric closer) metrics)
facts_stay closer [] = refl
facts_stay closer (metric ∷ metrics) = ap (λ (others : List MetricFacts). metric ∷ others) (facts_stay closer metrics)

pub runs_stated : RunLinesAreStated
runs_stated run = rw (metrics_stated run.closer run.metrics, ← facts_stay run.closer run.metrics) refl
