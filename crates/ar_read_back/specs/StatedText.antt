-- The lines of explanations (ar_reason/specs/ReasonText), made of what the object states alone. Of a condition only the
-- lines of its parts are here: its own line shows its tree, which the object doesn't have.
use Rattle.std.specs.Prelude.{◌≡◌, refl, Bool, true, false, if◌then◌else◌, [], ◌∷◌, ◌++◌, codes, flat_map, map, Option, Some, None, option_map}
use Rattle.std.specs.Fmt.{digits}
use Rattle.ar_value.specs.Operators.{faulted}
use Rattle.ar_value.specs.Terms.{Text}
use Rattle.ar_value.specs.declared.fault.Fault.TheVariants.{DivisionByZero, Overflow}
use Rattle.ar_value.specs.Value as values
use Rattle.ar_json.specs.Refusals.{shape_fault_name}
use Rattle.ar_quote.specs.Shown.{shown_name}
use Rattle.ar_limits.specs.declared.limits.Limits.{Limits}
use Rattle.ar_facts.specs.Facts.{MetricFacts}
use Rattle.ar_facts.specs.Report.{event_line, metric_line, printed_event, printed_metric, run_line}
use Rattle.ar_facts.specs.declared.text.Naming.TheVariants as naming
use Rattle.ar_progress.specs.Counts.{changed_counts}
use Rattle.ar_progress.specs.Settled.{settled_at, settled_text}
use Rattle.ar_progress.specs.Waiting.{progress_of, run_waits_for, waits_for}
use Rattle.ar_progress.specs.declared.settled.Settled.{Settled}
use Rattle.ar_show.specs.Values.{shown_value}
use Rattle.ar_misfit.specs.MisfitText.{advice_text, path_text}
use Rattle.ar_evaluation.specs.EvaluatedText.{apart_text, between_text, failure_name, held_text, item_text, operands_text}
use Rattle.ar_reason.specs.ReasonText.{line_if_there, no_condition_line, waits_line, why_line}
use Rattle.ar_read_back.specs.StatedCondition.{StatedPart, StatedSaid, has_failure, has_value, not_needed, on_item, on_others}
use Rattle.ar_read_back.specs.Stated.{StatedChange, StatedGiven, StatedLimits, StatedMetric, StatedMisfit, StatedReason, StatedRun, had_error, had_misfit, had_nothing, had_value}

-- ---- a part of a condition

-- that it converts its operand, which its text doesn't show
abbrev pub stated_conversion : (as_decimal : Bool) → Text
stated_conversion as_decimal = if as_decimal then codes " as a decimal" else []

-- the part itself; where only items of it are counted it isn't written again
abbrev pub stated_part_text : (name : Text) → (as_decimal : Bool) → StatedSaid → Text
stated_part_text name as_decimal (has_value shown value apart) = name
stated_part_text name as_decimal (on_item shown value) = name
stated_part_text name as_decimal (has_failure failure on) = name ++ stated_conversion as_decimal
stated_part_text name as_decimal not_needed = name
stated_part_text name as_decimal (on_others items held) = []

abbrev pub stated_said_text : StatedSaid → Text
stated_said_text (has_value shown value apart) = codes " = " ++ (shown ++ apart_text apart)
stated_said_text (on_item shown value) = codes " = " ++ shown
stated_said_text (has_failure failure on) = codes ": " ++ (failure_name failure ++ operands_text on)
stated_said_text not_needed = codes ": not needed"
stated_said_text (on_others items held) = between_text (codes "item") items ++ (codes ", " ++ held_text items held)

abbrev pub stated_part_line : StatedPart → Text
stated_part_line part =
    codes "    " ++ (flat_map item_text part.items
    ++ (stated_part_text part.name part.as_decimal part.said ++ (stated_said_text part.said ++ codes "\n")))

-- ---- an event

abbrev pub stated_misfit_text : StatedMisfit → Text
stated_misfit_text misfit =
    path_text misfit.path ++ (codes ": " ++ (shape_fault_name misfit.fault ++ (codes ": expected " ++ (misfit.expected
    ++ (codes ", found " ++ (misfit.found ++ advice_text misfit.hint))))))

abbrev pub stated_given_line : StatedGiven → Text
stated_given_line had_nothing = []
stated_given_line (had_value shown value) = codes "  value: " ++ (shown ++ codes "\n")
stated_given_line (had_error text) = codes "  error: " ++ (shown_value (values.text text) ++ codes "\n")
stated_given_line (had_misfit misfit) = codes "  misfit: " ++ (stated_misfit_text misfit ++ codes "\n")

-- these words don't say whether the metric is dry
abbrev pub limits_of : StatedLimits → Limits
limits_of stated = record {
  failure = stated.failure;
  inconclusive = stated.inconclusive;
  consecutive_error = stated.consecutive_error;
  count = stated.count;
  dry = false;
}

abbrev pub stated_change_line : Option StatedChange → Text
stated_change_line None = []
stated_change_line (Some change) =
    codes "  counts: " ++ (changed_counts (limits_of change.limits) change.before change.after ++ codes "\n")

-- before those of its conditions
abbrev pub stated_first_lines : StatedReason → Text
stated_first_lines stated = event_line (printed_event naming.Clear stated.event) ++ stated_given_line stated.given

-- after those of its conditions
abbrev pub stated_last_lines : StatedReason → Text
stated_last_lines stated =
    no_condition_line stated.no_condition ++ (stated_change_line stated.change ++ why_line stated.why)

-- ---- a run

abbrev pub stated_settled_text : MetricFacts → Settled → Text
stated_settled_text metric settled = settled_text (settled_at settled.closer (progress_of metric.limits metric.counts))

abbrev pub stated_metric_lines : StatedMetric → Text
stated_metric_lines stated =
    metric_line (printed_metric naming.Clear stated.metric)
    ++ (waits_line stated.metric.phase (waits_for stated.metric.phase stated.metric.limits stated.metric.counts)
    ++ line_if_there (codes "  ") (option_map (stated_settled_text stated.metric) stated.settled))

abbrev pub facts_stated : StatedMetric → MetricFacts
facts_stated stated = stated.metric

-- before those of its events
abbrev pub stated_run_lines : StatedRun → Text
stated_run_lines stated =
    run_line (shown_name stated.name) stated.phase
    ++ line_if_there (codes "  waits for: ") (run_waits_for stated.phase (map facts_stated stated.metrics))

-- ---- worked rows

failure_on_an_item : stated_part_line (record {
  items = 3 ∷ [];
  name = codes "1 / #";
  as_decimal = false;
  said = has_failure (faulted DivisionByZero) (Some (codes "operands 1 and 0"));
}) ≡ codes "    item 3: 1 / #: DivisionByZero: operands 1 and 0\n"
unfolding item_text digits
failure_on_an_item = refl

too_great_for_a_decimal : stated_part_line (record {
  items = [];
  name = codes "result";
  as_decimal = true;
  said = has_failure (faulted Overflow) (Some (codes "operand 9223372036854775807"));
}) ≡ codes "    result as a decimal: Overflow: operand 9223372036854775807\n"
too_great_for_a_decimal = refl

items_between : stated_part_line (record {
  items = [];
  name = codes "# < 8";
  as_decimal = false;
  said = on_others 29 5;
}) ≡ codes "    29 items between, 5 hold\n"
unfolding digits
items_between = refl
