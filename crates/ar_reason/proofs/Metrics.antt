-- The metrics of a run, one after another.
use Rattle.std.proofs.Common.{◌≡◌, ◌<◌, ◌≤◌, ℕ, ◌+◌, List, ◌++◌, drop, flat_map, length, map, Option, Some, sym, ap, subst}
use Rattle.std.specs.Prelude.{slice_get, slice_index_or}
use Rattle.serde_json.specs.Data.{Data}
use Rattle.ar_limits.specs.declared.counts.Counts.{Counts}
use Rattle.ar_limits.specs.declared.limits.Limits.{Limits}
use Rattle.ar_limits.specs.declared.phase.Phase.{Phase}
use Rattle.ar_bundle.specs.declared.bundle.MetricPart.{MetricPart}
use Rattle.ar_facts.proofs.Lines.{metric_read, no_metric_left as no_metric_there, no_more, one_more}
use Rattle.ar_facts.specs.Facts.{facts_of_metrics, metric_facts}
use Rattle.ar_object.proofs.Texts.{Remains, next_value, no_values, none_remains, then_values}
use Rattle.ar_object.specs.Written.{AddsValue, AddsValues, Output}
use Rattle.ar_reason.specs.ReasonData.{awaited, waiting_data}
use Rattle.ar_reason.specs.ReasonText.{metric_lines}

pub next_metric : (metrics : List MetricPart) (limits : List Limits) (phases : List Phase) (others : List Counts) (index : ℕ) (metric : MetricPart) (phase : Phase) (counts : Counts) (closer : Option ℕ) (written : List ℕ) (own : Limits) (total : List ℕ) → index < length metrics → metric ≡ slice_index_or metrics index metric → index < length limits → own ≡ slice_index_or limits index own → slice_get phases index ≡ Some phase → slice_get others index ≡ Some counts
    → written ++ flat_map (metric_lines closer) (facts_of_metrics (drop index metrics) (drop index limits) (drop index phases) (drop index others)) ≡ total → (written ++ metric_lines closer (metric_facts metric own phase counts)) ++ flat_map (metric_lines closer) (facts_of_metrics (drop (index + 1) metrics) (drop (index + 1) limits) (drop (index + 1) phases) (drop (index + 1) others)) ≡ total
next_metric metrics limits phases others index metric phase counts closer written own total inside read own_inside own_read phase_there counts_there so_far =
    one_more (metric_lines closer) _ _ (metric_facts metric own phase counts) written total (metric_read metrics limits phases others index metric phase counts own inside read own_inside own_read phase_there counts_there) so_far

pub no_metric_left : (metrics : List MetricPart) (limits : List Limits) (phases : List Phase) (others : List Counts) (index : ℕ) (closer : Option ℕ) (written total : List ℕ) → length metrics ≤ index → written ++ flat_map (metric_lines closer) (facts_of_metrics (drop index metrics) (drop index limits) (drop index phases) (drop index others)) ≡ total → written ≡ total
no_metric_left metrics limits phases others index closer written total past so_far =
    no_more (metric_lines closer) (facts_of_metrics (drop index metrics) (drop index limits) (drop index phases) (drop index others)) written total (no_metric_there metrics limits phases others index past) so_far

pub next_waiting : (metrics : List MetricPart) (limits : List Limits) (phases : List Phase) (others : List Counts) (index : ℕ) (metric : MetricPart) (phase : Phase) (counts : Counts) (closer : Option ℕ) (own : Limits) (all : List Data) (start now next : Output) → index < length metrics → metric ≡ slice_index_or metrics index metric → index < length limits → own ≡ slice_index_or limits index own → slice_get phases index ≡ Some phase → slice_get others index ≡ Some counts
    → AddsValue (waiting_data closer (metric_facts metric own phase counts)) now next
    → Remains (map (waiting_data closer) (facts_of_metrics (drop index metrics) (drop index limits) (drop index phases) (drop index others))) all start now
    → Remains (map (waiting_data closer) (facts_of_metrics (drop (index + 1) metrics) (drop (index + 1) limits) (drop (index + 1) phases) (drop (index + 1) others))) all start next
next_waiting metrics limits phases others index metric phase counts closer own all start now next inside read own_inside own_read phase_there counts_there adds remains =
    next_value (waiting_data closer) _ _ (metric_facts metric own phase counts) all start now next (metric_read metrics limits phases others index metric phase counts own inside read own_inside own_read phase_there counts_there) adds remains

pub no_waiting_left : (metrics : List MetricPart) (limits : List Limits) (phases : List Phase) (others : List Counts) (index : ℕ) (closer : Option ℕ) (all : List Data) (start now : Output) → length metrics ≤ index
    → Remains (map (waiting_data closer) (facts_of_metrics (drop index metrics) (drop index limits) (drop index phases) (drop index others))) all start now → AddsValues all start now
no_waiting_left metrics limits phases others index closer all start now past remains = none_remains (waiting_data closer) _ all start now (no_metric_there metrics limits phases others index past) remains

-- metrics that a run waits for
next_many : (first later left all : List Data) (start now next : Output) → left ≡ first ++ later → AddsValues first now next → Remains left all start now → Remains later all start next
next_many first later left all start now next is adds remains = record {
  ends = λ end rest. remains.ends end (subst (λ values. AddsValues values now end) (sym is) (then_values first later now next end adds rest));
}

pub next_awaited : (metrics : List MetricPart) (limits : List Limits) (phases : List Phase) (others : List Counts) (index : ℕ) (metric : MetricPart) (phase : Phase) (counts : Counts) (own : Limits) (all : List Data) (start now next : Output) → index < length metrics → metric ≡ slice_index_or metrics index metric → index < length limits → own ≡ slice_index_or limits index own → slice_get phases index ≡ Some phase → slice_get others index ≡ Some counts
    → AddsValues (awaited (metric_facts metric own phase counts)) now next
    → Remains (flat_map awaited (facts_of_metrics (drop index metrics) (drop index limits) (drop index phases) (drop index others))) all start now
    → Remains (flat_map awaited (facts_of_metrics (drop (index + 1) metrics) (drop (index + 1) limits) (drop (index + 1) phases) (drop (index + 1) others))) all start next
next_awaited metrics limits phases others index metric phase counts own all start now next inside read own_inside own_read phase_there counts_there adds remains =
    next_many _ _ _ all start now next (ap (flat_map awaited) (metric_read metrics limits phases others index metric phase counts own inside read own_inside own_read phase_there counts_there)) adds remains

pub no_awaited_left : (metrics : List MetricPart) (limits : List Limits) (phases : List Phase) (others : List Counts) (index : ℕ) (all : List Data) (start now : Output) → length metrics ≤ index
    → Remains (flat_map awaited (facts_of_metrics (drop index metrics) (drop index limits) (drop index phases) (drop index others))) all start now → AddsValues all start now
no_awaited_left metrics limits phases others index all start now past remains =
    remains.ends now (subst (λ values. AddsValues values now now) (sym (ap (flat_map awaited) (no_metric_there metrics limits phases others index past))) (no_values now))
