-- Objects of reports: lists of them, one after another, and that none is deep.
use Rattle.std.proofs.Common.{◌≡◌, ◌<◌, ◌≤◌, ℕ, ◌+◌, Bool, List, length, map, drop, Some, Result, Ok, Err, refl, sym, ap, arith}
use Rattle.std.specs.Prelude.{slice_get, slice_index_or}
use Rattle.serde_json.specs.Data.{Data, depth}
use Rattle.serde_json.specs.Read.{max_depth}
use Rattle.ar_value.specs.declared.fault.Fault.{Fault}
use Rattle.ar_limits.specs.declared.counts.Counts.{Counts}
use Rattle.ar_limits.specs.declared.limits.Limits.{Limits}
use Rattle.ar_limits.specs.declared.phase.Phase.{Phase}
use Rattle.ar_limits.specs.Replay.{Replays, Standing}
use Rattle.ar_limits.specs.Run.{effects}
use Rattle.ar_bundle.specs.Bundle.{Bundle, events_of}
use Rattle.ar_bundle.specs.Lawful.{numbers_of}
use Rattle.ar_bundle.specs.declared.bundle.MetricPart.{MetricPart}
use Rattle.ar_bundle.specs.declared.bundle.RunPart.{RunPart}
use Rattle.ar_bundle.specs.declared.history.Entry.{Entry}
use Rattle.ar_facts.specs.Facts.{ConditionFacts, EventFacts, FindingFacts, MetricFacts, RunFacts, event_facts, facts_of_metrics, facts_of_runs, judged, metric_facts, run_facts, stopped}
use Rattle.ar_facts.specs.Names.{cause_if_error, closed_as, fault_if_error}
use Rattle.ar_facts.specs.Private.Entries.{facts_of_entries}
use Rattle.ar_facts.specs.ReportData.{answer_data, check_data, condition_data, event_data, finding_data, metric_data, report_data, run_data, run_with}
use Rattle.ar_object.proofs.Texts.{Remains, next_value, none_remains}
use Rattle.ar_object.proofs.Values.{above, count_flat, few, none_deep, one_deep, text_flat, two_deep}
use Rattle.ar_object.specs.Written.{AddsValue, AddsValues, Output}
use Rattle.ar_facts.proofs.Lines.{entry_read, metric_read, no_entry, no_metric_left, run_facts_are}
use Rattle.ar_facts.proofs.Runs.{no_run_read, run_read}

-- ---- one after another

pub next_metric : (metrics : List MetricPart) (limits : List Limits) (phases : List Phase) (others : List Counts) (index : ℕ) (metric : MetricPart) (phase : Phase) (counts : Counts) (own : Limits) (all : List Data) (start now next : Output) → index < length metrics → metric ≡ slice_index_or metrics index metric → index < length limits → own ≡ slice_index_or limits index own → slice_get phases index ≡ Some phase → slice_get others index ≡ Some counts
    → AddsValue (metric_data (metric_facts metric own phase counts)) now next
    → Remains (map metric_data (facts_of_metrics (drop index metrics) (drop index limits) (drop index phases) (drop index others))) all start now
    → Remains (map metric_data (facts_of_metrics (drop (index + 1) metrics) (drop (index + 1) limits) (drop (index + 1) phases) (drop (index + 1) others))) all start next
next_metric metrics limits phases others index metric phase counts own all start now next inside read own_inside own_read phase_there counts_there adds remains =
    next_value metric_data _ _ (metric_facts metric own phase counts) all start now next (metric_read metrics limits phases others index metric phase counts own inside read own_inside own_read phase_there counts_there) adds remains

pub no_metric : (metrics : List MetricPart) (limits : List Limits) (phases : List Phase) (others : List Counts) (index : ℕ) (all : List Data) (start now : Output) → length metrics ≤ index
    → Remains (map metric_data (facts_of_metrics (drop index metrics) (drop index limits) (drop index phases) (drop index others))) all start now → AddsValues all start now
no_metric metrics limits phases others index all start now past remains = none_remains metric_data _ all start now (no_metric_left metrics limits phases others index past) remains

pub next_event : (bundle : Bundle) (entries : List Entry) (index : ℕ) (entry : Entry) (all : List Data) (start now next : Output) → index < length entries → entry ≡ slice_index_or entries index entry → AddsValue (event_data (event_facts bundle entry.number entry.effect)) now next
    → Remains (map event_data (facts_of_entries bundle (drop index entries))) all start now → Remains (map event_data (facts_of_entries bundle (drop (index + 1) entries))) all start next
next_event bundle entries index entry all start now next inside read adds remains =
    next_value event_data _ _ (event_facts bundle entry.number entry.effect) all start now next (entry_read bundle entries index entry inside read) adds remains

pub no_event : (bundle : Bundle) (entries : List Entry) (index : ℕ) (all : List Data) (start now : Output) → length entries ≤ index → Remains (map event_data (facts_of_entries bundle (drop index entries))) all start now → AddsValues all start now
no_event bundle entries index all start now past remains = none_remains event_data _ all start now (no_entry bundle entries index past) remains

pub next_run : (bundle : Bundle) (runs : List RunPart) (histories : List (List Entry)) (index : ℕ) (run : RunPart) (history : List Entry) (all : List Data) (start now next : Output) → index < length runs → run ≡ slice_index_or runs index run → index < length histories → history ≡ slice_index_or histories index history
    → AddsValue (run_data (run_facts bundle run (numbers_of history))) now next
    → Remains (map run_data (facts_of_runs bundle (drop index runs) (map numbers_of (drop index histories)))) all start now
    → Remains (map run_data (facts_of_runs bundle (drop (index + 1) runs) (map numbers_of (drop (index + 1) histories)))) all start next
next_run bundle runs histories index run history all start now next inside read history_inside history_read adds remains =
    next_value run_data _ _ (run_facts bundle run (numbers_of history)) all start now next (run_read bundle runs histories index run history inside read history_inside history_read) adds remains

pub no_run : (bundle : Bundle) (runs : List RunPart) (histories : List (List Entry)) (index : ℕ) (all : List Data) (start now : Output) → length runs ≤ index
    → Remains (map run_data (facts_of_runs bundle (drop index runs) (map numbers_of (drop index histories)))) all start now → AddsValues all start now
no_run bundle runs histories index all start now past remains = none_remains run_data _ all start now (no_run_read bundle runs histories index past) remains

-- ---- no object is deep

pub metric_flat : (metric : MetricFacts) → depth (metric_data metric) ≡ 2
metric_flat metric = rw (count_flat metric.limits.count) refl

pub finding_flat : (event : EventFacts) (finding : FindingFacts) → depth (finding_data event.number event.effect finding) ≡ 1
finding_flat event (judged metric verdict) = rw (text_flat (cause_if_error verdict), text_flat (fault_if_error verdict), text_flat (closed_as event.effect)) refl
finding_flat event stopped = rw (text_flat (closed_as event.effect)) refl

run_flat : (run : RunFacts) → depth (run_data run) ≤ 4
run_flat run =
    let events = above (none_deep event_data 2 (λ event. let is = finding_flat event event.finding in omega arith) run.events) in
    let metrics = above (none_deep metric_data 2 (λ metric. let is = metric_flat metric in omega arith) run.metrics) in
    two_deep _ _ 3 events metrics

pub report_flat : (runs : List RunFacts) → depth (report_data runs) ≤ max_depth
report_flat runs = few (one_deep _ 9 (above (none_deep run_data 8 (λ run. let less = run_flat run in omega arith) runs)))

pub check_flat : (conditions : List ConditionFacts) → depth (check_data conditions) ≤ max_depth
check_flat conditions = few (two_deep _ 1 9 (above (none_deep condition_data 8 (λ condition. omega arith) conditions)) (omega arith))

pub answer_flat : (answer : Result Bool Fault) → depth (answer_data answer) ≤ max_depth
answer_flat (Ok holds) = few (omega arith)
answer_flat (Err fault) = few (omega arith)

-- ---- a run

pub run_is : (bundle : Bundle) (run : RunPart) (entries : List Entry) (state : Standing) → Replays run.limits (events_of bundle (numbers_of entries)) state → map (λ (entry : Entry). entry.effect) entries ≡ effects run.limits (events_of bundle (numbers_of entries))
    → run_with run.name state.phase (map metric_data (facts_of_metrics bundle.metrics run.limits state.phases state.counts)) (map event_data (facts_of_entries bundle entries)) ≡ run_data (run_facts bundle run (numbers_of entries))
run_is bundle run entries state replays are = ap run_data (sym (run_facts_are bundle run entries state replays are))
