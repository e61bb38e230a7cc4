-- Reports as JSON (RFC 8259): one object, in one line. Its members are in the byte order of their names.
use Rattle.std.specs.Prelude.{true, false, List, codes, length, map, Result, Ok, Err, Bool}
use Rattle.serde_json.specs.Data.{Data, boolean, member, no_members, null, object, string}
use Rattle.ar_object.specs.Object.{array_of, count_data, count_or_null, text_or_null, version}
use Rattle.ar_value.specs.Fault.{fault_name}
use Rattle.ar_value.specs.Limits.{most_metrics, most_runs, most_text_bytes}
use Rattle.ar_value.specs.Terms.{Text}
use Rattle.ar_value.specs.declared.fault.Fault.{Fault}
use Rattle.ar_json.specs.Declaration.{most_list_items}
use Rattle.ar_json.specs.Document.{most_bytes}
use Rattle.ar_limits.specs.Replay.{most_events}
use Rattle.ar_limits.specs.declared.counts.Counts.{Counts}
use Rattle.ar_limits.specs.declared.event.Effect.{Effect}
use Rattle.ar_limits.specs.declared.limits.Limits.{Limits}
use Rattle.ar_limits.specs.declared.phase.Phase.{Phase}
use Rattle.ar_bundle.specs.Event.{EventNumber}
use Rattle.ar_facts.specs.Facts.{ConditionFacts, EventFacts, FindingFacts, MetricFacts, RunFacts, judged, stopped}
use Rattle.ar_facts.specs.Names.{cause_if_error, closed_as, effect_name, fault_if_error, phase_name, verdict_name}

-- ---- parts

-- a list with a name, and the version
abbrev pub named_list : (name : Text) → List Data → Data
named_list name found = object
    (member name (array_of found)
    (member (codes "version") version no_members))

-- ---- a metric

abbrev pub counts_data : Counts → Data
counts_data counts = object
    (member (codes "consecutiveError") (count_data counts.succession)
    (member (codes "error") (count_data counts.error)
    (member (codes "failed") (count_data counts.failed)
    (member (codes "inconclusive") (count_data counts.inconclusive)
    (member (codes "successful") (count_data counts.successful) no_members)))))

-- `count` is null where the metric has no end
abbrev pub limits_data : Limits → Data
limits_data own = object
    (member (codes "consecutiveErrorLimit") (count_data own.consecutive_error)
    (member (codes "count") (count_or_null own.count)
    (member (codes "failureLimit") (count_data own.failure)
    (member (codes "inconclusiveLimit") (count_data own.inconclusive) no_members))))

abbrev pub metric_data : MetricFacts → Data
metric_data metric = object
    (member (codes "counts") (counts_data metric.counts)
    (member (codes "dryRun") (boolean metric.limits.dry)
    (member (codes "limits") (limits_data metric.limits)
    (member (codes "name") (string metric.name)
    (member (codes "phase") (string (phase_name metric.phase)) no_members)))))

-- ---- an event

-- `phase` is that with which the event closed its run, if it did
abbrev pub finding_data : (at : EventNumber) → Effect → FindingFacts → Data
finding_data at effect (judged metric verdict) = object
    (member (codes "cause") (text_or_null (cause_if_error verdict))
    (member (codes "effect") (string (effect_name effect))
    (member (codes "fault") (text_or_null (fault_if_error verdict))
    (member (codes "metric") (string metric)
    (member (codes "number") (count_data at)
    (member (codes "phase") (text_or_null (closed_as effect))
    (member (codes "stop") (boolean false)
    (member (codes "verdict") (string (verdict_name verdict)) no_members))))))))
finding_data at effect stopped = object
    (member (codes "cause") null
    (member (codes "effect") (string (effect_name effect))
    (member (codes "fault") null
    (member (codes "metric") null
    (member (codes "number") (count_data at)
    (member (codes "phase") (text_or_null (closed_as effect))
    (member (codes "stop") (boolean true)
    (member (codes "verdict") null no_members))))))))

abbrev pub event_data : EventFacts → Data
event_data event = finding_data event.number event.effect event.finding

-- ---- a run, and the report

abbrev pub run_with : (name : Text) → Phase → (metrics events : List Data) → Data
run_with name phase metrics events = object
    (member (codes "events") (array_of events)
    (member (codes "metrics") (array_of metrics)
    (member (codes "name") (string name)
    (member (codes "phase") (string (phase_name phase)) no_members))))

abbrev pub run_data : RunFacts → Data
run_data run = run_with run.name run.phase (map metric_data run.metrics) (map event_data run.events)

abbrev pub report_data : List RunFacts → Data
report_data runs = named_list (codes "runs") (map run_data runs)

-- ---- conditions, and what the program takes

abbrev pub condition_data : ConditionFacts → Data
condition_data condition = object
    (member (codes "budget") (count_data condition.budget)
    (member (codes "condition") (string condition.which)
    (member (codes "depth") (count_data condition.depth)
    (member (codes "metric") (string condition.metric)
    (member (codes "operations") (count_data (length condition.code.ops))
    (member (codes "run") (string condition.run) no_members))))))

-- how much the program takes at most: of a condition, a document, a list's `max`, and a document's parts
abbrev pub most_data : Data
most_data = object
    (member (codes "conditionBytes") (count_data most_text_bytes)
    (member (codes "documentBytes") (count_data most_bytes)
    (member (codes "listItems") (count_data most_list_items)
    (member (codes "measurements") (count_data most_events)
    (member (codes "metrics") (count_data most_metrics)
    (member (codes "runs") (count_data most_runs) no_members))))))

abbrev pub check_data : List ConditionFacts → Data
check_data conditions = object
    (member (codes "conditions") (array_of (map condition_data conditions))
    (member (codes "limits") most_data
    (member (codes "version") (count_data 2) no_members)))

-- ---- what one condition says of one value

abbrev pub answer_data : Result Bool Fault → Data
answer_data (Ok holds) = object
    (member (codes "answer") (boolean holds)
    (member (codes "fault") null
    (member (codes "version") version no_members)))
answer_data (Err fault) = object
    (member (codes "answer") null
    (member (codes "fault") (string (fault_name fault))
    (member (codes "version") version no_members)))
