use Rattle.std.proofs.Common.{drop, map}
use Rattle.ar_object.proofs.Texts.{Remains}
use Rattle.ar_facts.specs.Private.Entries.{facts_of_entries}
use Rattle.ar_facts.specs.ReportData.{event_data}
use Rattle.ar_report.proofs.json.put_events.Given as goal

-- the events of the entries that are left are still to be written
abbrev pub invariant-loop-entry : goal.invariant-loop-entry
invariant-loop-entry l = Remains (map event_data (facts_of_entries l.bundle (drop l.entry-index l.entries))) (map event_data (facts_of_entries l.bundle l.entries)) l.initial.json.written l.json.written
