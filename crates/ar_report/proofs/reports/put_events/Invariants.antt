use Rattle.std.proofs.Common.{◌≡◌, ◌++◌, drop, flat_map, string_bytes}
use Rattle.ar_facts.specs.Private.Entries.{facts_of_entries}
use Rattle.ar_facts.specs.Report.{event_line}
use Rattle.ar_report.proofs.reports.put_events.Given as goal

-- the lines so far come before those of the entries that are left
abbrev pub invariant-loop-entry : goal.invariant-loop-entry
invariant-loop-entry l = string_bytes l.out ++ flat_map event_line (facts_of_entries l.bundle (drop l.entry-index l.entries)) ≡ string_bytes l.initial.out ++ flat_map event_line (facts_of_entries l.bundle l.entries)
