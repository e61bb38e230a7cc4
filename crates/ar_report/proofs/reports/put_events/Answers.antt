use Rattle.std.proofs.Common.{rules}
use Rattle.ar_facts.proofs.Lines.{is_found, next_event, no_event}
use Rattle.ar_report.proofs.reports.put_events.Goals as goal

pub put_event-requires : goal.put_event-requires
put_event-requires c = search (rules, next_event, no_event, is_found)

pub loop-entry-preserved : goal.loop-entry-preserved
loop-entry-preserved c = search (rules, next_event, no_event, is_found)

pub returns : goal.returns
returns c = search (rules, next_event, no_event, is_found)
