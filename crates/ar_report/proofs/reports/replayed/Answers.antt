use Rattle.std.proofs.Common.{rules, ◌+◌, ◌∙◌, ap}
use Rattle.ar_facts.proofs.Lines.{is_found}
use Rattle.ar_facts.proofs.Replaying.{next_entry, no_entry_left, of_metric, room_left, next_read}
use Rattle.ar_report.proofs.reports.replayed.Goals as goal

pub loop-entry-preserved : goal.loop-entry-preserved
loop-entry-preserved c = (
  next_read c.args.bundle.now c.args.run.now.limits c.args.entries.now c.loop-entry.entry-index _ c.event.result c.loop-entry.state c.apply.new.self c.loop-entry-test.true c.event.ensures.exact c.loop-entry.invariant.0 c.apply.ensures.replays,
  c.apply.ensures.handed ∙ ap (λ handed. handed + 1) c.loop-entry.invariant.1,
)

pub event-requires : goal.event-requires
event-requires c = search (rules, is_found, next_entry, no_entry_left, of_metric, room_left)

pub returns : goal.returns
returns c = search (rules, is_found, next_entry, no_entry_left, of_metric, room_left)
