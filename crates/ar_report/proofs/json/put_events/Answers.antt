use Rattle.std.proofs.Common.{arith, rules}
use Rattle.ar_facts.proofs.Lines.{is_found}
use Rattle.ar_facts.proofs.Objects.{next_event, no_event}
use Rattle.ar_object.proofs.Texts.{all_remain, list_member}
use Rattle.ar_report.proofs.json.put_events.Goals as goal

pub loop-entry-init : goal.loop-entry-init
loop-entry-init c = all_remain _ _

pub write_event-requires : goal.write_event-requires
write_event-requires c = search (rules, is_found)

pub loop-entry-preserved : goal.loop-entry-preserved
loop-entry-preserved c = search (rules, next_event)

pub returns : goal.returns
returns c =
    let l = c.loop-entry in
    list_member c.begin_list.ensures (no_event c.args.bundle.now c.args.entries.now l.entry-index _ _ _ (omega arith) l.invariant) c.end_list.ensures
