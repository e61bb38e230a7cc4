use Rattle.ar_board.proofs.CorePost.{found_at, is_appended}
use Rattle.ar_board.proofs.core_state.append.Goals as goal

pub event-event-requires : goal.event-event-requires
event-event-requires c = found_at c.args.bundle.now c.args.findings.now c.args.number _ c.requires.findings c.requires.inside

pub returns : goal.returns
returns c = is_appended c.args.bundle.now c.args.findings.now c.args.number _ c.event-event.result c.append.result c.args.run.now c.append.new.self c.requires.findings c.requires.inside c.event-event.ensures.exact c.append.ensures
