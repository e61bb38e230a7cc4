use Rattle.std.proofs.Common.{arith}
use Rattle.ar_bundle.proofs.Finishing.{finished_after}
use Rattle.ar_bundle.proofs.plain.finish_plain.Goals as goal

pub returns-clause-finished : goal.returns-clause-finished
returns-clause-finished c =
    let most = c.loop-number.invariant.0 in
    let least = c.loop-number-test.false in
    let count = c.events-events.ensures.count in
    finished_after c.args.bundle.now c.loop-number.number c.loop-number.runs c.finish.result c.events-events.ensures.bundle (omega arith) c.loop-number.invariant.1 c.finish.ensures.histories c.finish.ensures.states
