use Rattle.std.proofs.Common.{rules}
use Rattle.ar_bundle.proofs.Grown.{opened_next}
use Rattle.ar_bundle.proofs.runs.Runs.open.Goals as goal

pub loop-part-preserved : goal.loop-part-preserved
loop-part-preserved c =
    let next = opened_next c.args.bundle.now c.runs-parts.result.now c.loop-part.part-index c.part-item.result c.loop-part.states.items c.loop-part.histories.items c.in_ok-new.field-0 c.new-in-loop-part.result c.loop-part-test.true c.part-item.is c.loop-part.invariant in
    search (rules, next)
