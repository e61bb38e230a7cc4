use Rattle.std.proofs.Common.{arith, rules, sym}
use Rattle.ar_board.proofs.CoreOpening.{all_opened, next_run}
use Rattle.ar_board.proofs.core_state.opened.Goals as goal

pub index-size-requires : goal.index-size-requires
index-size-requires c =
    let next = next_run c.args.bundle.now c.runs-parts.result.now c.loop-part.part-index c.part-item.result c.in_ok-sizes.sizes.items c.loop-part.runs.items
    c.runs-parts.ensures.bundle (sym c.runs-parts.ensures.runs) c.loop-part-test.true c.part-item.is c.in_ok-sizes.ensures.exact c.loop-part.invariant in
    let inside = next.inside in
    search (rules, inside)

pub loop-part-preserved : goal.loop-part-preserved
loop-part-preserved c =
    let next = next_run c.args.bundle.now c.runs-parts.result.now c.loop-part.part-index c.part-item.result c.in_ok-sizes.sizes.items c.loop-part.runs.items
    c.runs-parts.ensures.bundle (sym c.runs-parts.ensures.runs) c.loop-part-test.true c.part-item.is c.in_ok-sizes.ensures.exact c.loop-part.invariant in
    let more = next.more c.index-size.result.now c.in_ok-open.field-0 in
    search (rules, more)

pub returns : goal.returns
returns c = grind (arith, all_opened) steps 2000000
