use Rattle.std.proofs.Common.{length, ap, arith}
use Rattle.ar_board.proofs.NumberLists.{lists_all, lists_more, lists_none}
use Rattle.ar_board.proofs.core_state.own_numbers.own_numbers.Goals as goal

pub loop-number-init : goal.loop-number-init
loop-number-init c = (omega arith, lists_none c.args.bundle.now (length c.runs.result.now) c.in_ok-own.own.items (ap length c.runs.ensures.runs) c.in_ok-own.ensures)

pub loop-number-preserved : goal.loop-number-preserved
loop-number-preserved c =
    let few = c.events-number-end.ensures.count in
    (omega arith, lists_more c.args.bundle.now c.loop-number.number c.run_of.result c.loop-number.own.items c.index_mut-list.result.now c.push.new.self (omega arith) c.run_of.ensures.own c.run_of.ensures.there c.index_mut-list.ensures.value c.in_ok-push.ensures.items c.loop-number.invariant.1)

pub returns : goal.returns
returns c =
    let few = c.events-number-end.ensures.count in
    lists_all c.args.bundle.now c.loop-number.number _ (omega arith) c.loop-number.invariant.1
