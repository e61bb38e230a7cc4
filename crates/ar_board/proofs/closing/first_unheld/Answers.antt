use Rattle.std.proofs.Common.{rules, ◌<◌, length, arith}
use Rattle.ar_board.proofs.Stored.{there_next, first_nowhere, first_unmet}
use Rattle.ar_board.proofs.closing.first_unheld.Goals as goal
use Rattle.ar_board.proofs.closing.first_unheld.Goals.{then-unmet-number-via-then-unmet-number, then-unmet-number-via-else-unmet-number+then-not-stored-number}

pub returns-then-unmet-number : goal.returns-then-unmet-number
returns-then-unmet-number c =
    let inside : c.loop-number.number < length c.args.unmet.now = c.loop-number-test.true in
    let many = c.requires in
    let stored_inside : c.loop-number.number < length c.args.stored.now = omega arith in
    elim c.then-unmet-number.branch [
      | then-unmet-number-via-then-unmet-number w ↦ first_unmet c.args.unmet.now c.args.stored.now c.loop-number.number inside w.if-unmet-number.true c.loop-number.invariant
      | then-unmet-number-via-else-unmet-number+then-not-stored-number w ↦ first_nowhere c.args.unmet.now c.args.stored.now c.loop-number.number inside stored_inside w.if-not-stored-number.true c.loop-number.invariant
    ]

pub loop-number-preserved : goal.loop-number-preserved
loop-number-preserved c = search (rules, first_unmet, first_nowhere, there_next)
