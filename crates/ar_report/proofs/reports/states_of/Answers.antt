use Rattle.std.proofs.Common.{List, ap, arith, length, subst}
use Rattle.ar_bundle.specs.Finished.{AreStatesOf}
use Rattle.ar_bundle.specs.declared.history.Entry.{Entry}
use Rattle.ar_facts.proofs.States.{all_states}
use Rattle.ar_report.proofs.reports.states_of.Goals as goal

pub returns : goal.returns
returns c =
    let past = ap length c.runs-run-items.ensures.runs in
    let least = c.loop-number-test.false in
    subst (λ (histories : List (List Entry)). AreStatesOf c.args.bundle.now histories c.loop-number.states.items) c.runs-histories.ensures
    (all_states c.args.bundle.now c.runs-histories.result.now c.loop-number.states.items c.loop-number.number (omega arith) c.loop-number.invariant)
