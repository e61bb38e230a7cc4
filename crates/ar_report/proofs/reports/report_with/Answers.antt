use Rattle.std.proofs.Common.{arith, rules}
use Rattle.std.proofs.lemmas.Grind.{common_steps}
use Rattle.ar_facts.proofs.Runs.{next_run, no_run, has_history, run_is_run}
use Rattle.ar_facts.proofs.States.{read_state, state_inside}
use Rattle.ar_report.proofs.reports.report_with.Goals as goal

pub bounds-histories-number : goal.bounds-histories-number
bounds-histories-number c =
    let has = has_history c.args.bundle.now c.run-item.result c.args.histories.now c.loop-number.number c.runs-run-items.ensures.bundle c.requires.so_far in
    search (rules, has)

pub bounds-states-number : goal.bounds-states-number
bounds-states-number c = search (rules, state_inside)

pub put_run-requires-clause-run : goal.put_run-requires-clause-run
put_run-requires-clause-run c =
    let is = run_is_run c.args.bundle.now c.run-item.result c.loop-number.number c.runs-run-items.ensures.bundle in
    search (rules, is)

pub put_run-requires-clause-found : goal.put_run-requires-clause-found
put_run-requires-clause-found c =
    let has = has_history c.args.bundle.now c.run-item.result c.args.histories.now c.loop-number.number c.runs-run-items.ensures.bundle c.requires.so_far in
    search (rules, has)

pub put_run-requires-clause-effects : goal.put_run-requires-clause-effects
put_run-requires-clause-effects c = search (rules, has_history, next_run, no_run, run_is_run)

pub put_run-requires-clause-state : goal.put_run-requires-clause-state
put_run-requires-clause-state c =
    read_state c.args.bundle.now c.args.histories.now c.args.states.now _ _ c.loop-number.number c.run-item.result c.index-histories-number.result c.entries-entries.result.now c.index-states-number.result c.runs-run-items.ensures.bundle c.requires.so_far c.requires.states c.runs-run-items.ensures.runs c.runs-histories.ensures
    c.loop-number-test.true c.run-item.is c.index-histories-number.is c.entries-entries.ensures c.index-states-number.is

pub loop-number-preserved : goal.loop-number-preserved
loop-number-preserved c = search (rules, has_history, next_run, no_run, run_is_run)

pub returns : goal.returns
returns c = grind (arith, common_steps)
