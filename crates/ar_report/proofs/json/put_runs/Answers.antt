use Rattle.std.proofs.Common.{ap, arith, length, rules}
use Rattle.ar_facts.proofs.Objects.{next_run, no_run}
use Rattle.ar_bundle.proofs.SoFar.{lawful_are_so_far}
use Rattle.ar_facts.proofs.Runs.{has_history}
use Rattle.ar_facts.proofs.States.{read_state}
use Rattle.ar_object.proofs.Texts.{all_remain, list_member}
use Rattle.ar_report.proofs.json.put_runs.Goals as goal

pub loop-number-init : goal.loop-number-init
loop-number-init c = all_remain _ _

pub loop-number-preserved : goal.loop-number-preserved
loop-number-preserved c =
    let next = next_run c.args.bundle.now c.args.bundle.now.runs c.runs-histories.result.now c.loop-number.number c.run-item.result c.index-histories-number.result in
    let has = has_history c.args.bundle.now c.run-item.result c.args.finished.now.histories c.loop-number.number c.runs-run-items.ensures.bundle (lawful_are_so_far c.args.bundle.now c.args.finished.now.histories c.requires.lawful) in
    search (rules, next, has)

pub write_run-requires-clause-state : goal.write_run-requires-clause-state
write_run-requires-clause-state c =
    read_state c.args.bundle.now c.args.finished.now.histories c.args.finished.now.states.items _ _ c.loop-number.number c.run-item.result c.index-histories-number.result c.entries-entries.result.now c.index.result.now c.runs-run-items.ensures.bundle (lawful_are_so_far c.args.bundle.now c.args.finished.now.histories c.requires.lawful)
    c.requires.states c.runs-run-items.ensures.runs c.runs-histories.ensures c.loop-number-test.true c.run-item.is c.index-histories-number.is c.entries-entries.ensures c.index.ensures

pub returns : goal.returns
returns c =
    let l = c.loop-number in
    let past = ap length c.runs-run-items.ensures.runs in
    let all = no_run c.args.bundle.now c.args.bundle.now.runs c.runs-histories.result.now l.number _ _ _ (omega (arith, past)) l.invariant in
    rw (← c.runs-histories.ensures) (list_member c.begin_list.ensures all c.end_list.ensures)
