use Rattle.std.proofs.Common.{ap, arith, length}
use Rattle.serde_json.specs.View.{view}
use Rattle.ar_bundle.proofs.SoFar.{lawful_are_so_far}
use Rattle.ar_facts.proofs.Runs.{has_history}
use Rattle.ar_object.proofs.Texts.{all_remain, list_member}
use Rattle.ar_reason.proofs.Reading.{read_run}
use Rattle.ar_reason.proofs.Runs.{next_object, no_object_left, object_passed}
use Rattle.ar_reason.proofs.data.put_runs.Goals as goal

pub loop-number-init : goal.loop-number-init
loop-number-init c = all_remain _ _

pub loop-number-preserved : goal.loop-number-preserved
loop-number-preserved c =
    let has = has_history c.args.bundle.now c.run-item.result c.args.finished.now.histories c.loop-number.number c.runs-run-items.ensures.bundle (lawful_are_so_far c.args.bundle.now c.args.finished.now.histories c.requires.lawful) in
    let next = next_object (view c.args.document.now) c.args.bundle.now c.args.chosen c.args.bundle.now.runs c.runs-histories.result.now c.loop-number.number c.run-item.result c.entries-entries.result.now in
    let passed = object_passed (view c.args.document.now) c.args.bundle.now c.args.chosen c.args.bundle.now.runs c.runs-histories.result.now c.loop-number.number c.run-item.result c.entries-entries.result.now in
    grind (arith, has, next, passed) steps 2000000

pub returns : goal.returns
returns c =
    let l = c.loop-number in
    let past = ap length c.runs-run-items.ensures.runs in
    let all = no_object_left (view c.args.document.now) c.args.bundle.now c.args.chosen c.args.bundle.now.runs c.runs-histories.result.now l.number _ _ _ (omega (arith, past)) l.invariant in
    rw (← c.runs-histories.ensures) (list_member c.begin_list.ensures all c.end_list.ensures)

pub write_run-requires-clause-run : goal.write_run-requires-clause-run
write_run-requires-clause-run c =
    (read_run c.args.bundle.now c.args.finished.now _ _ c.loop-number.number c.run-item.result c.index-histories-number.result c.entries-entries.result.now c.index.result.now c.runs-run-items.ensures.bundle c.requires c.runs-run-items.ensures.runs c.runs-histories.ensures
    c.loop-number-test.true c.run-item.is c.index-histories-number.is c.entries-entries.ensures c.index.ensures).is_run

pub write_run-requires-clause-there : goal.write_run-requires-clause-there
write_run-requires-clause-there c =
    (read_run c.args.bundle.now c.args.finished.now _ _ c.loop-number.number c.run-item.result c.index-histories-number.result c.entries-entries.result.now c.index.result.now c.runs-run-items.ensures.bundle c.requires c.runs-run-items.ensures.runs c.runs-histories.ensures
    c.loop-number-test.true c.run-item.is c.index-histories-number.is c.entries-entries.ensures c.index.ensures).there

pub write_run-requires-clause-found : goal.write_run-requires-clause-found
write_run-requires-clause-found c =
    (read_run c.args.bundle.now c.args.finished.now _ _ c.loop-number.number c.run-item.result c.index-histories-number.result c.entries-entries.result.now c.index.result.now c.runs-run-items.ensures.bundle c.requires c.runs-run-items.ensures.runs c.runs-histories.ensures
    c.loop-number-test.true c.run-item.is c.index-histories-number.is c.entries-entries.ensures c.index.ensures).found

pub write_run-requires-clause-few : goal.write_run-requires-clause-few
write_run-requires-clause-few c =
    (read_run c.args.bundle.now c.args.finished.now _ _ c.loop-number.number c.run-item.result c.index-histories-number.result c.entries-entries.result.now c.index.result.now c.runs-run-items.ensures.bundle c.requires c.runs-run-items.ensures.runs c.runs-histories.ensures
    c.loop-number-test.true c.run-item.is c.index-histories-number.is c.entries-entries.ensures c.index.ensures).few

pub write_run-requires-clause-state : goal.write_run-requires-clause-state
write_run-requires-clause-state c =
    (read_run c.args.bundle.now c.args.finished.now _ _ c.loop-number.number c.run-item.result c.index-histories-number.result c.entries-entries.result.now c.index.result.now c.runs-run-items.ensures.bundle c.requires c.runs-run-items.ensures.runs c.runs-histories.ensures
    c.loop-number-test.true c.run-item.is c.index-histories-number.is c.entries-entries.ensures c.index.ensures).leads
