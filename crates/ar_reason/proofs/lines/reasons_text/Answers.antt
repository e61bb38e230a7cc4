use Rattle.std.proofs.Common.{arith}
use Rattle.std.proofs.lemmas.Grind.{common_steps}
use Rattle.serde_json.specs.View.{view}
use Rattle.ar_bundle.proofs.SoFar.{lawful_are_so_far}
use Rattle.ar_facts.proofs.Runs.{has_history}
use Rattle.ar_reason.proofs.Reading.{read_run}
use Rattle.ar_reason.proofs.Runs.{next_run, run_passed}
use Rattle.ar_reason.proofs.lines.reasons_text.Goals as goal

pub loop-number-preserved : goal.loop-number-preserved
loop-number-preserved c =
    let has = has_history c.args.bundle.now c.run-item.result c.args.finished.now.histories c.loop-number.number c.runs-run-items.ensures.bundle (lawful_are_so_far c.args.bundle.now c.args.finished.now.histories c.requires.lawful) in
    let next = next_run (view c.args.document.now) c.args.bundle.now c.args.chosen c.args.bundle.now.runs c.runs-histories.result.now c.loop-number.number c.run-item.result c.entries-entries.result.now in
    let passed = run_passed (view c.args.document.now) c.args.bundle.now c.args.chosen c.args.bundle.now.runs c.runs-histories.result.now c.loop-number.number c.run-item.result c.entries-entries.result.now in
    grind (arith, has, next, passed) steps 2000000

pub returns : goal.returns
returns c = grind (arith, common_steps) steps 2000000

pub push_run-requires-clause-run : goal.push_run-requires-clause-run
push_run-requires-clause-run c =
    (read_run c.args.bundle.now c.args.finished.now _ _ c.loop-number.number c.run-item.result c.index-histories-number.result c.entries-entries.result.now c.index.result.now c.runs-run-items.ensures.bundle c.requires c.runs-run-items.ensures.runs c.runs-histories.ensures
    c.loop-number-test.true c.run-item.is c.index-histories-number.is c.entries-entries.ensures c.index.ensures).is_run

pub push_run-requires-clause-there : goal.push_run-requires-clause-there
push_run-requires-clause-there c =
    (read_run c.args.bundle.now c.args.finished.now _ _ c.loop-number.number c.run-item.result c.index-histories-number.result c.entries-entries.result.now c.index.result.now c.runs-run-items.ensures.bundle c.requires c.runs-run-items.ensures.runs c.runs-histories.ensures
    c.loop-number-test.true c.run-item.is c.index-histories-number.is c.entries-entries.ensures c.index.ensures).there

pub push_run-requires-clause-found : goal.push_run-requires-clause-found
push_run-requires-clause-found c =
    (read_run c.args.bundle.now c.args.finished.now _ _ c.loop-number.number c.run-item.result c.index-histories-number.result c.entries-entries.result.now c.index.result.now c.runs-run-items.ensures.bundle c.requires c.runs-run-items.ensures.runs c.runs-histories.ensures
    c.loop-number-test.true c.run-item.is c.index-histories-number.is c.entries-entries.ensures c.index.ensures).found

pub push_run-requires-clause-few : goal.push_run-requires-clause-few
push_run-requires-clause-few c =
    (read_run c.args.bundle.now c.args.finished.now _ _ c.loop-number.number c.run-item.result c.index-histories-number.result c.entries-entries.result.now c.index.result.now c.runs-run-items.ensures.bundle c.requires c.runs-run-items.ensures.runs c.runs-histories.ensures
    c.loop-number-test.true c.run-item.is c.index-histories-number.is c.entries-entries.ensures c.index.ensures).few

pub push_run-requires-clause-state : goal.push_run-requires-clause-state
push_run-requires-clause-state c =
    (read_run c.args.bundle.now c.args.finished.now _ _ c.loop-number.number c.run-item.result c.index-histories-number.result c.entries-entries.result.now c.index.result.now c.runs-run-items.ensures.bundle c.requires c.runs-run-items.ensures.runs c.runs-histories.ensures
    c.loop-number-test.true c.run-item.is c.index-histories-number.is c.entries-entries.ensures c.index.ensures).leads
