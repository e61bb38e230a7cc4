use Rattle.std.proofs.Common.{arith, take}
use Rattle.std.proofs.lemmas.Grind.{common_steps}
use Rattle.std.proofs.lemmas.Result.{err_from_is_err_and}
use Rattle.ar_document.specs.Opening.{names_of}
use Rattle.ar_document.proofs.Naming.{all_new, names_before, next_new, next_numbers, not_new}
use Rattle.ar_document.proofs.runs.numbers_of.Goals as goal

pub returns-in_err-add_run-clause-new : goal.returns-in_err-add_run-clause-new
returns-in_err-add_run-clause-new c =
    let error = err_from_is_err_and c.from_residual.result c.from_residual.ensures.1 in
    let before = names_before c.args.runs.now c.loop-number.number c.index-runs-number.result c.loop-number-test.true c.index-runs-number.is in
    rw (error.1, error.2)
    (not_new c.args.runs.now c.loop-number.number c.index-runs-number.result c.loop-number-test.true c.index-runs-number.is _ c.in_err-add_run.field-0.0
    (c.in_err-add_run.ensures.new (names_of (take c.loop-number.number c.args.runs.now)) c.loop-number.invariant.numbers before) c.loop-number.invariant.new)

pub loop-number-preserved : goal.loop-number-preserved
loop-number-preserved c =
    let before = names_before c.args.runs.now c.loop-number.number c.index-runs-number.result c.loop-number-test.true c.index-runs-number.is in
    let new = c.in_ok-add_run.ensures.new (names_of (take c.loop-number.number c.args.runs.now)) c.loop-number.invariant.numbers before in
    let numbers = c.in_ok-add_run.ensures.numbers (names_of (take c.loop-number.number c.args.runs.now)) c.loop-number.invariant.numbers before in
    record {
      new = next_new c.args.runs.now c.loop-number.number c.index-runs-number.result c.loop-number-test.true c.index-runs-number.is _ new c.loop-number.invariant.new;
      numbers = next_numbers c.args.runs.now c.loop-number.number c.index-runs-number.result c.loop-number-test.true c.index-runs-number.is _ numbers;
    }

pub returns-clause-new : goal.returns-clause-new
returns-clause-new c = all_new c.args.runs.now c.loop-number.number _ c.loop-number-test.false c.loop-number.invariant.new

pub returns-clause-numbers : goal.returns-clause-numbers
returns-clause-numbers c = grind (arith, common_steps)
