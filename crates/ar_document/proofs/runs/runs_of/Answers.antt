use Rattle.std.proofs.Common.{◌≡◌, ◌+◌, length, length-append, arith}
use Rattle.std.proofs.lemmas.Result.{err_from_is_err_and}
use Rattle.serde_json.specs.View.{view}
use Rattle.ar_document.specs.Opening.{run_of}
use Rattle.ar_document.specs.declared.runs.Run.{Run}
use Rattle.ar_document.proofs.Steps.{as_it_is, step_end, step_fault, step_more}
use Rattle.ar_document.proofs.runs.runs_of.Goals as goal

pub returns-in_err-made-clause-exact : goal.returns-in_err-made-clause-exact
returns-in_err-made-clause-exact c =
    let error = err_from_is_err_and c.from_residual-in_err-made.result c.from_residual-in_err-made.ensures.1 in
    rw (error.1, error.2)
    (step_fault (λ json. view json) (λ (run : Run). run) (λ earlier. run_of) c.args.items.now c.loop-item.item-index c.loop-item.runs.items _ c.item-item.result c.in_err-made.field-0.0 c.loop-item-test.true c.item-item.is c.in_err-made.ensures c.loop-item.invariant.made)

pub loop-item-preserved : goal.loop-item-preserved
loop-item-preserved c =
    let grown : length c.try_push.new.list.items ≡ length c.loop-item.runs.items + 1 = rw c.in_ok-try_push.ensures (length-append _ _) in
    record {
      made = step_more (λ json. view json) (λ (run : Run). run) (λ earlier. run_of) c.args.items.now c.loop-item.item-index c.loop-item.runs.items _ c.item-item.result c.in_ok-made.made c.try_push.new.list.items c.loop-item-test.true c.item-item.is c.in_ok-made.ensures c.in_ok-try_push.ensures c.loop-item.invariant.made;
      each = omega (arith, grown, c.loop-item.invariant.each);
    }

pub returns-clause-exact : goal.returns-clause-exact
returns-clause-exact c = as_it_is _ c.loop-item.runs.items (step_end (λ json. view json) (λ (run : Run). run) (λ earlier. run_of) c.args.items.now c.loop-item.item-index c.loop-item.runs.items _ c.loop-item-test.false c.loop-item.invariant.made)
