use Rattle.std.proofs.Common.{arith, refl}
use Rattle.std.proofs.lemmas.Result.{err_from_is_err_and}
use Rattle.serde_json.specs.View.{view}
use Rattle.ar_manifest.specs.Template.{argument_of}
use Rattle.ar_manifest.proofs.Steps.{step_end, step_fault, step_more}
use Rattle.ar_manifest.proofs.reader.listed_arguments.Goals as goal

pub returns-in_err-name : goal.returns-in_err-name
returns-in_err-name c =
    let error = err_from_is_err_and c.from_residual.result c.from_residual.ensures.1 in
    rw (error.1, error.2)
    (record {
      exact = step_fault (λ json. view json) argument_of c.args.list.now c.loop-json.json-index c.loop-json.arguments _ c.json-item.result c.in_err-name.field-0.0 c.loop-json-test.true c.json-item.is c.in_err-name.ensures.exact c.loop-json.invariant;
      none = λ empty. absurd (omega (arith, empty));
    })

pub loop-json-preserved : goal.loop-json-preserved
loop-json-preserved c =
    step_more (λ json. view json) argument_of c.args.list.now c.loop-json.json-index c.loop-json.arguments _ c.json-item.result (c.in_ok-name.name, c.in_ok-name.value) c.push.new.self c.loop-json-test.true c.json-item.is
    c.in_ok-name.ensures.exact c.in_ok-push.ensures.ok c.loop-json.invariant

pub returns-clause-exact : goal.returns-clause-exact
returns-clause-exact c = step_end (λ json. view json) argument_of c.args.list.now c.loop-json.json-index c.loop-json.arguments _ c.loop-json.arguments c.loop-json-test.false refl c.loop-json.invariant
