use Rattle.std.proofs.Common.{◌<◌, length, refl, arith}
use Rattle.std.proofs.lemmas.Grind.{common_steps}
use Rattle.std.proofs.lemmas.Option.{slice_get_read}
use Rattle.std.proofs.lemmas.Result.{err_from_is_err_and}
use Rattle.ar_document.specs.Document.{is_bundle_memory}
use Rattle.ar_document.proofs.Growing.{next_judge}
use Rattle.ar_document.proofs.Refusing.{next_refused}
use Rattle.ar_value.proofs.Steps.{leads}
use Rattle.ar_document.proofs.parts.judges_of.Goals as goal

pub judge_of-requires : goal.judge_of-requires
judge_of-requires c =
    c.requires.earlier c.loop-number.number c.index-metrics-number.result
    (slice_get_read c.args.metrics.now (length c.args.metrics.now) c.loop-number.number c.index-metrics-number.result refl c.loop-number-test.true c.index-metrics-number.is)

pub returns-in_err-judge-clause-refused : goal.returns-in_err-judge-clause-refused
returns-in_err-judge-clause-refused c =
    let error = err_from_is_err_and c.from_residual-in_err-judge.result c.from_residual-in_err-judge.ensures.1 in
    let inside : c.loop-number.number < length c.args.bound.now = omega (arith, c.requires.many, c.loop-number-test.true) in
    rw (error.1, error.2)
    (leads (is_bundle_memory c.in_err-judge.field-0.0)
    (next_refused c.args.run c.args.metrics.now c.args.bound.now c.loop-number.judges.items c.loop-number.number c.index-metrics-number.result c.index-bound-number.result c.in_err-judge.field-0.0 c.loop-number-test.true inside c.index-metrics-number.is c.index-bound-number.is c.loop-number.invariant)
    c.in_err-judge.ensures.refused)

pub loop-number-preserved : goal.loop-number-preserved
loop-number-preserved c =
    let inside : c.loop-number.number < length c.args.bound.now = omega (arith, c.requires.many, c.loop-number-test.true) in
    rw c.in_ok-try_push.ensures
    (next_judge c.args.metrics.now c.args.bound.now c.loop-number.judges.items c.loop-number.number c.index-metrics-number.result c.index-bound-number.result c.in_ok-judge.judge c.loop-number-test.true inside c.index-metrics-number.is c.index-bound-number.is c.loop-number.invariant c.in_ok-judge.ensures.built)

pub returns-clause-built : goal.returns-clause-built
returns-clause-built c = grind (arith, common_steps)
