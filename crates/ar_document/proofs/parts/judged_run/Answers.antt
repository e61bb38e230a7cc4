use Rattle.std.proofs.Common.{rules, length}
use Rattle.std.proofs.lemmas.Result.{err_from_is_err_and}
use Rattle.ar_document.specs.Document.{is_bundle_memory}
use Rattle.ar_document.specs.Private.Opened.{opened_with}
use Rattle.ar_value.proofs.Steps.{leads}
use Rattle.ar_document.proofs.Shortened.{bind_refused, is_shortened, judged_refused, judged_whole, shortened_many}
use Rattle.ar_document.proofs.parts.judged_run.Goals as goal

pub returns-in_err-bound-clause-refused : goal.returns-in_err-bound-clause-refused
returns-in_err-bound-clause-refused c runs =
    let error = err_from_is_err_and c.from_residual.result c.from_residual.ensures.1 in
    rw (error.1, error.2)
    (leads (is_bundle_memory c.in_err-bound.field-0.0) (bind_refused (opened_with c.args.template.now c.args.metrics.now runs) (length c.args.earlier.now) c.args.run.now c.in_err-bound.field-0.0) c.in_err-bound.ensures)

pub judges_and_limits-requires-clause-many : goal.judges_and_limits-requires-clause-many
judges_and_limits-requires-clause-many c =
    let is = is_shortened c.args.template.now c.args.run.now.own c.in_ok-bound.bound (length c.args.earlier.now) c.in_ok-bound.ensures in
    let many = shortened_many c.args.template.now c.args.run.now.own c.in_ok-bound.bound is in
    search (rules, many)

pub returns-clause-judged : goal.returns-clause-judged
returns-clause-judged c runs =
    let is = is_shortened c.args.template.now c.args.run.now.own c.in_ok-bound.bound (length c.args.earlier.now) c.in_ok-bound.ensures in
    judged_whole c.args.template.now c.args.metrics.now runs c.args.run.now c.in_ok-bound.bound c.judges_and_limits.result is (rw c.metrics.ensures at c.judges_and_limits.ensures.built) (rw c.metrics.ensures at c.judges_and_limits.ensures.limits)

pub returns-clause-refused : goal.returns-clause-refused
returns-clause-refused c runs =
    let is = is_shortened c.args.template.now c.args.run.now.own c.in_ok-bound.bound (length c.args.earlier.now) c.in_ok-bound.ensures in
    judged_refused c.args.template.now c.args.metrics.now runs (length c.args.earlier.now) c.args.run.now c.in_ok-bound.bound c.judges_and_limits.result is (rw c.metrics.ensures at c.judges_and_limits.ensures.refused)
