use Rattle.std.proofs.Common.{◌∙◌}
use Rattle.std.proofs.lemmas.Result.{err_from_is_err_and}
use Rattle.ar_manifest.proofs.Keeping.{gives_same, limit_kept, limit_refused}
use Rattle.ar_manifest.proofs.binder.limit_in.Goals as goal

pub returns-in_err-bound : goal.returns-in_err-bound
returns-in_err-bound c =
    let error = err_from_is_err_and c.from_residual.result c.from_residual.ensures.1 in
    let scope = c.args.scope.now in
    rw (error.1, error.2) (limit_refused scope.arguments.now scope.own.now scope.metric c.args.text.now c.in_err-bound.field-0.0 c.in_err-bound.ensures)

pub returns : goal.returns
returns c =
    let scope = c.args.scope.now in
    gives_same c.limit_within.result _ (c.limit_within.ensures ∙ limit_kept scope.arguments.now scope.own.now scope.metric c.args.text.now c.in_ok-bound.bound c.in_ok-bound.ensures)
