use Rattle.std.proofs.Common.{rules}
use Rattle.std.proofs.lemmas.Result.{err_from_is_err_and}
use Rattle.ar_manifest.specs.Bound.{bound_condition}
use Rattle.ar_manifest.proofs.Keeping.{condition_kept, condition_refused}
use Rattle.ar_manifest.proofs.binder.condition.Goals as goal

pub returns-in_default-clause-exact : goal.returns-in_default-clause-exact
unfolding bound_condition
returns-in_default-clause-exact c = search rules

pub returns-in_err-bound-clause-exact : goal.returns-in_err-bound-clause-exact
returns-in_err-bound-clause-exact c =
    let error = err_from_is_err_and c.from_residual.result c.from_residual.ensures.1 in
    let scope = c.args.scope.now in
    let refused = rw (c.most_kept.ensures, c.as_str.ensures) at c.in_err-bound.ensures in
    rw (error.1, error.2, c.in-Some.is) (condition_refused scope.arguments.now scope.own.now scope.metric scope.shortens c.in-Some.condition c.in_err-bound.field-0.0 refused)

pub returns-clause-exact : goal.returns-clause-exact
returns-clause-exact c =
    let scope = c.args.scope.now in
    let bound = rw (c.most_kept.ensures, c.as_str.ensures) at c.in_ok-bound.ensures in
    rw c.in-Some.is (condition_kept scope.arguments.now scope.own.now scope.metric scope.shortens c.in-Some.condition c.in_ok-bound.bound c.in_ok-condition_within.field-0 bound c.in_ok-condition_within.ensures)
