use Rattle.std.proofs.Common.{◌≡◌, Err, refl, sym, ◌∙◌}
use Rattle.std.proofs.lemmas.Result.{err_from_is_err_and}
use Rattle.ar_manifest.proofs.Parts.{conditions_refused, kept_refused, limits_refused, metric_made, refused_by_limits}
use Rattle.ar_manifest.proofs.binder.metric.Goals as goal

pub returns-in_err-held-clause-exact : goal.returns-in_err-held-clause-exact
returns-in_err-held-clause-exact c =
    let error = err_from_is_err_and c.from_residual.result c.from_residual.ensures.1 in
    let scope = c.args.scope.now in
    rw (error.1, error.2) (conditions_refused scope.arguments.now scope.own.now scope.metric c.args.metric.now scope.shortens c.in_err-held.field-0.0 c.in_err-held.ensures.exact)

pub returns-in_err-held-2-clause-exact : goal.returns-in_err-held-2-clause-exact
returns-in_err-held-2-clause-exact c =
    let error = err_from_is_err_and c.from_residual-in_err-held-2.result c.from_residual-in_err-held-2.ensures.1 in
    let scope = c.args.scope.now in
    let refused = rw c.in_err-held-2.ensures.err at c.limits.ensures.exact in
    rw (error.1, error.2) (limits_refused scope.arguments.now scope.own.now scope.metric c.args.metric.now scope.shortens c.in_ok-held.held c.in_ok-held.ensures.exact c.in_err-held-2.field-0.0 refused)

pub returns-in_err-held-2-clause-plain : goal.returns-in_err-held-2-clause-plain
returns-in_err-held-2-clause-plain c = λ plain refusal refused.
    let error = err_from_is_err_and c.from_residual-in_err-held-2.result c.from_residual-in_err-held-2.ensures.1 in
    let scope = c.args.scope.now in
    let reported : c.limits.result ≡ Err refusal = c.limits.ensures.plain plain refusal (refused_by_limits scope.arguments.now scope.own.now scope.metric c.args.metric.now scope.shortens c.in_ok-held.held c.in_ok-held.ensures.exact refusal refused) in
    let fault : c.limits.result ≡ Err c.in_err-held-2.field-0.0 = c.in_err-held-2.ensures.err in
    let same : c.in_err-held-2.field-0.0 ≡ refusal = cc in
    rw (error.1, error.2, same) refl

pub returns-in_err-held-3-clause-plain : goal.returns-in_err-held-3-clause-plain
returns-in_err-held-3-clause-plain c = λ plain refusal refused.
    let scope = c.args.scope.now in
    let made = rw c.in_ok-held-2.ensures.ok.0 at c.limits.ensures.exact in
    let is = metric_made scope.arguments.now scope.own.now scope.metric c.args.metric.now scope.shortens c.in_ok-held.held c.in_ok-held.ensures.exact c.in_ok-held-2.limits made in
    absurd (let impossible = sym is ∙ kept_refused scope.arguments.now scope.own.now scope.metric c.args.metric.now scope.shortens refusal refused in cc)

pub returns-clause-exact : goal.returns-clause-exact
returns-clause-exact c =
    let scope = c.args.scope.now in
    let made = rw c.in_ok-held-2.ensures.ok.0 at c.limits.ensures.exact in
    let is = metric_made scope.arguments.now scope.own.now scope.metric c.args.metric.now scope.shortens c.in_ok-held.held c.in_ok-held.ensures.exact c.in_ok-held-2.limits made in
    let held : c.in_ok-held-3.held ≡ c.in_ok-held.held = c.in_ok-held-3.ensures.ok.1 ∙ c.in_ok-held-2.ensures.ok.1 in
    let copied = rw c.in_ok-held-3.ensures.ok.0 at c.of.ensures in
    let name : c.in_ok-held-3.name ≡ c.args.metric.now.name = copied ∙ c.as_str.ensures in
    rw (held, name) is

pub returns-clause-plain : goal.returns-clause-plain
returns-clause-plain c = λ plain refusal refused.
    let scope = c.args.scope.now in
    let made = rw c.in_ok-held-2.ensures.ok.0 at c.limits.ensures.exact in
    let is = metric_made scope.arguments.now scope.own.now scope.metric c.args.metric.now scope.shortens c.in_ok-held.held c.in_ok-held.ensures.exact c.in_ok-held-2.limits made in
    absurd (let impossible = sym is ∙ kept_refused scope.arguments.now scope.own.now scope.metric c.args.metric.now scope.shortens refusal refused in cc)
