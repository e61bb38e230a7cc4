use Rattle.std.proofs.lemmas.Result.{err_from_is_err_and}
use Rattle.serde_json.specs.View.{view}
use Rattle.ar_manifest.proofs.Parts.{first_limits_refused, limits_made, other_limits_refused}
use Rattle.ar_manifest.proofs.reader.metric_limits.Goals as goal

pub returns-in_err-held : goal.returns-in_err-held
returns-in_err-held c =
    let error = err_from_is_err_and c.from_residual.result c.from_residual.ensures.1 in
    rw (error.1, error.2) (first_limits_refused c.args.i (view c.args.json.now) c.in_err-held.field-0.0 c.in_err-held.ensures)

pub returns-in_err-held-2 : goal.returns-in_err-held-2
returns-in_err-held-2 c =
    let error = err_from_is_err_and c.from_residual-in_err-held-2.result c.from_residual-in_err-held-2.ensures.1 in
    let refused = rw c.in_err-held-2.ensures.err at c.two_limits-others.ensures in
    rw (error.1, error.2) (other_limits_refused c.args.i (view c.args.json.now) c.in_ok-held.held c.in_ok-held.ensures c.in_err-held-2.field-0.0 refused)

pub returns : goal.returns
returns c =
    let found = rw c.in_ok-held-2.ensures.ok.0 at c.two_limits-others.ensures in
    let is = limits_made c.args.i (view c.args.json.now) c.in_ok-held.held c.in_ok-held.ensures c.in_ok-held-2.others found in
    rw c.in_ok-held-2.ensures.ok.1 is
