use Rattle.std.proofs.Common.{◌≡◌, Err, Ok, refl, sym, ◌∙◌}
use Rattle.std.proofs.lemmas.Result.{err_from_is_err_and}
use Rattle.serde_json.specs.View.{view}
use Rattle.ar_manifest.specs.Template.{template_of}
use Rattle.ar_manifest.proofs.Parts.{arguments_refused, counted_refused, head_refused, metrics_refused, template_made}
use Rattle.ar_manifest.proofs.Steps.{refuses_same}
use Rattle.ar_manifest.proofs.reader.template.Goals as goal

pub returns-in_err-name-clause-exact : goal.returns-in_err-name-clause-exact
returns-in_err-name-clause-exact c =
    let error = err_from_is_err_and c.from_residual.result c.from_residual.ensures.1 in
    let d = view c.args.json.now in
    rw (error.1, error.2) (refuses_same c.in_err-name.field-0.0 (template_of d) (head_refused d c.in_err-name.field-0.0 c.in_err-name.ensures))

pub returns-in_err-arguments-clause-exact : goal.returns-in_err-arguments-clause-exact
returns-in_err-arguments-clause-exact c =
    let error = err_from_is_err_and c.from_residual-in_err-arguments.result c.from_residual-in_err-arguments.ensures.1 in
    let refused = rw c.member_of_member.ensures at c.in_err-arguments.ensures.exact in
    rw (error.1, error.2) (arguments_refused (view c.args.json.now) c.in_ok-name.name.now c.in_ok-name.ensures c.in_err-arguments.field-0.0 refused)

pub returns-in_err-held-clause-exact : goal.returns-in_err-held-clause-exact
returns-in_err-held-clause-exact c =
    let error = err_from_is_err_and c.from_residual-in_err-held.result c.from_residual-in_err-held.ensures.1 in
    let made = rw c.member_of_member.ensures at c.in_ok-arguments.ensures.exact in
    let refused = rw c.in_err-held.ensures.err at c.marked_metrics.ensures.exact in
    rw (error.1, error.2) (metrics_refused (view c.args.json.now) c.in_ok-name.name.now c.in_ok-name.ensures c.in_ok-arguments.arguments made c.in_err-held.field-0.0 refused)

pub returns-clause-exact : goal.returns-clause-exact
returns-clause-exact c =
    let made = rw c.member_of_member.ensures at c.in_ok-arguments.ensures.exact in
    let marked = rw c.in_ok-held.ensures.ok.0 at c.marked_metrics.ensures.exact in
    let is = template_made (view c.args.json.now) c.in_ok-name.name.now c.in_ok-name.ensures c.in_ok-arguments.arguments made _ marked in
    let copied = rw c.in_ok-held-2.ensures.ok.0 at c.of.ensures in
    rw (c.in_ok-held-2.ensures.ok.1, c.in_ok-held.ensures.ok.1, copied) is

pub returns-clause-head : goal.returns-clause-head
returns-clause-head c = λ refusal refused. absurd (let impossible = sym c.in_ok-name.ensures ∙ refused in cc)

pub returns-in_err-held-clause-counted : goal.returns-in_err-held-clause-counted
returns-in_err-held-clause-counted c = λ none refusal refused.
    let error = err_from_is_err_and c.from_residual-in_err-held.result c.from_residual-in_err-held.ensures.1 in
    let reported : c.marked_metrics.result ≡ Err refusal = c.marked_metrics.ensures.counted refusal (counted_refused (view c.args.json.now) c.in_ok-name.name.now c.in_ok-name.ensures refusal refused) in
    let fault : c.marked_metrics.result ≡ Err c.in_err-held.field-0.0 = c.in_err-held.ensures.err in
    let same : c.in_err-held.field-0.0 ≡ refusal = cc in
    rw (error.1, error.2, same) refl

pub returns-clause-counted : goal.returns-clause-counted
returns-clause-counted c = λ none refusal refused.
    let reported : c.marked_metrics.result ≡ Err refusal = c.marked_metrics.ensures.counted refusal (counted_refused (view c.args.json.now) c.in_ok-name.name.now c.in_ok-name.ensures refusal refused) in
    let made : c.marked_metrics.result ≡ Ok c.in_ok-held.held.1 = c.in_ok-held.ensures.ok.0 in
    absurd (let impossible : Ok c.in_ok-held.held.1 ≡ Err refusal = sym made ∙ reported in cc)
