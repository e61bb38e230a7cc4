use Rattle.std.proofs.Common.{◌∙◌, sym}
use Rattle.std.proofs.lemmas.Result.{err_from_is_err_and}
use Rattle.serde_json.specs.View.{view}
use Rattle.ar_value.proofs.Steps.{leads}
use Rattle.ar_document.specs.Document.{is_bundle_memory, of_opening}
use Rattle.ar_document.proofs.Answering.{refuses, same_opening}
use Rattle.ar_document.proofs.bundle.bundle_of.Goals as goal

pub returns-in_err-opened : goal.returns-in_err-opened
returns-in_err-opened c document is head =
    let error = err_from_is_err_and c.from_residual.result c.from_residual.ensures.1 in
    let refusal = c.in_err-opened.field-0.0 in
    rw (error.1, error.2)
    (refuses document refusal (leads (is_bundle_memory refusal) (λ refused. of_opening (sym (same_opening document (view c.args.head.now) head) ∙ refused)) c.in_err-opened.ensures.exact))

pub returns : goal.returns
returns c document is head =
    c.bundle_with.ensures document (sym (same_opening document (view c.args.head.now) head) ∙ c.in_ok-opened.ensures.exact) (c.read_entries-entries.ensures.exact document is)
