use Rattle.std.proofs.lemmas.Result.{err_from_is_err_and}
use Rattle.ar_value.proofs.Steps.{leads}
use Rattle.ar_document.specs.Document.{is_bundle_memory}
use Rattle.ar_command.proofs.Reasons.{document_of, refused_input}
use Rattle.ar_command.proofs.reading.read_kept.Goals as goal

pub returns-clause-kept : goal.returns-clause-kept
returns-clause-kept c =
    let found = document_of c.args.input.now c.in_ok-reading.reading.bundle c.in_ok-reading.ensures.read in
    (found.0, found.1, c.in_ok-kept.ensures.kept found.0 found.1)

pub returns-in_err-kept-clause-refused : goal.returns-in_err-kept-clause-refused
returns-in_err-kept-clause-refused c =
    let error = err_from_is_err_and c.from_residual-in_err-kept.result c.from_residual-in_err-kept.ensures.1 in
    rw (error.1, error.2)
    (leads (is_bundle_memory c.in_err-kept.field-0.0) (refused_input c.args.input.now c.in_err-kept.field-0.0) c.in_err-kept.ensures.refused)
