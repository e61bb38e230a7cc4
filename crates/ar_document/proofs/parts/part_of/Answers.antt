use Rattle.std.proofs.lemmas.Result.{err_from_is_err_and}
use Rattle.ar_document.proofs.parts.part_of.Goals as goal

pub returns-in_err-run-clause-refused : goal.returns-in_err-run-clause-refused
returns-in_err-run-clause-refused c runs =
    let error = err_from_is_err_and c.from_residual.result c.from_residual.ensures.1 in
    rw (error.1, error.2) (rw c.in_err-run.ensures.err at (c.judged_run-judged.ensures.refused runs))

pub returns-clause-part : goal.returns-clause-part
returns-clause-part c runs = rw c.in_ok-run.ensures.ok.1 (rw c.in_ok-run.ensures.ok.0 at (c.judged_run-judged.ensures.judged runs))
