use Rattle.std.proofs.Common.{sym, ◌∙◌}
use Rattle.ar_value.specs.View.{shape_view}
use Rattle.ar_document.proofs.Measuring.{if_ok}
use Rattle.ar_document.proofs.Sampling.{misfit_reported, some_given}
use Rattle.ar_document.proofs.entries.sample_of.Goals as goal

pub returns-in-Err-clause-exact : goal.returns-in-Err-clause-exact
returns-in-Err-clause-exact c given is =
    let own = some_given c.in-Some.json c.args.found given c.in-Some.is is in
    rw own.1 (if_ok c.misfit_of.result (λ sample made. made.0 ∙ sym (misfit_reported (shape_view c.args.measurer.now) own.0 c.in-Err.fault made.1 (c.in-Err.ensures.exact own.0 own.2))) c.misfit_of.ensures.misfit)
