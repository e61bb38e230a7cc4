use Rattle.ar_command.proofs.Reporting.{in_order}
use Rattle.ar_command.proofs.answer.reported_in_order.Goals as goal

pub returns-clause-said : goal.returns-clause-said
returns-clause-said c =
    let run = c.in_ok-said.ensures in
    in_order _ _ _ _ c.in_ok-bundle.field-0.bundle run.0 c.in_ok-bundle.ensures.read run.1 run.2
