use Rattle.std.proofs.Common.{refl}
use Rattle.std.proofs.lemmas.Result.{IfOk-weaker}
use Rattle.ar_command_line.specs.CommandLine.{application, explain_app, run_app, without_run}
use Rattle.ar_command_line.proofs.Building.{joined}
use Rattle.ar_command_line.proofs.command_line.application.Goals as goal

pub returns : goal.returns
unfolding application
returns c =
    let has_run = joined _ _ without_run run_app c.in_ok-without_run.ensures (c.in_ok-with_run.ensures run_app c.run.ensures refl) in
    IfOk-weaker c.with_subcommand-2.result _ _ (λ command last. joined _ command _ explain_app has_run last) (c.with_subcommand-2.ensures explain_app c.explain.ensures refl)
