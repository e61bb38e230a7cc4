use Rattle.std.proofs.Common.{refl}
use Rattle.std.proofs.lemmas.Result.{IfOk-weaker}
use Rattle.clap.specs.Words.{new_app, with_subcommand}
use Rattle.std.specs.Prelude.{codes}
use Rattle.ar_command_line.specs.CommandLine.{program, with_output}
use Rattle.ar_command_line.proofs.Building.{joined}
use Rattle.ar_command_line.proofs.command_line.without_run.Goals as goal

pub returns : goal.returns
returns c =
    let eval = with_output (codes "eval") in
    let check = with_output (codes "check") in
    let list = new_app (codes "list") in
    let has_eval = joined _ _ program eval c.program.ensures (c.in_ok-with_eval.ensures eval c.with_output-eval.ensures refl) in
    let has_check = joined _ _ _ check has_eval (c.in_ok-with_check.ensures check c.with_output-check.ensures refl) in
    IfOk-weaker c.with_subcommand-3.result _ _ (λ command last. joined _ command _ list has_check last) (c.with_subcommand-3.ensures list c.subcommand-list.ensures refl)
