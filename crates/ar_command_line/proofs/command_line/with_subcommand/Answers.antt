use Rattle.std.proofs.Common.{◌≡◌, subst}
use Rattle.std.proofs.lemmas.Result.{IfOk-weaker}
use Rattle.std.specs.Prelude.{IfOk}
use Rattle.clap.specs.Words.{app_of}
use Rattle.ar_command_line.proofs.Building.{added}
use Rattle.ar_command_line.proofs.command_line.with_subcommand.Goals as goal

pub returns : goal.returns
returns c = λ app is plain.
    let app_is = subst (λ subcommand. IfOk subcommand (λ subcommand. app_of subcommand ≡ app)) c.in_ok-subcommand.was is in
    IfOk-weaker c.subcommand.result _ _ (λ both adds. added c.args.command c.in_ok-subcommand.field-0 both app app_is plain adds) c.subcommand.ensures
