use Rattle.ar_command_line.proofs.command_line.with_output.Goals as goal

pub returns : goal.returns
returns c = c.with_option.ensures _ c.subcommand.ensures
