use Rattle.ar_command_line.proofs.command_line.run.Goals as goal

pub returns : goal.returns
returns c = c.with_flag.ensures _ (c.with_flag-run.ensures _ (c.with_option-run.ensures _ c.with_output-run.ensures))
