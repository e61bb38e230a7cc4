use Rattle.ar_command_line.proofs.command_line.explain.Goals as goal

pub returns : goal.returns
returns c = c.with_option.ensures _ (c.with_option-explain-2.ensures _ (c.with_option-explain.ensures _ c.with_output-explain.ensures))
