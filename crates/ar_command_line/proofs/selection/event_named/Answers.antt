use Rattle.std.proofs.Common.{◌∙◌}
use Rattle.ar_command_line.proofs.Parsing.{event_read}
use Rattle.ar_command_line.proofs.selection.event_named.Goals as goal

pub returns : goal.returns
returns c = c.ok.ensures.value ∙ event_read c.args.text.now c.parse.result c.parse.ensures.value.0
