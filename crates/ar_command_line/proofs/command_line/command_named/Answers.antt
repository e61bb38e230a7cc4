use Rattle.std.proofs.Common.{◌∙◌}
use Rattle.clap.specs.Words.{found_of, rows_of}
use Rattle.ar_command_line.proofs.Parsing.{named_by}
use Rattle.ar_command_line.proofs.command_line.command_named.Goals as goal

pub returns-in-Some : goal.returns-in-Some
returns-in-Some c = c.named.ensures ∙ named_by c.args.matches.now c.in-Some.name.now (rows_of (found_of c.in-Some.matches.now)) c.in-Some.ensures.name c.in-Some.ensures.rows
