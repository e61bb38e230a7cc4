use Rattle.clap.specs.Words.{app_of}
use Rattle.ar_command_line.specs.CommandLine.{texts_of}
use Rattle.ar_command_line.proofs.Faults.{error_shows, taken_shows}
use Rattle.ar_command_line.proofs.command_line.shown.Goals as goal

pub returns-in-Ok : goal.returns-in-Ok
returns-in-Ok c = taken_shows (app_of c.in_ok-application.field-0) (texts_of c.args.words.now) c.in-Ok.field-0 c.in_ok-application.ensures c.in-Ok.ensures.kinds

pub returns : goal.returns
returns c =
    error_shows (app_of c.in_ok-application.field-0) (texts_of c.args.words.now) c.in-Err.error c.text_of.result c.in_ok-application.ensures
    c.in-Err.ensures.kinds c.text_of.ensures.kind c.text_of.ensures.memory
