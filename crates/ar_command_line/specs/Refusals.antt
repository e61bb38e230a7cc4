-- Refusals of command lines: their names.
use Rattle.std.specs.Prelude.{codes}
use Rattle.ar_value.specs.Terms.{Text}
use Rattle.ar_command_line.specs.declared.command_line.UsageError.{UsageError}
use Rattle.ar_command_line.specs.declared.command_line.UsageError.TheVariants.{Words, Workers, Event, Output, Conflict, Several, OutOfMemory}

abbrev pub usage_error_name : UsageError → Text
usage_error_name Words = codes "Words"
usage_error_name Workers = codes "Workers"
usage_error_name Event = codes "Event"
usage_error_name Output = codes "Output"
usage_error_name Conflict = codes "Conflict"
usage_error_name Several = codes "Several"
usage_error_name OutOfMemory = codes "OutOfMemory"
