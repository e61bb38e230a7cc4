-- What a command asks for, with names as their bytes: two commands that ask for the same are equal here, wherever their
-- names are in memory.
use Rattle.std.specs.Prelude.{ℕ, Result, Ok, Err}
use Rattle.ar_command_line.specs.Selection.{Selected, selected}
use Rattle.ar_command_line.specs.declared.command_line.Command.{Command}
use Rattle.ar_command_line.specs.declared.command_line.Command.TheVariants.{Eval, Check, List, Run, Plain, Ordered, Explain}
use Rattle.ar_command_line.specs.declared.command_line.Format.{Format}
use Rattle.ar_command_line.specs.declared.command_line.UsageError.{UsageError}

pub data Task : Type 0 where
  eval : Format → Task
  check : Format → Task
  list : Task
  run : (workers : ℕ) → Format → Task
  plain : Format → Task
  ordered : (workers : ℕ) → Format → Task
  explain : Selected → Format → Task

abbrev pub task_of : Command → Task
task_of (Eval format) = eval format
task_of (Check format) = check format
task_of List = list
task_of (Run workers format) = run workers format
task_of (Plain format) = plain format
task_of (Ordered workers format) = ordered workers format
task_of (Explain selection format) = explain (selected selection) format

-- what is returned, with the task of its command
abbrev pub asked : Result Command UsageError → Result Task UsageError
asked (Ok command) = Ok (task_of command)
asked (Err error) = Err error
