-- The names of what is wrong with code.
use Rattle.std.specs.Prelude.{codes}
use Rattle.ar_value.specs.Terms.{Text}
use Rattle.ar_safety.specs.declared.error.Reason.{Reason}
use Rattle.ar_safety.specs.declared.error.Reason.TheVariants.{Empty, JumpOutside, Backward, UnpairedLoop, LoopsTooDeep, CrossesLoop, NoReturn, Unreachable, BadMerge, MissingOperand, IllKinded, StackTooDeep, BudgetTooLarge}

abbrev pub reason_name : Reason → Text
reason_name Empty = codes "Empty"
reason_name JumpOutside = codes "JumpOutside"
reason_name Backward = codes "Backward"
reason_name UnpairedLoop = codes "UnpairedLoop"
reason_name LoopsTooDeep = codes "LoopsTooDeep"
reason_name CrossesLoop = codes "CrossesLoop"
reason_name NoReturn = codes "NoReturn"
reason_name Unreachable = codes "Unreachable"
reason_name BadMerge = codes "BadMerge"
reason_name MissingOperand = codes "MissingOperand"
reason_name IllKinded = codes "IllKinded"
reason_name StackTooDeep = codes "StackTooDeep"
reason_name BudgetTooLarge = codes "BudgetTooLarge"
