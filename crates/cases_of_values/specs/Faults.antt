-- The exit statuses of the program that answers cases.
use Rattle.std.specs.Prelude.{ℕ}
use Rattle.cases_of_values.specs.declared.fault.CaseFault.TheVariants.{Member, OutOfMemory}
use Rattle.cases_of_values.specs.declared.fault.LineFault.{LineFault}
use Rattle.cases_of_values.specs.declared.fault.LineFault.TheVariants.{NoJson, UnknownCall, Device, Case}

-- 2 where the line is no case, 3 for out of memory, and 4 for a read or a write that failed
abbrev pub status_of : LineFault → ℕ
status_of NoJson = 2
status_of UnknownCall = 2
status_of (Case Member) = 2
status_of (Case OutOfMemory) = 3
status_of Device = 4
