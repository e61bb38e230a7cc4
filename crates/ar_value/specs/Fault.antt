-- The names of faults.
use Rattle.std.specs.Prelude.{codes}
use Rattle.ar_value.specs.Terms.{Text}
use Rattle.ar_value.specs.declared.fault.Fault.{Fault}
use Rattle.ar_value.specs.declared.fault.Fault.TheVariants.{IndexOutOfRange, NilOperand, Overflow, DivisionByZero}

abbrev pub fault_name : Fault → Text
fault_name IndexOutOfRange = codes "IndexOutOfRange"
fault_name NilOperand = codes "NilOperand"
fault_name Overflow = codes "Overflow"
fault_name DivisionByZero = codes "DivisionByZero"
