-- Refusals of conditions by their kinds: their names, and the byte at which the tree begins that requires something
-- else.
use Rattle.std.specs.Prelude.{ℕ, codes, Option, Some, None}
use Rattle.ar_value.specs.Terms.{Text}
use Rattle.ar_check.specs.declared.error.TypeError.{TypeError}
use Rattle.ar_check.specs.declared.error.TypeError.TheVariants.{WrongOperand, NoSuchField, NotAList, NoCommonKind, NotScalar, NotTruth, PredicatesTooDeep, OutOfMemory}

abbrev pub refused_at : TypeError → Option ℕ
refused_at (WrongOperand at) = Some at
refused_at (NoSuchField at) = Some at
refused_at (NotAList at) = Some at
refused_at (NoCommonKind at) = Some at
refused_at (NotScalar at) = Some at
refused_at (NotTruth at) = Some at
refused_at (PredicatesTooDeep at) = Some at
refused_at OutOfMemory = None

abbrev pub type_error_name : TypeError → Text
type_error_name (WrongOperand at) = codes "WrongOperand"
type_error_name (NoSuchField at) = codes "NoSuchField"
type_error_name (NotAList at) = codes "NotAList"
type_error_name (NoCommonKind at) = codes "NoCommonKind"
type_error_name (NotScalar at) = codes "NotScalar"
type_error_name (NotTruth at) = codes "NotTruth"
type_error_name (PredicatesTooDeep at) = codes "PredicatesTooDeep"
type_error_name OutOfMemory = codes "OutOfMemory"
