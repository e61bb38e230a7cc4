-- What the operands of a condition are where one isn't of a kind that is taken.
use Rattle.std.specs.Prelude.{ℕ, Bool, true, false, if◌then◌else◌, ◌++◌, codes, length, take, Option, Some, None, option_and_then}
use Rattle.std.specs.Result.{result_ok}
use Rattle.ar_value.specs.Terms.{Text}
use Rattle.ar_check.specs.Found.{operands_at}
use Rattle.ar_check.specs.declared.error.TypeError.{TypeError}
use Rattle.ar_check.specs.declared.error.TypeError.TheVariants as kinds
use Rattle.ar_check.specs.declared.found.OperandKind.{OperandKind}
use Rattle.ar_check.specs.declared.found.OperandKind.TheVariants as operand
use Rattle.ar_check.specs.declared.found.Operands.{Operands}
use Rattle.ar_check.specs.declared.found.Operands.TheVariants.{Before, Record, One, Two}
use Rattle.ar_diagnostic.specs.Listing.{most_listed, those_listed}
use Rattle.ar_syntax.specs.Parse.{parse_of}
use Rattle.ar_value.specs.Shape.{Shape}

abbrev pub operands_in : Option Shape → (condition : Option Text) → (offset : ℕ) → Option Operands
operands_in (Some shape) (Some condition) offset =
    option_and_then (λ tree. operands_at shape tree offset) (result_ok (parse_of condition))
operands_in shape condition offset = None

-- those of the operator at which a condition is refused, or what is before the field's name there
abbrev pub refused_operands : Option Shape → (condition : Option Text) → TypeError → Option Operands
refused_operands shape condition (kinds.WrongOperand at) = operands_in shape condition at
refused_operands shape condition (kinds.NoSuchField at) = operands_in shape condition at
refused_operands shape condition error = None

-- ---- what is said of them

abbrev pub kind_said : OperandKind → Text
kind_said operand.Nil = codes "nil"
kind_said operand.Bool = codes "\"bool\""
kind_said operand.Whole = codes "\"whole\""
kind_said operand.Decimal = codes "\"decimal\""
kind_said operand.Text = codes "\"text\""
kind_said operand.List = codes "a list"
kind_said operand.Object = codes "a record"

abbrev pub are_two : Option Operands → Bool
are_two (Some (Two left right)) = true
are_two operands = false

-- the right one of a membership is that of a list's items
abbrev pub between_operands : (is_membership : Bool) → Text
between_operands is_membership = if is_membership then codes " and a list of " else codes " and "

abbrev pub operands_found : (is_membership : Bool) → Operands → Text
operands_found is_membership (Before owner) = kind_said owner ++ codes " before it"
operands_found is_membership (Record names) = codes "a record before it"
operands_found is_membership (One operand) = kind_said operand
operands_found is_membership (Two left right) =
    kind_said left ++ (between_operands is_membership ++ kind_said right)

-- the fields of a record, where one that it hasn't is named
abbrev pub fields_hint : Option Operands → Option Text
fields_hint (Some (Record names)) = Some (those_listed (codes "fields") (take most_listed names) (length names))
fields_hint operands = None
