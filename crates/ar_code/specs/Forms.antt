-- What operations are but for their fields: a row for each, with its code in images and its name in listings.
use Rattle.std.specs.Prelude.{ℕ, codes}
use Rattle.ar_value.specs.Terms.{Text}
use Rattle.ar_value.specs.declared.operator.Arithmetic.{Arithmetic}
use Rattle.ar_value.specs.declared.operator.Arithmetic.TheVariants.{Add, Subtract, Multiply, Divide, Remainder}
use Rattle.ar_value.specs.declared.operator.BinaryOperator.{BinaryOperator}
use Rattle.ar_value.specs.declared.operator.BinaryOperator.TheVariants as binary
use Rattle.ar_value.specs.declared.operator.Compared.{Compared}
use Rattle.ar_value.specs.declared.operator.Compared.TheVariants as compared
use Rattle.ar_value.specs.declared.operator.DecimalArithmetic.{DecimalArithmetic}
use Rattle.ar_value.specs.declared.operator.DecimalArithmetic.TheVariants as on_decimals
use Rattle.ar_value.specs.declared.operator.Family.{Family}
use Rattle.ar_value.specs.declared.operator.Family.TheVariants as families
use Rattle.ar_value.specs.declared.operator.Numbers.TheVariants.{Wholes, Decimals}
use Rattle.ar_value.specs.declared.operator.Order.{Order}
use Rattle.ar_value.specs.declared.operator.Order.TheVariants.{Less, LessOrEqual, Greater, GreaterOrEqual}
use Rattle.ar_value.specs.declared.operator.Predicate.{Predicate}
use Rattle.ar_value.specs.declared.operator.Predicate.TheVariants as predicates
use Rattle.ar_value.specs.declared.operator.TextTest.{TextTest}
use Rattle.ar_value.specs.declared.operator.TextTest.TheVariants as tests
use Rattle.ar_value.specs.declared.operator.UnaryOperator.{UnaryOperator}
use Rattle.ar_value.specs.declared.operator.UnaryOperator.TheVariants as unary
use Rattle.ar_op.specs.declared.op.Jump.{Jump}
use Rattle.ar_op.specs.declared.op.Jump.TheVariants as jumps
use Rattle.ar_op.specs.declared.op.Op.{Op}
use Rattle.ar_op.specs.declared.op.Op.TheVariants as ops
use Rattle.ar_op.specs.declared.op.Source.{Source}
use Rattle.ar_op.specs.declared.op.Source.TheVariants as sources

pub record Row : Type 0 where
  pub code : ℕ
  pub name : Text

abbrev pub row : ℕ → Text → Row
row code name = record { code = code; name = name }

abbrev pub source_row : Source → Row
source_row (sources.Bool holds) = row 1 (codes "PushBool")
source_row (sources.Whole value) = row 2 (codes "PushWhole")
source_row (sources.Decimal millionths) = row 3 (codes "PushDecimal")
source_row (sources.Text text) = row 4 (codes "PushText")
source_row sources.Nil = row 5 (codes "PushNil")
source_row sources.Result = row 7 (codes "LoadResult")
source_row sources.Item = row 8 (codes "Item")

abbrev pub unary_row : UnaryOperator → Row
unary_row unary.Len = row 11 (codes "Len")
unary_row unary.Need = row 12 (codes "Need")
unary_row unary.IsNil = row 13 (codes "IsNil")
unary_row unary.ToDecimal = row 15 (codes "ToDecimal")
unary_row unary.Not = row 17 (codes "Not")
unary_row (unary.Negate Wholes) = row 23 (codes "NegW")
unary_row (unary.Negate Decimals) = row 28 (codes "NegD")

abbrev pub wholes_row : Arithmetic → Row
wholes_row Add = row 18 (codes "AddW")
wholes_row Subtract = row 19 (codes "SubW")
wholes_row Multiply = row 20 (codes "MulW")
wholes_row Divide = row 21 (codes "DivW")
wholes_row Remainder = row 22 (codes "RemW")

abbrev pub decimals_row : DecimalArithmetic → Row
decimals_row on_decimals.Add = row 24 (codes "AddD")
decimals_row on_decimals.Subtract = row 25 (codes "SubD")
decimals_row on_decimals.Multiply = row 26 (codes "MulD")
decimals_row on_decimals.Divide = row 27 (codes "DivD")

abbrev pub comparison_row : Compared → Order → Row
comparison_row compared.Wholes Less = row 29 (codes "LtW")
comparison_row compared.Wholes LessOrEqual = row 30 (codes "LeW")
comparison_row compared.Wholes Greater = row 31 (codes "GtW")
comparison_row compared.Wholes GreaterOrEqual = row 32 (codes "GeW")
comparison_row compared.Decimals Less = row 33 (codes "LtD")
comparison_row compared.Decimals LessOrEqual = row 34 (codes "LeD")
comparison_row compared.Decimals Greater = row 35 (codes "GtD")
comparison_row compared.Decimals GreaterOrEqual = row 36 (codes "GeD")
comparison_row compared.Mixed Less = row 37 (codes "LtM")
comparison_row compared.Mixed LessOrEqual = row 38 (codes "LeM")
comparison_row compared.Mixed Greater = row 39 (codes "GtM")
comparison_row compared.Mixed GreaterOrEqual = row 40 (codes "GeM")

abbrev pub equality_row : Family → Row
equality_row families.Boolean = row 41 (codes "EqBool")
equality_row families.Number = row 42 (codes "EqNumber")
equality_row families.Text = row 43 (codes "EqText")

abbrev pub text_test_row : TextTest → Row
text_test_row tests.Contains = row 61 (codes "Contains")
text_test_row tests.StartsWith = row 62 (codes "StartsWith")
text_test_row tests.EndsWith = row 63 (codes "EndsWith")

abbrev pub binary_row : BinaryOperator → Row
binary_row binary.Index = row 10 (codes "Index")
binary_row binary.Default = row 14 (codes "Default")
binary_row binary.IsIn = row 16 (codes "IsIn")
binary_row (binary.Wholes operator) = wholes_row operator
binary_row (binary.Decimals operator) = decimals_row operator
binary_row (binary.Compare of order) = comparison_row of order
binary_row (binary.Equal family) = equality_row family
binary_row (binary.TextTest test) = text_test_row test

abbrev pub jump_row : Jump → Row
jump_row jumps.And = row 44 (codes "AndJump")
jump_row jumps.Or = row 45 (codes "OrJump")
jump_row jumps.Branch = row 46 (codes "BranchFalse")
jump_row jumps.Always = row 47 (codes "Jump")

abbrev pub enter_row : Predicate → Row
enter_row predicates.All = row 48 (codes "AllEnter")
enter_row predicates.Any = row 50 (codes "AnyEnter")
enter_row predicates.None = row 57 (codes "NoneEnter")
enter_row predicates.One = row 59 (codes "OneEnter")
enter_row predicates.Count = row 52 (codes "CountEnter")
enter_row predicates.Filter = row 54 (codes "FilterEnter")

abbrev pub step_row : Predicate → Row
step_row predicates.All = row 49 (codes "AllStep")
step_row predicates.Any = row 51 (codes "AnyStep")
step_row predicates.None = row 58 (codes "NoneStep")
step_row predicates.One = row 60 (codes "OneStep")
step_row predicates.Count = row 53 (codes "CountStep")
step_row predicates.Filter = row 55 (codes "FilterStep")

abbrev pub row_of : Op → Row
row_of (ops.Push source) = source_row source
row_of (ops.MakeList scalar count) = row 6 (codes "MakeList")
row_of (ops.Field name) = row 9 (codes "Field")
row_of (ops.Unary operator) = unary_row operator
row_of (ops.Binary operator) = binary_row operator
row_of (ops.Jump jump index) = jump_row jump
row_of (ops.Enter predicate step) = enter_row predicate
row_of (ops.Step predicate enter) = step_row predicate
row_of ops.Return = row 56 (codes "Return")

abbrev pub code_of : Op → ℕ
code_of op = (row_of op).code

abbrev pub name_of : Op → Text
name_of op = (row_of op).name
