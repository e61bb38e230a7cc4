-- What is shown of each side of an operator: the two together are the text of the operation.
use Rattle.std.specs.Prelude.{ℕ, List, ◌++◌, codes}
use Rattle.ar_value.specs.declared.operator.BinaryOperator.{BinaryOperator}
use Rattle.ar_value.specs.declared.operator.BinaryOperator.TheVariants as binary
use Rattle.ar_tree.specs.Typed.{Typed}
use Rattle.ar_show.specs.PartText.{arithmetic_sign, decimal_sign, last_text, operand_text, order_sign, owner_text, side_text, test_word}

-- the left side, with what comes before it
abbrev pub left_side : BinaryOperator → Typed → (text : List ℕ) → List ℕ
left_side binary.Index left text = owner_text left text
left_side binary.Default left text = codes "default(" ++ text
left_side binary.IsIn left text = operand_text left text
left_side (binary.Wholes operator) left text = operand_text left text
left_side (binary.Decimals operator) left text = operand_text left text
left_side (binary.Compare of way) left text = operand_text left text
left_side (binary.Equal family) left text = operand_text left text
left_side (binary.TextTest test) left text = operand_text left text

-- what comes after the left side
abbrev pub right_side : BinaryOperator → Typed → (text : List ℕ) → List ℕ
right_side binary.Index right text = codes "[" ++ (text ++ codes "]")
right_side binary.Default right text = last_text text
right_side binary.IsIn right text = side_text (codes "in") right text
right_side (binary.Wholes operator) right text = side_text (arithmetic_sign operator) right text
right_side (binary.Decimals operator) right text = side_text (decimal_sign operator) right text
right_side (binary.Compare of way) right text = side_text (order_sign way) right text
right_side (binary.Equal family) right text = side_text (codes "==") right text
right_side (binary.TextTest test) right text = side_text (test_word test) right text
