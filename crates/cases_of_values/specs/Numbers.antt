-- What calls on numbers and texts return.
use Rattle.std.specs.Prelude.{◌≡◌, ℕ, ℤ, true, Bool, List, [], codes, ◌++◌, if◌then◌else◌, int_lt, Option, Some, None, option_and_then, Result, Ok, Err, ⊤, string_bytes}
use Rattle.std.specs.declared.cmp.Ordering.{Ordering}
use Rattle.std.specs.declared.cmp.Ordering.TheVariants.{Less, Equal, Greater}
use Rattle.std.specs.Ordering.{int_cmp}
use Rattle.std.specs.Str.{bytes_eq}
use Rattle.serde_json.specs.Data.{Data, string}
use Rattle.serde_json.specs.Find.{as_i64, as_number}
use Rattle.ar_value.specs.Answer.{◌>>=◌, Unless, there_or}
use Rattle.ar_value.specs.Arithmetic.{decimal_of_whole, decimal_product, difference, negation, product, quotient, remainder, sum}
use Rattle.ar_value.specs.Decimal.{order}
use Rattle.ar_value.specs.DecimalText.{decimal_of}
use Rattle.ar_value.specs.declared.decimal.Number.{Number}
use Rattle.ar_value.specs.declared.decimal.Number.TheVariants.{Whole, Decimal}
use Rattle.ar_value.specs.declared.fault.Fault.{Fault}
use Rattle.cases_of_values.specs.declared.fault.CaseFault.{CaseFault}
use Rattle.cases_of_values.specs.declared.fault.CaseFault.TheVariants.{Member}
use Rattle.cases_of_values.specs.declared.output.Output.{Output}
use Rattle.cases_of_values.specs.Calls.{arithmetic_calls, is_one_of}
use Rattle.cases_of_values.specs.Members.{decimal_member, is_case_memory, json_member, or_member, case_text, whole_member}
use Rattle.ar_value.specs.Fault.{fault_name}
use Rattle.cases_of_values.specs.Printing.{number_text, quoted, boolean_text}

-- the answer comes after what was there, unless memory ran out, or the case is refused
abbrev pub Answers : Result ⊤ CaseFault → (earlier later : Output) → (answer : Result (List ℕ) CaseFault) → Type 0
Answers (Ok written) earlier later answer = later.is_whole ≡ true
    → (earlier.is_whole ≡ true)
    × ((answer >>= λ text. Ok (string_bytes earlier.text ++ text)) ≡ Ok (string_bytes later.text))
Answers (Err fault) earlier later answer = Unless (is_case_memory fault) (answer ≡ Err fault)

-- a text spells a decimal; what is no text has to be a whole
abbrev pub operand_in : Data → Result Number CaseFault
operand_in (string text) = or_member (decimal_of text) >>= λ millionths. Ok (Decimal millionths)
operand_in json = there_or Member (option_and_then as_i64 (as_number json)) >>= λ whole. Ok (Whole whole)

abbrev pub operand_member : (name : List ℕ) → (case : Data) → Result Number CaseFault
operand_member name case = json_member name case >>= operand_in

abbrev pub ordering_text : Ordering → List ℕ
ordering_text Less = codes "less"
ordering_text Equal = codes "equal"
ordering_text Greater = codes "greater"

unfoldable pub compare_answer : (case : Data) → Result (List ℕ) CaseFault
compare_answer case = do
  left ← operand_member (codes "left") case
  right ← operand_member (codes "right") case
  Ok (ordering_text (order left right))

abbrev pub outcome_text : Result Number Fault → List ℕ
outcome_text (Ok number) = number_text number
outcome_text (Err fault) = fault_name fault

abbrev pub whole_number : Result ℤ Fault → Result Number Fault
whole_number (Ok whole) = Ok (Whole whole)
whole_number (Err fault) = Err fault

abbrev pub decimal_number : Result ℤ Fault → Result Number Fault
decimal_number (Ok millionths) = Ok (Decimal millionths)
decimal_number (Err fault) = Err fault

-- the quotient of two wholes is a decimal
abbrev pub whole_result : (call : List ℕ) → (left right : ℤ) → Result Number Fault
whole_result call left right =
    if bytes_eq call (codes "add") then whole_number (sum left right)
    else (if bytes_eq call (codes "subtract") then whole_number (difference left right)
    else (if bytes_eq call (codes "multiply") then whole_number (product left right)
    else (if bytes_eq call (codes "divide") then decimal_number (quotient left right)
    else whole_number (remainder left right))))

-- decimals have no remainder
abbrev pub decimal_result : (call : List ℕ) → (left right : ℤ) → Option (Result Number Fault)
decimal_result call left right =
    if bytes_eq call (codes "add") then Some (decimal_number (sum left right))
    else (if bytes_eq call (codes "subtract") then Some (decimal_number (difference left right))
    else (if bytes_eq call (codes "multiply") then Some (decimal_number (decimal_product left right))
    else (if bytes_eq call (codes "divide") then Some (decimal_number (quotient left right))
    else None)))

-- both operands are wholes, or both are decimals
abbrev pub result_with : (call : List ℕ) → (left : Number) → (case : Data) → Result (Result Number Fault) CaseFault
result_with call (Whole left) case = whole_member (codes "right") case >>= λ right. Ok (whole_result call left right)
result_with call (Decimal left) case =
    decimal_member (codes "right") case >>= λ right. there_or Member (decimal_result call left right)

unfoldable pub result_answer : (call : List ℕ) → (case : Data) → Result (List ℕ) CaseFault
result_answer call case = do
  left ← operand_member (codes "left") case
  outcome ← result_with call left case
  Ok (outcome_text outcome)

abbrev pub negated : Number → Result Number Fault
negated (Whole operand) = whole_number (negation operand)
negated (Decimal operand) = decimal_number (negation operand)

unfoldable pub negate_answer : (case : Data) → Result (List ℕ) CaseFault
negate_answer case = operand_member (codes "operand") case >>= λ operand. Ok (outcome_text (negated operand))

unfoldable pub to_decimal_answer : (case : Data) → Result (List ℕ) CaseFault
to_decimal_answer case =
    whole_member (codes "operand") case >>= λ operand. Ok (outcome_text (decimal_number (decimal_of_whole operand)))

unfoldable pub text_answer : (case : Data) → Result (List ℕ) CaseFault
text_answer case = case_text (codes "text") case >>= λ text. Ok (quoted text)

unfoldable pub same_text_answer : (case : Data) → Result (List ℕ) CaseFault
same_text_answer case = do
  left ← case_text (codes "left") case
  right ← case_text (codes "right") case
  Ok (boolean_text (bytes_eq left right))

abbrev pub below_text : (is_below : Bool) → List ℕ
below_text is_below = if is_below then codes ", below" else []

unfoldable pub order_answer : (case : Data) → Result (List ℕ) CaseFault
order_answer case = do
  left ← decimal_member (codes "left") case
  right ← decimal_member (codes "right") case
  Ok (ordering_text (int_cmp left right) ++ below_text (int_lt left right))

-- the answer of a call on numbers or texts; what `decimal` and `digits` return is not defined
abbrev pub number_answer : (call : List ℕ) → (case : Data) → Option (Result (List ℕ) CaseFault)
number_answer call case =
    if bytes_eq call (codes "compare") then Some (compare_answer case)
    else (if bytes_eq call (codes "order") then Some (order_answer case)
    else (if bytes_eq call (codes "negate") then Some (negate_answer case)
    else (if bytes_eq call (codes "to_decimal") then Some (to_decimal_answer case)
    else (if bytes_eq call (codes "text") then Some (text_answer case)
    else (if bytes_eq call (codes "same_text") then Some (same_text_answer case)
    else (if is_one_of arithmetic_calls call then Some (result_answer call case)
    else None))))))
