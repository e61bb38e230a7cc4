-- No part's text begins with `=`, so that `!` may come before it.
use Rattle.std.proofs.Common.{◌≡◌, ℕ, ◌/◌, ◌%◌, ◌^◌, ◌<◌, Bool, true, false, pos, negsuc, [], ◌∷◌, ◌++◌, length, refl, ◌∙◌, ap, subst, arith, ◌==◌}
use Rattle.std.specs.Prelude.{codes, decimal, slice_index, ◌||◌}
use Rattle.std.specs.Char.{is_ascii_digit}
use Rattle.std.specs.List.{list_all}
use Rattle.std.proofs.lemmas.Bool.{leb-true, ltb-true, ne_eqb}
use Rattle.std.proofs.lemmas.Fmt.{decimal_nonempty}
use Rattle.ar_value.specs.Decimal.{is_i64}
use Rattle.ar_value.specs.DecimalShown.{decimal_text, fraction_text}
use Rattle.ar_value.specs.Terms.{Text}
use Rattle.ar_value.specs.declared.operator.BinaryOperator.TheVariants as binary
use Rattle.ar_value.specs.declared.operator.Predicate.{Predicate}
use Rattle.ar_value.specs.declared.operator.Predicate.TheVariants as predicates
use Rattle.ar_value.specs.declared.operator.UnaryOperator.TheVariants as unary
use Rattle.ar_tree.specs.Typed.{Typed}
use Rattle.ar_tree.specs.Typed as typed
use Rattle.ar_tree.specs.declared.tree.Literal.TheVariants as literals
use Rattle.ar_syntax.proofs.Fronts.{both_pass}
use Rattle.ar_quote.specs.Shown.{quoted}
use Rattle.ar_show.specs.PartText.{has_sides, has_sign, in_parentheses, operand_text, owner_text, predicate_word, shown_part}
use Rattle.ar_parsed_back.specs.Readable.{CanBeWritten}
use Rattle.ar_parsed_back.proofs.Digits.{decimal_digits}
use Rattle.ar_parsed_back.proofs.Fractions.{text_is}

-- it has a first byte, which isn't `=`
pub record Starts (text : Text) : Type 0 where
  pub byte : ℕ
  pub others : Text
  pub are : text ≡ byte ∷ others
  pub other : (61 == byte) ≡ false

begins_with : (byte : ℕ) (others : Text) → (61 == byte) ≡ false → Starts (byte ∷ others)
begins_with byte others other = record { byte = byte; others = others; are = refl; other = other }

more : (first second : Text) → Starts first → Starts (first ++ second)
more first second starts = record { byte = starts.byte; others = starts.others ++ second; are = ap (λ (front : Text). front ++ second) starts.are; other = starts.other }

grouped : (needed : Bool) (text : Text) → Starts text → Starts (in_parentheses needed text)
grouped true text starts = begins_with 40 _ refl
grouped false text starts = starts

digits_start : (digits : Text) → 0 < length digits → list_all is_ascii_digit digits ≡ true → Starts digits
digits_start [] some all = absurd (omega arith)
digits_start (byte ∷ digits) some all =
    let most : byte < 58 = omega (arith, leb-true byte 57 (both_pass _ _ (both_pass (is_ascii_digit byte) (list_all is_ascii_digit digits) all).0).1) in
    begins_with byte digits (ne_eqb 61 byte (λ same. omega arith))

decimal_starts : (n : ℕ) → n < 2 ^ 64 → Starts (decimal n)
decimal_starts n small = digits_start (decimal n) (decimal_nonempty n small) (decimal_digits n small)

decimal_text_starts : (millionths : ℕ) → is_i64 (pos millionths) ≡ true → Starts (decimal_text (pos millionths))
decimal_text_starts millionths fits =
    let small : millionths < 2 ^ 63 = ltb-true millionths (2 ^ 63) fits in
    subst Starts (text_is millionths) (more (decimal (millionths / 1000000)) (codes "." ++ fraction_text 6 (millionths % 1000000)) (decimal_starts (millionths / 1000000) (omega arith)))

quoted_starts : (text : Text) → Starts (quoted text)
unfolding quoted
quoted_starts text = begins_with 34 _ refl

predicate_starts : (predicate : Predicate) → Starts (predicate_word predicate)
predicate_starts predicates.All = begins_with 97 _ refl
predicate_starts predicates.Any = begins_with 97 _ refl
predicate_starts predicates.None = begins_with 110 _ refl
predicate_starts predicates.One = begins_with 111 _ refl
predicate_starts predicates.Count = begins_with 99 _ refl
predicate_starts predicates.Filter = begins_with 102 _ refl

operand_starts : (part : Typed) → Starts (shown_part part) → (following : Text) → Starts (operand_text part (shown_part part) ++ following)
operand_starts part starts following = more (operand_text part (shown_part part)) following (grouped (has_sides part) (shown_part part) starts)

owner_starts : (part : Typed) → Starts (shown_part part) → (following : Text) → Starts (owner_text part (shown_part part) ++ following)
owner_starts part starts following = more (owner_text part (shown_part part)) following (grouped (has_sides part || has_sign part) (shown_part part) starts)

pub part_starts : (part : Typed) (inside : Bool) → CanBeWritten inside part → Starts (shown_part part)
part_starts typed.result inside can = begins_with 114 _ refl
part_starts typed.item inside can = begins_with 35 _ refl
part_starts (typed.literal literals.Nil) inside can = begins_with 110 _ refl
part_starts (typed.literal (literals.Bool true)) inside can = begins_with 116 _ refl
part_starts (typed.literal (literals.Bool false)) inside can = begins_with 102 _ refl
part_starts (typed.literal (literals.Whole (pos n))) inside can = let small : n < 2 ^ 63 = ltb-true n (2 ^ 63) can.1 in decimal_starts n (omega arith)
part_starts (typed.literal (literals.Whole (negsuc n))) inside can = absurd (cc can.0)
part_starts (typed.literal (literals.Decimal (pos n))) inside can = decimal_text_starts n can.1
part_starts (typed.literal (literals.Decimal (negsuc n))) inside can = absurd (cc can.0)
part_starts (typed.literal (literals.Text text)) inside can = quoted_starts text
part_starts (typed.field whole name) inside can = owner_starts whole (part_starts whole inside can.0) _
part_starts (typed.unary unary.Need operand) inside can = part_starts operand inside can
part_starts (typed.unary unary.ToDecimal operand) inside can = part_starts operand inside can
part_starts (typed.unary unary.Len operand) inside can = begins_with 108 _ refl
part_starts (typed.unary unary.IsNil operand) inside can = begins_with 105 _ refl
part_starts (typed.unary unary.Not operand) inside can = begins_with 33 _ refl
part_starts (typed.unary (unary.Negate of) operand) inside can = begins_with 45 _ refl
part_starts (typed.binary binary.Index left right) inside can = owner_starts left (part_starts left inside can.0) _
part_starts (typed.binary binary.Default left right) inside can = begins_with 100 _ refl
part_starts (typed.binary binary.IsIn left right) inside can = operand_starts left (part_starts left inside can.0) _
part_starts (typed.binary (binary.Wholes operator) left right) inside can = operand_starts left (part_starts left inside can.0) _
part_starts (typed.binary (binary.Decimals operator) left right) inside can = operand_starts left (part_starts left inside can.0) _
part_starts (typed.binary (binary.Compare of way) left right) inside can = operand_starts left (part_starts left inside can.0) _
part_starts (typed.binary (binary.Equal family) left right) inside can = operand_starts left (part_starts left inside can.0) _
part_starts (typed.binary (binary.TextTest test) left right) inside can = operand_starts left (part_starts left inside can.0) _
part_starts (typed.both left right) inside can = operand_starts left (part_starts left inside can.0) _
part_starts (typed.either left right) inside can = operand_starts left (part_starts left inside can.0) _
part_starts (typed.choice condition then_branch else_branch) inside can = operand_starts condition (part_starts condition inside can.0) _
part_starts (typed.listed scalar items) inside can = begins_with 91 _ refl
part_starts (typed.predicate predicate list body) inside can = more (predicate_word predicate) _ (predicate_starts predicate)

pub operand_differs : (part : Typed) (inside : Bool) → CanBeWritten inside part → (rest : Text) → (61 == slice_index (operand_text part (shown_part part) ++ rest) 0) ≡ false
operand_differs part inside can rest =
    let starts = grouped (has_sides part) (shown_part part) (part_starts part inside can) in
    ap (λ (text : Text). 61 == slice_index (text ++ rest) 0) starts.are ∙ starts.other
