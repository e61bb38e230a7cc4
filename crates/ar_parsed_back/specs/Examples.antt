-- Parts with the trees that the parser makes of their shown texts, and parts that can't be written.
use Rattle.std.specs.Prelude.{◌≡◌, refl, true, false, ℕ, zero, suc, pos, negsuc, List, codes, Ok, Err}
use Rattle.std.specs.Fmt.{digits}
use Rattle.std.specs.Str.{chars}
use Rattle.ar_value.specs.DecimalShown.{decimal_text}
use Rattle.ar_value.specs.Shape as shapes
use Rattle.ar_value.specs.declared.operator.Arithmetic.TheVariants as wholes
use Rattle.ar_value.specs.declared.operator.BinaryOperator.TheVariants as binary
use Rattle.ar_value.specs.declared.operator.Compared.TheVariants.{Wholes}
use Rattle.ar_value.specs.declared.operator.Order.TheVariants as orders
use Rattle.ar_value.specs.declared.operator.Predicate.TheVariants as predicates
use Rattle.ar_value.specs.declared.operator.Scalar.TheVariants.{Whole}
use Rattle.ar_value.specs.declared.operator.UnaryOperator.TheVariants as unary
use Rattle.ar_tree.specs.Expression.{Expression, ResultAt, ItemAt, LiteralAt, FieldAt, UnaryAt, BinaryAt, ChoiceAt, IsNilAt, DefaultAt, PredicateAt}
use Rattle.ar_tree.specs.Typed.{Typed}
use Rattle.ar_tree.specs.Typed as typed
use Rattle.ar_tree.specs.declared.tree.Binary.TheVariants as binaries
use Rattle.ar_tree.specs.declared.tree.Comparison.TheVariants as comparisons
use Rattle.ar_tree.specs.declared.tree.Literal.TheVariants as literals
use Rattle.ar_tree.specs.declared.tree.Unary.TheVariants as unaries
use Rattle.ar_syntax.specs.Fault.{fault_of}
use Rattle.ar_syntax.specs.Machine.{parser_step}
use Rattle.ar_syntax.specs.Parse.{parse_of, tree_of}
use Rattle.ar_syntax.specs.Roles.{begun_by, field_name_of, follows, is_brace, is_group, is_in, literal_text}
use Rattle.ar_syntax.specs.Token.{word_of}
use Rattle.ar_syntax.specs.Tokens.{base_of, front_of, number_at_front, sign_at, text_at_front, token_of, tokens_after, tokens_of}
use Rattle.ar_syntax.specs.declared.error.SyntaxError.TheVariants.{BadEscape, TooDeep, Unexpected}
use Rattle.ar_check.specs.Check.{checked}
use Rattle.ar_quote.specs.Shown.{quoted}
use Rattle.ar_show.specs.PartText.{shown_part}
use Rattle.ar_parsed_back.specs.Readable.{CanBeWritten}

abbrev whole_part : ℕ → Typed
whole_part n = typed.literal (literals.Whole (pos n))

abbrev whole_at : ℕ → ℕ → Expression
whole_at at n = LiteralAt at (literals.Whole (pos n))

abbrev text_part : List ℕ → Typed
text_part text = typed.literal (literals.Text text)

-- `((result + 1) * 2) > 3`
sums_before_products : parse_of (shown_part (typed.binary (binary.Compare Wholes orders.Greater)
    (typed.binary (binary.Wholes wholes.Multiply)
    (typed.unary unary.Need (typed.binary (binary.Wholes wholes.Add) typed.result (whole_part 1))) (whole_part 2))
    (whole_part 3)))
    ≡ Ok (BinaryAt 19 (binaries.Comparison comparisons.Greater)
    (BinaryAt 14 binaries.Multiply (BinaryAt 9 binaries.Add (ResultAt 2) (whole_at 11 1)) (whole_at 16 2))
    (whole_at 21 3))
unfolding digits parse_of tree_of fault_of tokens_of tokens_after front_of token_of number_at_front base_of text_at_front sign_at word_of parser_step begun_by follows field_name_of literal_text is_in is_group is_brace
sums_before_products = refl

-- `!result["p 95"]`
names_that_are_no_words : parse_of (shown_part (typed.unary unary.Not (typed.field typed.result (codes "p 95"))))
    ≡ Ok (UnaryAt 0 unaries.Not (FieldAt 7 (ResultAt 1) (codes "p 95")))
unfolding quoted chars lib.Utf8.encode parse_of tree_of fault_of tokens_of tokens_after front_of token_of number_at_front base_of text_at_front sign_at word_of parser_step begun_by follows field_name_of literal_text is_in is_group is_brace
names_that_are_no_words = refl

-- and that part can be written
a_name_can_be_written : CanBeWritten false (typed.unary unary.Not (typed.field typed.result (codes "p 95")))
unfolding chars lib.Utf8.encode
a_name_can_be_written = (tt, record { utf8 = (codes "p 95", (refl, refl)); short = refl; plain = refl })

-- `all(result.rates, # < 0.5)`
calls : parse_of (shown_part (typed.predicate predicates.All (typed.field typed.result (codes "rates"))
    (typed.binary (binary.Compare Wholes orders.Less) typed.item (typed.literal (literals.Decimal (pos 500000))))))
    ≡ Ok (PredicateAt 0 predicates.All (FieldAt 10 (ResultAt 4) (codes "rates"))
    (BinaryAt 20 (binaries.Comparison comparisons.Less) (ItemAt 18)
    (LiteralAt 22 (literals.Decimal (pos 500000)))))
unfolding decimal_text digits parse_of tree_of fault_of tokens_of tokens_after front_of token_of number_at_front base_of text_at_front sign_at word_of parser_step begun_by follows field_name_of literal_text is_in is_group is_brace
calls = refl

-- `isNil(result) ? 0 : default(result, 1)`
choices : parse_of (shown_part (typed.choice (typed.unary unary.IsNil typed.result) (whole_part 0)
    (typed.binary binary.Default typed.result (whole_part 1))))
    ≡ Ok (ChoiceAt 14 (IsNilAt 0 (ResultAt 6)) (whole_at 16 0) (DefaultAt 20 (ResultAt 28) (whole_at 36 1)))
unfolding digits parse_of tree_of fault_of tokens_of tokens_after front_of token_of number_at_front base_of text_at_front sign_at word_of parser_step begun_by follows field_name_of literal_text is_in is_group is_brace
choices = refl

-- ---- parts that can't be written

-- a number below zero is a sign and a number
below_zero : parse_of (shown_part (typed.literal (literals.Whole (negsuc 0))))
    ≡ Ok (UnaryAt 0 unaries.Minus (whole_at 1 1))
unfolding digits parse_of tree_of fault_of tokens_of tokens_after front_of token_of number_at_front base_of text_at_front sign_at word_of parser_step begun_by follows field_name_of literal_text is_in is_group is_brace
below_zero = refl

-- an index that is one text is a field's name
text_as_index : parse_of (shown_part (typed.binary binary.Index typed.result (text_part (codes "a"))))
    ≡ Ok (FieldAt 6 (ResultAt 0) (codes "a"))
unfolding quoted chars lib.Utf8.encode parse_of tree_of fault_of tokens_of tokens_after front_of token_of number_at_front base_of text_at_front sign_at word_of parser_step begun_by follows field_name_of literal_text is_in is_group is_brace
text_as_index = refl

-- a character shown by its code
escape_character : parse_of (shown_part (text_part (codes "\u{1b}"))) ≡ Err (BadEscape 1)
unfolding quoted chars lib.Utf8.encode parse_of tree_of fault_of tokens_of tokens_after front_of token_of number_at_front base_of text_at_front sign_at word_of parser_step begun_by follows field_name_of literal_text is_in is_group is_brace
escape_character = refl

-- a list without items
no_items : parse_of (shown_part (typed.listed Whole typed.none)) ≡ Err (Unexpected 1)
unfolding parse_of tree_of fault_of tokens_of tokens_after front_of token_of number_at_front base_of text_at_front sign_at word_of parser_step begun_by follows field_name_of literal_text is_in is_group is_brace
no_items = refl

-- ---- a text with too many parentheses

-- `true ? 1 : (true ? 1 : (.. 1))`, which is accepted without the parentheses
choices_in_choices : ℕ → Typed
choices_in_choices zero = whole_part 1
choices_in_choices (suc n) =
    typed.choice (typed.literal (literals.Bool true)) (whole_part 1) (choices_in_choices n)

too_many_parentheses : parse_of (shown_part (choices_in_choices 33)) ≡ Err (TooDeep 389)
unfolding choices_in_choices digits parse_of tree_of fault_of tokens_of tokens_after front_of token_of number_at_front base_of text_at_front sign_at word_of parser_step begun_by follows field_name_of literal_text is_in is_group is_brace
too_many_parentheses = refl

-- ---- a `Need` that isn't in place

-- `isNil(+result)` is checked, and unwraps a whole that may be nil
plus_unwraps : checked (shapes.optional shapes.whole) (IsNilAt 0 (UnaryAt 6 unaries.Plus (ResultAt 7)))
    ≡ Ok (typed.unary unary.IsNil (typed.unary unary.Need typed.result))
plus_unwraps = refl

-- it is shown as `isNil(result)`, which isn't a fault on nil
without_plus : shown_part (typed.unary unary.IsNil (typed.unary unary.Need typed.result)) ≡ codes "isNil(result)"
without_plus = refl
