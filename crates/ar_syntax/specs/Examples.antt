-- Tokens with their trees, computed by the machine.
use Rattle.ar_syntax.specs.Condition.{strict}
use Rattle.std.specs.Prelude.{◌≡◌, ℕ, false, true, pos, List, codes, Option, Some, None, Result, Ok, Err, refl}
use Rattle.ar_tree.specs.Expression.{Expression, ResultAt, ItemAt, LiteralAt, FieldAt, IndexAt, UnaryAt, BinaryAt, ChoiceAt, ListAt, LenAt, IsNilAt, DefaultAt, PredicateAt, none, more}
use Rattle.ar_syntax.specs.Machine.{parser_step, tree_by}
use Rattle.ar_syntax.specs.Roles.{follows, is_brace, is_group, is_in, field_name_of, begun_by, literal_text}
use Rattle.ar_syntax.specs.Token.{word_of}
use Rattle.ar_syntax.specs.Tokens.{base_of, front_of, number_at_front, sign_at, text_at_front, token_of, tokens_after, tokens_of}
use Rattle.ar_syntax.specs.declared.error.SyntaxError.{SyntaxError}
use Rattle.ar_tree.specs.declared.tree.Comparison.TheVariants.{Equal, Greater, Less}
use Rattle.ar_syntax.specs.declared.token.Token.{Token}
use Rattle.ar_tree.specs.declared.tree.Binary.TheVariants as binaries
use Rattle.ar_tree.specs.declared.tree.Literal.TheVariants as literals
use Rattle.ar_value.specs.declared.operator.Predicate.TheVariants.{All}
use Rattle.ar_value.specs.declared.operator.Predicate.TheVariants as predicates
use Rattle.ar_value.specs.declared.operator.TextTest.TheVariants.{Contains, StartsWith, EndsWith}
use Rattle.ar_tree.specs.declared.tree.Unary.TheVariants as unaries

abbrev said : Result (List Token) SyntaxError → Option Expression
said (Ok tokens) = tree_by strict tokens
said (Err error) = None

abbrev whole_at : ℕ → ℕ → Expression
whole_at at value = LiteralAt at (literals.Whole (pos value))

comparison : said (tokens_of (codes "result > 1"))
    ≡ Some (BinaryAt 7 (binaries.Comparison Greater) (ResultAt 0) (whole_at 9 1))
unfolding tokens_of tokens_after front_of token_of number_at_front base_of text_at_front sign_at word_of parser_step begun_by follows field_name_of literal_text is_in is_group is_brace
comparison = refl

to_the_left : said (tokens_of (codes "1 - 2 - 3"))
    ≡ Some (BinaryAt 6 binaries.Subtract (BinaryAt 2 binaries.Subtract (whole_at 0 1) (whole_at 4 2)) (whole_at 8 3))
unfolding tokens_of tokens_after front_of token_of number_at_front base_of text_at_front sign_at word_of parser_step begun_by follows field_name_of literal_text is_in is_group is_brace
to_the_left = refl

levels : said (tokens_of (codes "1 + 2 * 3 == 4 or true"))
    ≡ Some (BinaryAt 15 binaries.Or
    (BinaryAt 10 (binaries.Comparison Equal)
    (BinaryAt 2 binaries.Add (whole_at 0 1) (BinaryAt 6 binaries.Multiply (whole_at 4 2) (whole_at 8 3)))
    (whole_at 13 4)) (LiteralAt 18 (literals.Bool true)))
unfolding tokens_of tokens_after front_of token_of number_at_front base_of text_at_front sign_at word_of parser_step begun_by follows field_name_of literal_text is_in is_group is_brace
levels = refl

signs_bind_tighter : said (tokens_of (codes "-1 * 2"))
    ≡ Some (BinaryAt 3 binaries.Multiply (UnaryAt 0 unaries.Minus (whole_at 1 1)) (whole_at 5 2))
unfolding tokens_of tokens_after front_of token_of number_at_front base_of text_at_front sign_at word_of parser_step begun_by follows field_name_of literal_text is_in is_group is_brace
signs_bind_tighter = refl

not_in_operator : said (tokens_of (codes "1 not in [2]"))
    ≡ Some (BinaryAt 2 binaries.NotIn (whole_at 0 1) (ListAt 9 (more (whole_at 10 2) none)))
unfolding tokens_of tokens_after front_of token_of number_at_front base_of text_at_front sign_at word_of parser_step begun_by follows field_name_of literal_text is_in is_group is_brace
not_in_operator = refl

choices_to_the_right : said (tokens_of (codes "true ? 1 : false ? 2 : 3"))
    ≡ Some (ChoiceAt 5 (LiteralAt 0 (literals.Bool true)) (whole_at 7 1)
    (ChoiceAt 17 (LiteralAt 11 (literals.Bool false)) (whole_at 19 2) (whole_at 23 3)))
unfolding tokens_of tokens_after front_of token_of number_at_front base_of text_at_front sign_at word_of parser_step begun_by follows field_name_of literal_text is_in is_group is_brace
choices_to_the_right = refl

field_and_index : said (tokens_of (codes "result.a['b'][0]"))
    ≡ Some (IndexAt 13 (FieldAt 8 (FieldAt 6 (ResultAt 0) (codes "a")) (codes "b")) (whole_at 14 0))
unfolding tokens_of tokens_after front_of token_of number_at_front base_of text_at_front sign_at word_of parser_step begun_by follows field_name_of literal_text is_in is_group is_brace
field_and_index = refl

text_index : said (tokens_of (codes "result['b' + 'c']"))
    ≡ Some (IndexAt 6 (ResultAt 0)
    (BinaryAt 11 binaries.Add (LiteralAt 7 (literals.Text (codes "b"))) (LiteralAt 13 (literals.Text (codes "c")))))
unfolding tokens_of tokens_after front_of token_of number_at_front base_of text_at_front sign_at word_of parser_step begun_by follows field_name_of literal_text is_in is_group is_brace
text_index = refl

predicate : said (tokens_of (codes "all(result, {.a > #})"))
    ≡ Some (PredicateAt 0 All (ResultAt 4)
    (BinaryAt 16 (binaries.Comparison Greater) (FieldAt 13 (ItemAt 13) (codes "a")) (ItemAt 18)))
unfolding tokens_of tokens_after front_of token_of number_at_front base_of text_at_front sign_at word_of parser_step begun_by follows field_name_of literal_text is_in is_group is_brace
predicate = refl

item_outside : said (tokens_of (codes "# > 1")) ≡ None
unfolding tokens_of tokens_after front_of token_of number_at_front base_of text_at_front sign_at word_of parser_step begun_by follows field_name_of literal_text is_in is_group is_brace
item_outside = refl

two_arguments : said (tokens_of (codes "len(result, 1)")) ≡ None
unfolding tokens_of tokens_after front_of token_of number_at_front base_of text_at_front sign_at word_of parser_step begun_by follows field_name_of literal_text is_in is_group is_brace
two_arguments = refl

signs_and_remainder : said (tokens_of (codes "+1 > -2 % 3"))
    ≡ Some (BinaryAt 3 (binaries.Comparison Greater) (UnaryAt 0 unaries.Plus (whole_at 1 1))
    (BinaryAt 8 binaries.Remainder (UnaryAt 5 unaries.Minus (whole_at 6 2)) (whole_at 10 3)))
unfolding tokens_of tokens_after front_of token_of number_at_front base_of text_at_front sign_at word_of parser_step begun_by follows field_name_of literal_text is_in is_group is_brace
signs_and_remainder = refl

not_binds_tighter : said (tokens_of (codes "not true && false"))
    ≡ Some (BinaryAt 9 binaries.And (UnaryAt 0 unaries.Not (LiteralAt 4 (literals.Bool true)))
    (LiteralAt 12 (literals.Bool false)))
unfolding tokens_of tokens_after front_of token_of number_at_front base_of text_at_front sign_at word_of parser_step begun_by follows field_name_of literal_text is_in is_group is_brace
not_binds_tighter = refl

parentheses : said (tokens_of (codes "(1 + 2) * 3"))
    ≡ Some (BinaryAt 8 binaries.Multiply (BinaryAt 3 binaries.Add (whole_at 1 1) (whole_at 5 2)) (whole_at 10 3))
unfolding tokens_of tokens_after front_of token_of number_at_front base_of text_at_front sign_at word_of parser_step begun_by follows field_name_of literal_text is_in is_group is_brace
parentheses = refl

comparisons_to_the_left : said (tokens_of (codes "1 == 2 == 3"))
    ≡ Some (BinaryAt 7 (binaries.Comparison Equal)
    (BinaryAt 2 (binaries.Comparison Equal) (whole_at 0 1) (whole_at 5 2)) (whole_at 10 3))
unfolding tokens_of tokens_after front_of token_of number_at_front base_of text_at_front sign_at word_of parser_step begun_by follows field_name_of literal_text is_in is_group is_brace
comparisons_to_the_left = refl

in_and_not_in : said (tokens_of (codes "1 in [2] not in [3]"))
    ≡ Some (BinaryAt 9 binaries.NotIn (BinaryAt 2 binaries.In (whole_at 0 1) (ListAt 5 (more (whole_at 6 2) none)))
    (ListAt 16 (more (whole_at 17 3) none)))
unfolding tokens_of tokens_after front_of token_of number_at_front base_of text_at_front sign_at word_of parser_step begun_by follows field_name_of literal_text is_in is_group is_brace
in_and_not_in = refl

minus_of_item : said (tokens_of (codes "-result.a[0]"))
    ≡ Some (UnaryAt 0 unaries.Minus (IndexAt 9 (FieldAt 7 (ResultAt 1) (codes "a")) (whole_at 10 0)))
unfolding tokens_of tokens_after front_of token_of number_at_front base_of text_at_front sign_at word_of parser_step begun_by follows field_name_of literal_text is_in is_group is_brace
minus_of_item = refl

words_as_fields : said (tokens_of (codes "result.len.in"))
    ≡ Some (FieldAt 10 (FieldAt 6 (ResultAt 0) (codes "len")) (codes "in"))
unfolding tokens_of tokens_after front_of token_of number_at_front base_of text_at_front sign_at word_of parser_step begun_by follows field_name_of literal_text is_in is_group is_brace
words_as_fields = refl

text_in_parentheses_as_index : said (tokens_of (codes "result[('b')]"))
    ≡ Some (IndexAt 6 (ResultAt 0) (LiteralAt 8 (literals.Text (codes "b"))))
unfolding tokens_of tokens_after front_of token_of number_at_front base_of text_at_front sign_at word_of parser_step begun_by follows field_name_of literal_text is_in is_group is_brace
text_in_parentheses_as_index = refl

nil_alone : said (tokens_of (codes "nil")) ≡ Some (LiteralAt 0 literals.Nil)
unfolding tokens_of tokens_after front_of token_of number_at_front base_of text_at_front sign_at word_of parser_step begun_by follows field_name_of literal_text is_in is_group is_brace
nil_alone = refl

len_divided : said (tokens_of (codes "len(result) / 2"))
    ≡ Some (BinaryAt 12 binaries.Divide (LenAt 0 (ResultAt 4)) (whole_at 14 2))
unfolding tokens_of tokens_after front_of token_of number_at_front base_of text_at_front sign_at word_of parser_step begun_by follows field_name_of literal_text is_in is_group is_brace
len_divided = refl

is_nil_of_result : said (tokens_of (codes "isNil(result)")) ≡ Some (IsNilAt 0 (ResultAt 6))
unfolding tokens_of tokens_after front_of token_of number_at_front base_of text_at_front sign_at word_of parser_step begun_by follows field_name_of literal_text is_in is_group is_brace
is_nil_of_result = refl

default_of_result : said (tokens_of (codes "default(result, 1)")) ≡ Some (DefaultAt 0 (ResultAt 8) (whole_at 16 1))
unfolding tokens_of tokens_after front_of token_of number_at_front base_of text_at_front sign_at word_of parser_step begun_by follows field_name_of literal_text is_in is_group is_brace
default_of_result = refl

predicate_in_predicate : said (tokens_of (codes "all(result, any(#, # > 1) or true)"))
    ≡ Some (PredicateAt 0 All (ResultAt 4)
    (BinaryAt 26 binaries.Or
    (PredicateAt 12 predicates.Any (ItemAt 16)
    (BinaryAt 21 (binaries.Comparison Greater) (ItemAt 19) (whole_at 23 1)))
    (LiteralAt 29 (literals.Bool true))))
unfolding tokens_of tokens_after front_of token_of number_at_front base_of text_at_front sign_at word_of parser_step begun_by follows field_name_of literal_text is_in is_group is_brace
predicate_in_predicate = refl

predicates_with_constants : said (tokens_of (codes "count(filter(result, true), {false})"))
    ≡ Some (PredicateAt 0 predicates.Count
    (PredicateAt 6 predicates.Filter (ResultAt 13) (LiteralAt 21 (literals.Bool true)))
    (LiteralAt 29 (literals.Bool false)))
unfolding tokens_of tokens_after front_of token_of number_at_front base_of text_at_front sign_at word_of parser_step begun_by follows field_name_of literal_text is_in is_group is_brace
predicates_with_constants = refl

choice_in_choice : said (tokens_of (codes "true ? true ? 1 : 2 : 3"))
    ≡ Some (ChoiceAt 5 (LiteralAt 0 (literals.Bool true))
    (ChoiceAt 12 (LiteralAt 7 (literals.Bool true)) (whole_at 14 1) (whole_at 18 2)) (whole_at 22 3))
unfolding tokens_of tokens_after front_of token_of number_at_front base_of text_at_front sign_at word_of parser_step begun_by follows field_name_of literal_text is_in is_group is_brace
choice_in_choice = refl

measured_value_alone : said (tokens_of (codes "result")) ≡ Some (ResultAt 0)
unfolding tokens_of tokens_after front_of token_of number_at_front base_of text_at_front sign_at word_of parser_step begun_by follows field_name_of literal_text is_in is_group is_brace
measured_value_alone = refl

text_test : said (tokens_of (codes "result contains \"x\""))
    ≡ Some (BinaryAt 7 (binaries.TextTest Contains) (ResultAt 0) (LiteralAt 16 (literals.Text (codes "x"))))
unfolding tokens_of tokens_after front_of token_of number_at_front base_of text_at_front sign_at word_of parser_step begun_by follows field_name_of literal_text is_in is_group is_brace
text_test = refl

text_test_and_comparison : said (tokens_of (codes "result contains \"a\" == true"))
    ≡ Some (BinaryAt 20 (binaries.Comparison Equal)
    (BinaryAt 7 (binaries.TextTest Contains) (ResultAt 0) (LiteralAt 16 (literals.Text (codes "a"))))
    (LiteralAt 23 (literals.Bool true)))
unfolding tokens_of tokens_after front_of token_of number_at_front base_of text_at_front sign_at word_of parser_step begun_by follows field_name_of literal_text is_in is_group is_brace
text_test_and_comparison = refl

text_test_between_levels : said (tokens_of (codes "result contains 'a' + 'b' and true"))
    ≡ Some (BinaryAt 26 binaries.And
    (BinaryAt 7 (binaries.TextTest Contains) (ResultAt 0)
    (BinaryAt 20 binaries.Add (LiteralAt 16 (literals.Text (codes "a")))
    (LiteralAt 22 (literals.Text (codes "b"))))) (LiteralAt 30 (literals.Bool true)))
unfolding tokens_of tokens_after front_of token_of number_at_front base_of text_at_front sign_at word_of parser_step begun_by follows field_name_of literal_text is_in is_group is_brace
text_test_between_levels = refl

text_tests_to_the_left : said (tokens_of (codes "result.contains startsWith 'a' endsWith 'b'"))
    ≡ Some (BinaryAt 31 (binaries.TextTest EndsWith)
    (BinaryAt 16 (binaries.TextTest StartsWith) (FieldAt 6 (ResultAt 0) (codes "contains"))
    (LiteralAt 27 (literals.Text (codes "a")))) (LiteralAt 40 (literals.Text (codes "b"))))
unfolding tokens_of tokens_after front_of token_of number_at_front base_of text_at_front sign_at word_of parser_step begun_by follows field_name_of literal_text is_in is_group is_brace
text_tests_to_the_left = refl

none_of_items : said (tokens_of (codes "none(result, # < 0.5)"))
    ≡ Some (PredicateAt 0 predicates.None (ResultAt 5)
    (BinaryAt 15 (binaries.Comparison Less) (ItemAt 13) (LiteralAt 17 (literals.Decimal (pos 500000)))))
unfolding tokens_of tokens_after front_of token_of number_at_front base_of text_at_front sign_at word_of parser_step begun_by follows field_name_of literal_text is_in is_group is_brace
none_of_items = refl

one_of_items : said (tokens_of (codes "one(result, {#})"))
    ≡ Some (PredicateAt 0 predicates.One (ResultAt 4) (ItemAt 13))
unfolding tokens_of tokens_after front_of token_of number_at_front base_of text_at_front sign_at word_of parser_step begun_by follows field_name_of literal_text is_in is_group is_brace
one_of_items = refl
