-- Texts with their refusals, worked out by hand from the grammar. Each is named for what it shows.
use Rattle.std.specs.Prelude.{◌≡◌, codes, Err, refl}
use Rattle.ar_syntax.specs.Fault.{fault_of}
use Rattle.ar_syntax.specs.Machine.{parser_step}
use Rattle.ar_syntax.specs.Parse.{parse_of, tree_of}
use Rattle.ar_syntax.specs.Roles.{follows, is_brace, is_group, is_in, field_name_of, begun_by, literal_text}
use Rattle.ar_syntax.specs.Token.{word_of}
use Rattle.ar_syntax.specs.Tokens.{base_of, front_of, number_at_front, sign_at, text_at_front, token_of, tokens_after, tokens_of}
use Rattle.ar_syntax.specs.declared.error.SyntaxError.TheVariants.{BadCharacter, OpenText, OpenComment, BadEscape, LiteralTooFine, NumberTooLarge, Unexpected, UnknownName, WrongCount, ItemOutside, TooManyItems, TooDeep}

seventh_digit : parse_of (codes "result > 0.1234567") ≡ Err (LiteralTooFine 9)
unfolding parse_of tree_of fault_of tokens_of tokens_after front_of token_of number_at_front base_of text_at_front sign_at word_of parser_step begun_by follows field_name_of literal_text is_in is_group is_brace
seventh_digit = refl

sign_of_no_language : parse_of (codes "result ^ 2") ≡ Err (BadCharacter 7)
unfolding parse_of tree_of fault_of tokens_of tokens_after front_of token_of number_at_front base_of text_at_front sign_at word_of parser_step begun_by follows field_name_of literal_text is_in is_group is_brace
sign_of_no_language = refl

text_without_end : parse_of (codes "\"a") ≡ Err (OpenText 0)
unfolding parse_of tree_of fault_of tokens_of tokens_after front_of token_of number_at_front base_of text_at_front sign_at word_of parser_step begun_by follows field_name_of literal_text is_in is_group is_brace
text_without_end = refl

comment_without_end : parse_of (codes "/* a") ≡ Err (OpenComment 0)
unfolding parse_of tree_of fault_of tokens_of tokens_after front_of token_of number_at_front base_of text_at_front sign_at word_of parser_step begun_by follows field_name_of literal_text is_in is_group is_brace
comment_without_end = refl

escape_of_no_language : parse_of (codes "\"\\q\" == \"\"") ≡ Err (BadEscape 1)
unfolding parse_of tree_of fault_of tokens_of tokens_after front_of token_of number_at_front base_of text_at_front sign_at word_of parser_step begun_by follows field_name_of literal_text is_in is_group is_brace
escape_of_no_language = refl

whole_too_large : parse_of (codes "9223372036854775808 > 0") ≡ Err (NumberTooLarge 0)
unfolding parse_of tree_of fault_of tokens_of tokens_after front_of token_of number_at_front base_of text_at_front sign_at word_of parser_step begun_by follows field_name_of literal_text is_in is_group is_brace
whole_too_large = refl

letter_after_number : parse_of (codes "'a' 1a") ≡ Err (BadCharacter 5)
unfolding parse_of tree_of fault_of tokens_of tokens_after front_of token_of number_at_front base_of text_at_front sign_at word_of parser_step begun_by follows field_name_of literal_text is_in is_group is_brace
letter_after_number = refl

sign_of_optional_chain : parse_of (codes "1 ? .5 : 2 ?. a") ≡ Err (BadCharacter 11)
unfolding parse_of tree_of fault_of tokens_of tokens_after front_of token_of number_at_front base_of text_at_front sign_at word_of parser_step begun_by follows field_name_of literal_text is_in is_group is_brace
sign_of_optional_chain = refl

name_first : parse_of (codes "foo > 1") ≡ Err (UnknownName 0)
unfolding parse_of tree_of fault_of tokens_of tokens_after front_of token_of number_at_front base_of text_at_front sign_at word_of parser_step begun_by follows field_name_of literal_text is_in is_group is_brace
name_first = refl

name_after_operator : parse_of (codes "1 + foo") ≡ Err (UnknownName 4)
unfolding parse_of tree_of fault_of tokens_of tokens_after front_of token_of number_at_front base_of text_at_front sign_at word_of parser_step begun_by follows field_name_of literal_text is_in is_group is_brace
name_after_operator = refl

name_in_list : parse_of (codes "[foo]") ≡ Err (UnknownName 1)
unfolding parse_of tree_of fault_of tokens_of tokens_after front_of token_of number_at_front base_of text_at_front sign_at word_of parser_step begun_by follows field_name_of literal_text is_in is_group is_brace
name_in_list = refl

name_in_index : parse_of (codes "result[foo]") ≡ Err (UnknownName 7)
unfolding parse_of tree_of fault_of tokens_of tokens_after front_of token_of number_at_front base_of text_at_front sign_at word_of parser_step begun_by follows field_name_of literal_text is_in is_group is_brace
name_in_index = refl

name_as_argument : parse_of (codes "len(foo)") ≡ Err (UnknownName 4)
unfolding parse_of tree_of fault_of tokens_of tokens_after front_of token_of number_at_front base_of text_at_front sign_at word_of parser_step begun_by follows field_name_of literal_text is_in is_group is_brace
name_as_argument = refl

name_in_predicate : parse_of (codes "all(result, foo)") ≡ Err (UnknownName 12)
unfolding parse_of tree_of fault_of tokens_of tokens_after front_of token_of number_at_front base_of text_at_front sign_at word_of parser_step begun_by follows field_name_of literal_text is_in is_group is_brace
name_in_predicate = refl

name_in_braces : parse_of (codes "all(result, {foo})") ≡ Err (UnknownName 13)
unfolding parse_of tree_of fault_of tokens_of tokens_after front_of token_of number_at_front base_of text_at_front sign_at word_of parser_step begun_by follows field_name_of literal_text is_in is_group is_brace
name_in_braces = refl

name_after_not : parse_of (codes "not foo") ≡ Err (UnknownName 4)
unfolding parse_of tree_of fault_of tokens_of tokens_after front_of token_of number_at_front base_of text_at_front sign_at word_of parser_step begun_by follows field_name_of literal_text is_in is_group is_brace
name_after_not = refl

name_after_question : parse_of (codes "true ? foo : 1") ≡ Err (UnknownName 7)
unfolding parse_of tree_of fault_of tokens_of tokens_after front_of token_of number_at_front base_of text_at_front sign_at word_of parser_step begun_by follows field_name_of literal_text is_in is_group is_brace
name_after_question = refl

name_after_operand : parse_of (codes "result foo") ≡ Err (Unexpected 7)
unfolding parse_of tree_of fault_of tokens_of tokens_after front_of token_of number_at_front base_of text_at_front sign_at word_of parser_step begun_by follows field_name_of literal_text is_in is_group is_brace
name_after_operand = refl

name_after_call_name : parse_of (codes "len foo") ≡ Err (Unexpected 4)
unfolding parse_of tree_of fault_of tokens_of tokens_after front_of token_of number_at_front base_of text_at_front sign_at word_of parser_step begun_by follows field_name_of literal_text is_in is_group is_brace
name_after_call_name = refl

name_after_text_in_brackets : parse_of (codes "result['a' foo]") ≡ Err (Unexpected 11)
unfolding parse_of tree_of fault_of tokens_of tokens_after front_of token_of number_at_front base_of text_at_front sign_at word_of parser_step begun_by follows field_name_of literal_text is_in is_group is_brace
name_after_text_in_brackets = refl

name_after_not_of_not_in : parse_of (codes "1 not foo") ≡ Err (Unexpected 6)
unfolding parse_of tree_of fault_of tokens_of tokens_after front_of token_of number_at_front base_of text_at_front sign_at word_of parser_step begun_by follows field_name_of literal_text is_in is_group is_brace
name_after_not_of_not_in = refl

len_of_none : parse_of (codes "len() == 0") ≡ Err (WrongCount 4)
unfolding parse_of tree_of fault_of tokens_of tokens_after front_of token_of number_at_front base_of text_at_front sign_at word_of parser_step begun_by follows field_name_of literal_text is_in is_group is_brace
len_of_none = refl

len_of_two : parse_of (codes "len(1, 2)") ≡ Err (WrongCount 5)
unfolding parse_of tree_of fault_of tokens_of tokens_after front_of token_of number_at_front base_of text_at_front sign_at word_of parser_step begun_by follows field_name_of literal_text is_in is_group is_brace
len_of_two = refl

is_nil_of_none : parse_of (codes "isNil()") ≡ Err (WrongCount 6)
unfolding parse_of tree_of fault_of tokens_of tokens_after front_of token_of number_at_front base_of text_at_front sign_at word_of parser_step begun_by follows field_name_of literal_text is_in is_group is_brace
is_nil_of_none = refl

is_nil_continues : parse_of (codes "isNil(1,") ≡ Err (WrongCount 7)
unfolding parse_of tree_of fault_of tokens_of tokens_after front_of token_of number_at_front base_of text_at_front sign_at word_of parser_step begun_by follows field_name_of literal_text is_in is_group is_brace
is_nil_continues = refl

default_of_none : parse_of (codes "default()") ≡ Err (WrongCount 8)
unfolding parse_of tree_of fault_of tokens_of tokens_after front_of token_of number_at_front base_of text_at_front sign_at word_of parser_step begun_by follows field_name_of literal_text is_in is_group is_brace
default_of_none = refl

default_of_one : parse_of (codes "default(1)") ≡ Err (WrongCount 9)
unfolding parse_of tree_of fault_of tokens_of tokens_after front_of token_of number_at_front base_of text_at_front sign_at word_of parser_step begun_by follows field_name_of literal_text is_in is_group is_brace
default_of_one = refl

default_of_three : parse_of (codes "default(1, 2, 3)") ≡ Err (WrongCount 12)
unfolding parse_of tree_of fault_of tokens_of tokens_after front_of token_of number_at_front base_of text_at_front sign_at word_of parser_step begun_by follows field_name_of literal_text is_in is_group is_brace
default_of_three = refl

all_of_none : parse_of (codes "all()") ≡ Err (WrongCount 4)
unfolding parse_of tree_of fault_of tokens_of tokens_after front_of token_of number_at_front base_of text_at_front sign_at word_of parser_step begun_by follows field_name_of literal_text is_in is_group is_brace
all_of_none = refl

all_of_one : parse_of (codes "all(result)") ≡ Err (WrongCount 10)
unfolding parse_of tree_of fault_of tokens_of tokens_after front_of token_of number_at_front base_of text_at_front sign_at word_of parser_step begun_by follows field_name_of literal_text is_in is_group is_brace
all_of_one = refl

all_of_three : parse_of (codes "all(result, #, 1)") ≡ Err (WrongCount 13)
unfolding parse_of tree_of fault_of tokens_of tokens_after front_of token_of number_at_front base_of text_at_front sign_at word_of parser_step begun_by follows field_name_of literal_text is_in is_group is_brace
all_of_three = refl

all_of_three_after_braces : parse_of (codes "all(result, {#}, 1)") ≡ Err (WrongCount 15)
unfolding parse_of tree_of fault_of tokens_of tokens_after front_of token_of number_at_front base_of text_at_front sign_at word_of parser_step begun_by follows field_name_of literal_text is_in is_group is_brace
all_of_three_after_braces = refl

any_of_one : parse_of (codes "any([1] )") ≡ Err (WrongCount 8)
unfolding parse_of tree_of fault_of tokens_of tokens_after front_of token_of number_at_front base_of text_at_front sign_at word_of parser_step begun_by follows field_name_of literal_text is_in is_group is_brace
any_of_one = refl

count_of_one_sum : parse_of (codes "count(1 + 2)") ≡ Err (WrongCount 11)
unfolding parse_of tree_of fault_of tokens_of tokens_after front_of token_of number_at_front base_of text_at_front sign_at word_of parser_step begun_by follows field_name_of literal_text is_in is_group is_brace
count_of_one_sum = refl

len_of_two_after_sign : parse_of (codes "len(-1, 2)") ≡ Err (WrongCount 6)
unfolding parse_of tree_of fault_of tokens_of tokens_after front_of token_of number_at_front base_of text_at_front sign_at word_of parser_step begun_by follows field_name_of literal_text is_in is_group is_brace
len_of_two_after_sign = refl

len_of_two_after_choice : parse_of (codes "len(true ? 1 : 2, 2)") ≡ Err (WrongCount 16)
unfolding parse_of tree_of fault_of tokens_of tokens_after front_of token_of number_at_front base_of text_at_front sign_at word_of parser_step begun_by follows field_name_of literal_text is_in is_group is_brace
len_of_two_after_choice = refl

comma_as_argument : parse_of (codes "len(,") ≡ Err (Unexpected 4)
unfolding parse_of tree_of fault_of tokens_of tokens_after front_of token_of number_at_front base_of text_at_front sign_at word_of parser_step begun_by follows field_name_of literal_text is_in is_group is_brace
comma_as_argument = refl

comma_as_first_of_two : parse_of (codes "default(,") ≡ Err (Unexpected 8)
unfolding parse_of tree_of fault_of tokens_of tokens_after front_of token_of number_at_front base_of text_at_front sign_at word_of parser_step begun_by follows field_name_of literal_text is_in is_group is_brace
comma_as_first_of_two = refl

default_ends_after_comma : parse_of (codes "default(1,)") ≡ Err (Unexpected 10)
unfolding parse_of tree_of fault_of tokens_of tokens_after front_of token_of number_at_front base_of text_at_front sign_at word_of parser_step begun_by follows field_name_of literal_text is_in is_group is_brace
default_ends_after_comma = refl

all_ends_after_comma : parse_of (codes "all(result,)") ≡ Err (Unexpected 11)
unfolding parse_of tree_of fault_of tokens_of tokens_after front_of token_of number_at_front base_of text_at_front sign_at word_of parser_step begun_by follows field_name_of literal_text is_in is_group is_brace
all_ends_after_comma = refl

call_ends_after_operator : parse_of (codes "len(1 +)") ≡ Err (Unexpected 7)
unfolding parse_of tree_of fault_of tokens_of tokens_after front_of token_of number_at_front base_of text_at_front sign_at word_of parser_step begun_by follows field_name_of literal_text is_in is_group is_brace
call_ends_after_operator = refl

comma_after_operator : parse_of (codes "len(1 + , 2)") ≡ Err (Unexpected 8)
unfolding parse_of tree_of fault_of tokens_of tokens_after front_of token_of number_at_front base_of text_at_front sign_at word_of parser_step begun_by follows field_name_of literal_text is_in is_group is_brace
comma_after_operator = refl

comma_in_parentheses : parse_of (codes "(1, 2)") ≡ Err (Unexpected 2)
unfolding parse_of tree_of fault_of tokens_of tokens_after front_of token_of number_at_front base_of text_at_front sign_at word_of parser_step begun_by follows field_name_of literal_text is_in is_group is_brace
comma_in_parentheses = refl

bracket_ends_call : parse_of (codes "len(1]") ≡ Err (Unexpected 5)
unfolding parse_of tree_of fault_of tokens_of tokens_after front_of token_of number_at_front base_of text_at_front sign_at word_of parser_step begun_by follows field_name_of literal_text is_in is_group is_brace
bracket_ends_call = refl

comma_in_inner_parentheses : parse_of (codes "len((1, 2))") ≡ Err (Unexpected 6)
unfolding parse_of tree_of fault_of tokens_of tokens_after front_of token_of number_at_front base_of text_at_front sign_at word_of parser_step begun_by follows field_name_of literal_text is_in is_group is_brace
comma_in_inner_parentheses = refl

item_first : parse_of (codes "# > 1") ≡ Err (ItemOutside 0)
unfolding parse_of tree_of fault_of tokens_of tokens_after front_of token_of number_at_front base_of text_at_front sign_at word_of parser_step begun_by follows field_name_of literal_text is_in is_group is_brace
item_first = refl

item_after_operand : parse_of (codes "result #") ≡ Err (ItemOutside 7)
unfolding parse_of tree_of fault_of tokens_of tokens_after front_of token_of number_at_front base_of text_at_front sign_at word_of parser_step begun_by follows field_name_of literal_text is_in is_group is_brace
item_after_operand = refl

point_first : parse_of (codes ".a") ≡ Err (ItemOutside 0)
unfolding parse_of tree_of fault_of tokens_of tokens_after front_of token_of number_at_front base_of text_at_front sign_at word_of parser_step begun_by follows field_name_of literal_text is_in is_group is_brace
point_first = refl

point_after_operator : parse_of (codes "1 + .a") ≡ Err (ItemOutside 4)
unfolding parse_of tree_of fault_of tokens_of tokens_after front_of token_of number_at_front base_of text_at_front sign_at word_of parser_step begun_by follows field_name_of literal_text is_in is_group is_brace
point_after_operator = refl

item_in_list_of_predicate : parse_of (codes "all(#, true)") ≡ Err (ItemOutside 4)
unfolding parse_of tree_of fault_of tokens_of tokens_after front_of token_of number_at_front base_of text_at_front sign_at word_of parser_step begun_by follows field_name_of literal_text is_in is_group is_brace
item_in_list_of_predicate = refl

item_after_braces : parse_of (codes "all(result, {#} #)") ≡ Err (ItemOutside 16)
unfolding parse_of tree_of fault_of tokens_of tokens_after front_of token_of number_at_front base_of text_at_front sign_at word_of parser_step begun_by follows field_name_of literal_text is_in is_group is_brace
item_after_braces = refl

item_after_predicate : parse_of (codes "all(result, #) and #") ≡ Err (ItemOutside 19)
unfolding parse_of tree_of fault_of tokens_of tokens_after front_of token_of number_at_front base_of text_at_front sign_at word_of parser_step begun_by follows field_name_of literal_text is_in is_group is_brace
item_after_predicate = refl

item_after_point : parse_of (codes "result.#") ≡ Err (ItemOutside 7)
unfolding parse_of tree_of fault_of tokens_of tokens_after front_of token_of number_at_front base_of text_at_front sign_at word_of parser_step begun_by follows field_name_of literal_text is_in is_group is_brace
item_after_point = refl

item_in_index : parse_of (codes "result[#]") ≡ Err (ItemOutside 7)
unfolding parse_of tree_of fault_of tokens_of tokens_after front_of token_of number_at_front base_of text_at_front sign_at word_of parser_step begun_by follows field_name_of literal_text is_in is_group is_brace
item_in_index = refl

item_after_call_name : parse_of (codes "len #") ≡ Err (ItemOutside 4)
unfolding parse_of tree_of fault_of tokens_of tokens_after front_of token_of number_at_front base_of text_at_front sign_at word_of parser_step begun_by follows field_name_of literal_text is_in is_group is_brace
item_after_call_name = refl

point_in_list : parse_of (codes "[1, .a]") ≡ Err (ItemOutside 4)
unfolding parse_of tree_of fault_of tokens_of tokens_after front_of token_of number_at_front base_of text_at_front sign_at word_of parser_step begun_by follows field_name_of literal_text is_in is_group is_brace
point_in_list = refl

two_items : parse_of (codes "all(result, # #)") ≡ Err (Unexpected 14)
unfolding parse_of tree_of fault_of tokens_of tokens_after front_of token_of number_at_front base_of text_at_front sign_at word_of parser_step begun_by follows field_name_of literal_text is_in is_group is_brace
two_items = refl

item_as_field : parse_of (codes "all(result, #.#)") ≡ Err (Unexpected 14)
unfolding parse_of tree_of fault_of tokens_of tokens_after front_of token_of number_at_front base_of text_at_front sign_at word_of parser_step begun_by follows field_name_of literal_text is_in is_group is_brace
item_as_field = refl

two_points : parse_of (codes "result . . a") ≡ Err (Unexpected 9)
unfolding parse_of tree_of fault_of tokens_of tokens_after front_of token_of number_at_front base_of text_at_front sign_at word_of parser_step begun_by follows field_name_of literal_text is_in is_group is_brace
two_points = refl

item_after_not_of_not_in : parse_of (codes "1 not #") ≡ Err (ItemOutside 6)
unfolding parse_of tree_of fault_of tokens_of tokens_after front_of token_of number_at_front base_of text_at_front sign_at word_of parser_step begun_by follows field_name_of literal_text is_in is_group is_brace
item_after_not_of_not_in = refl

seventeenth_item : parse_of (codes "[1,1,1,1,1,1,1,1,1,1,1,1,1,1,1,1,1]") ≡ Err (TooManyItems 32)
unfolding parse_of tree_of fault_of tokens_of tokens_after front_of token_of number_at_front base_of text_at_front sign_at word_of parser_step begun_by follows field_name_of literal_text is_in is_group is_brace
seventeenth_item = refl

empty_list : parse_of (codes "[]") ≡ Err (Unexpected 1)
unfolding parse_of tree_of fault_of tokens_of tokens_after front_of token_of number_at_front base_of text_at_front sign_at word_of parser_step begun_by follows field_name_of literal_text is_in is_group is_brace
empty_list = refl

list_ends_after_comma : parse_of (codes "[1,]") ≡ Err (Unexpected 3)
unfolding parse_of tree_of fault_of tokens_of tokens_after front_of token_of number_at_front base_of text_at_front sign_at word_of parser_step begun_by follows field_name_of literal_text is_in is_group is_brace
list_ends_after_comma = refl

list_without_end : parse_of (codes "[1") ≡ Err (Unexpected 2)
unfolding parse_of tree_of fault_of tokens_of tokens_after front_of token_of number_at_front base_of text_at_front sign_at word_of parser_step begun_by follows field_name_of literal_text is_in is_group is_brace
list_without_end = refl

brace_ends_list : parse_of (codes "[1}") ≡ Err (Unexpected 2)
unfolding parse_of tree_of fault_of tokens_of tokens_after front_of token_of number_at_front base_of text_at_front sign_at word_of parser_step begun_by follows field_name_of literal_text is_in is_group is_brace
brace_ends_list = refl

colon_in_list : parse_of (codes "[1 : 2]") ≡ Err (Unexpected 3)
unfolding parse_of tree_of fault_of tokens_of tokens_after front_of token_of number_at_front base_of text_at_front sign_at word_of parser_step begun_by follows field_name_of literal_text is_in is_group is_brace
colon_in_list = refl

seventeenth_item_after_in : parse_of (codes "1 in [1,1,1,1,1,1,1,1,1,1,1,1,1,1,1,1,") ≡ Err (TooManyItems 37)
unfolding parse_of tree_of fault_of tokens_of tokens_after front_of token_of number_at_front base_of text_at_front sign_at word_of parser_step begun_by follows field_name_of literal_text is_in is_group is_brace
seventeenth_item_after_in = refl

seventeenth_item_in_index : parse_of (codes "result[[1,1,1,1,1,1,1,1,1,1,1,1,1,1,1,1,") ≡ Err (TooManyItems 39)
unfolding parse_of tree_of fault_of tokens_of tokens_after front_of token_of number_at_front base_of text_at_front sign_at word_of parser_step begun_by follows field_name_of literal_text is_in is_group is_brace
seventeenth_item_in_index = refl

sixty_fifth_sign : parse_of (codes "!!!!!!!!!!!!!!!!!!!!!!!!!!!!!!!!!!!!!!!!!!!!!!!!!!!!!!!!!!!!!!!!!result")
    ≡ Err (TooDeep 64)
unfolding parse_of tree_of fault_of tokens_of tokens_after front_of token_of number_at_front base_of text_at_front sign_at word_of parser_step begun_by follows field_name_of literal_text is_in is_group is_brace
sixty_fifth_sign = refl

tree_of_sixty_five_levels : parse_of (codes "!!!!!!!!!!!!!!!!!!!!!!!!!!!!!!!!!!!!!!!!!!!!!!!!!!!!!!!!!!!!!!!!result")
    ≡ Err (TooDeep 0)
unfolding parse_of tree_of fault_of tokens_of tokens_after front_of token_of number_at_front base_of text_at_front sign_at word_of parser_step begun_by follows field_name_of literal_text is_in is_group is_brace
tree_of_sixty_five_levels = refl

sixty_fifth_parenthesis : parse_of (codes "(((((((((((((((((((((((((((((((((((((((((((((((((((((((((((((((((1")
    ≡ Err (TooDeep 64)
unfolding parse_of tree_of fault_of tokens_of tokens_after front_of token_of number_at_front base_of text_at_front sign_at word_of parser_step begun_by follows field_name_of literal_text is_in is_group is_brace
sixty_fifth_parenthesis = refl

sixty_fifth_bracket : parse_of (codes "[[[[[[[[[[[[[[[[[[[[[[[[[[[[[[[[[[[[[[[[[[[[[[[[[[[[[[[[[[[[[[[[[")
    ≡ Err (TooDeep 64)
unfolding parse_of tree_of fault_of tokens_of tokens_after front_of token_of number_at_front base_of text_at_front sign_at word_of parser_step begun_by follows field_name_of literal_text is_in is_group is_brace
sixty_fifth_bracket = refl

parenthesis_after_sixty_four_signs : parse_of
    (codes "----------------------------------------------------------------(1)") ≡ Err (TooDeep 64)
unfolding parse_of tree_of fault_of tokens_of tokens_after front_of token_of number_at_front base_of text_at_front sign_at word_of parser_step begun_by follows field_name_of literal_text is_in is_group is_brace
parenthesis_after_sixty_four_signs = refl

call_after_sixty_four_signs : parse_of
    (codes "----------------------------------------------------------------len(1)") ≡ Err (TooDeep 64)
unfolding parse_of tree_of fault_of tokens_of tokens_after front_of token_of number_at_front base_of text_at_front sign_at word_of parser_step begun_by follows field_name_of literal_text is_in is_group is_brace
call_after_sixty_four_signs = refl

index_after_sixty_four_parentheses : parse_of
    (codes "((((((((((((((((((((((((((((((((((((((((((((((((((((((((((((((((result[") ≡ Err (TooDeep 70)
unfolding parse_of tree_of fault_of tokens_of tokens_after front_of token_of number_at_front base_of text_at_front sign_at word_of parser_step begun_by follows field_name_of literal_text is_in is_group is_brace
index_after_sixty_four_parentheses = refl

choice_after_sixty_four_parentheses : parse_of
    (codes "((((((((((((((((((((((((((((((((((((((((((((((((((((((((((((((((true ?") ≡ Err (TooDeep 69)
unfolding parse_of tree_of fault_of tokens_of tokens_after front_of token_of number_at_front base_of text_at_front sign_at word_of parser_step begun_by follows field_name_of literal_text is_in is_group is_brace
choice_after_sixty_four_parentheses = refl

braces_after_sixty_two_parentheses : parse_of
    (codes "(((((((((((((((((((((((((((((((((((((((((((((((((((((((((((((((all(result, {") ≡ Err (TooDeep 75)
unfolding parse_of tree_of fault_of tokens_of tokens_after front_of token_of number_at_front base_of text_at_front sign_at word_of parser_step begun_by follows field_name_of literal_text is_in is_group is_brace
braces_after_sixty_two_parentheses = refl

sixty_four_parentheses_without_end : parse_of
    (codes "((((((((((((((((((((((((((((((((((((((((((((((((((((((((((((((((1") ≡ Err (Unexpected 65)
unfolding parse_of tree_of fault_of tokens_of tokens_after front_of token_of number_at_front base_of text_at_front sign_at word_of parser_step begun_by follows field_name_of literal_text is_in is_group is_brace
sixty_four_parentheses_without_end = refl

name_after_sixty_four_signs : parse_of (codes "----------------------------------------------------------------foo")
    ≡ Err (UnknownName 64)
unfolding parse_of tree_of fault_of tokens_of tokens_after front_of token_of number_at_front base_of text_at_front sign_at word_of parser_step begun_by follows field_name_of literal_text is_in is_group is_brace
name_after_sixty_four_signs = refl

not_after_operand_and_signs : parse_of
    (codes "!!!!!!!!!!!!!!!!!!!!!!!!!!!!!!!!!!!!!!!!!!!!!!!!!!!!!!!!!!!!!!!!result ! 1") ≡ Err (Unexpected 71)
unfolding parse_of tree_of fault_of tokens_of tokens_after front_of token_of number_at_front base_of text_at_front sign_at word_of parser_step begun_by follows field_name_of literal_text is_in is_group is_brace
not_after_operand_and_signs = refl

operand_missing : parse_of (codes "result >") ≡ Err (Unexpected 8)
unfolding parse_of tree_of fault_of tokens_of tokens_after front_of token_of number_at_front base_of text_at_front sign_at word_of parser_step begun_by follows field_name_of literal_text is_in is_group is_brace
operand_missing = refl

nothing : parse_of (codes "") ≡ Err (Unexpected 0)
unfolding parse_of tree_of fault_of tokens_of tokens_after front_of token_of number_at_front base_of text_at_front sign_at word_of parser_step begun_by follows field_name_of literal_text is_in is_group is_brace
nothing = refl

parenthesis_without_end : parse_of (codes "(1") ≡ Err (Unexpected 2)
unfolding parse_of tree_of fault_of tokens_of tokens_after front_of token_of number_at_front base_of text_at_front sign_at word_of parser_step begun_by follows field_name_of literal_text is_in is_group is_brace
parenthesis_without_end = refl

parenthesis_without_begin : parse_of (codes "1)") ≡ Err (Unexpected 1)
unfolding parse_of tree_of fault_of tokens_of tokens_after front_of token_of number_at_front base_of text_at_front sign_at word_of parser_step begun_by follows field_name_of literal_text is_in is_group is_brace
parenthesis_without_begin = refl

two_operands : parse_of (codes "1 2") ≡ Err (Unexpected 2)
unfolding parse_of tree_of fault_of tokens_of tokens_after front_of token_of number_at_front base_of text_at_front sign_at word_of parser_step begun_by follows field_name_of literal_text is_in is_group is_brace
two_operands = refl

colon_without_choice : parse_of (codes "1 :") ≡ Err (Unexpected 2)
unfolding parse_of tree_of fault_of tokens_of tokens_after front_of token_of number_at_front base_of text_at_front sign_at word_of parser_step begun_by follows field_name_of literal_text is_in is_group is_brace
colon_without_choice = refl

choice_without_colon : parse_of (codes "true ? 1") ≡ Err (Unexpected 8)
unfolding parse_of tree_of fault_of tokens_of tokens_after front_of token_of number_at_front base_of text_at_front sign_at word_of parser_step begun_by follows field_name_of literal_text is_in is_group is_brace
choice_without_colon = refl

choice_without_second_branch : parse_of (codes "true ? 1 :") ≡ Err (Unexpected 10)
unfolding parse_of tree_of fault_of tokens_of tokens_after front_of token_of number_at_front base_of text_at_front sign_at word_of parser_step begun_by follows field_name_of literal_text is_in is_group is_brace
choice_without_second_branch = refl

choice_without_first_branch : parse_of (codes "true ? : 1") ≡ Err (Unexpected 7)
unfolding parse_of tree_of fault_of tokens_of tokens_after front_of token_of number_at_front base_of text_at_front sign_at word_of parser_step begun_by follows field_name_of literal_text is_in is_group is_brace
choice_without_first_branch = refl

not_in_without_list : parse_of (codes "1 not in") ≡ Err (Unexpected 8)
unfolding parse_of tree_of fault_of tokens_of tokens_after front_of token_of number_at_front base_of text_at_front sign_at word_of parser_step begun_by follows field_name_of literal_text is_in is_group is_brace
not_in_without_list = refl

not_after_not : parse_of (codes "1 not not") ≡ Err (Unexpected 6)
unfolding parse_of tree_of fault_of tokens_of tokens_after front_of token_of number_at_front base_of text_at_front sign_at word_of parser_step begun_by follows field_name_of literal_text is_in is_group is_brace
not_after_not = refl

not_without_in : parse_of (codes "1 not 2") ≡ Err (Unexpected 6)
unfolding parse_of tree_of fault_of tokens_of tokens_after front_of token_of number_at_front base_of text_at_front sign_at word_of parser_step begun_by follows field_name_of literal_text is_in is_group is_brace
not_without_in = refl

name_alone : parse_of (codes "a") ≡ Err (UnknownName 0)
unfolding parse_of tree_of fault_of tokens_of tokens_after front_of token_of number_at_front base_of text_at_front sign_at word_of parser_step begun_by follows field_name_of literal_text is_in is_group is_brace
name_alone = refl

number_as_field : parse_of (codes "result.1") ≡ Err (Unexpected 7)
unfolding parse_of tree_of fault_of tokens_of tokens_after front_of token_of number_at_front base_of text_at_front sign_at word_of parser_step begun_by follows field_name_of literal_text is_in is_group is_brace
number_as_field = refl

field_in_brackets_without_end : parse_of (codes "result['a'") ≡ Err (Unexpected 10)
unfolding parse_of tree_of fault_of tokens_of tokens_after front_of token_of number_at_front base_of text_at_front sign_at word_of parser_step begun_by follows field_name_of literal_text is_in is_group is_brace
field_in_brackets_without_end = refl

empty_index : parse_of (codes "result[]") ≡ Err (Unexpected 7)
unfolding parse_of tree_of fault_of tokens_of tokens_after front_of token_of number_at_front base_of text_at_front sign_at word_of parser_step begun_by follows field_name_of literal_text is_in is_group is_brace
empty_index = refl

bracket_twice : parse_of (codes "result['a']]") ≡ Err (Unexpected 11)
unfolding parse_of tree_of fault_of tokens_of tokens_after front_of token_of number_at_front base_of text_at_front sign_at word_of parser_step begun_by follows field_name_of literal_text is_in is_group is_brace
bracket_twice = refl

parenthesis_ends_braces : parse_of (codes "all(result, {1)") ≡ Err (Unexpected 14)
unfolding parse_of tree_of fault_of tokens_of tokens_after front_of token_of number_at_front base_of text_at_front sign_at word_of parser_step begun_by follows field_name_of literal_text is_in is_group is_brace
parenthesis_ends_braces = refl

braces_without_list : parse_of (codes "all({1}, 1)") ≡ Err (Unexpected 4)
unfolding parse_of tree_of fault_of tokens_of tokens_after front_of token_of number_at_front base_of text_at_front sign_at word_of parser_step begun_by follows field_name_of literal_text is_in is_group is_brace
braces_without_list = refl

call_name_alone : parse_of (codes "len") ≡ Err (Unexpected 3)
unfolding parse_of tree_of fault_of tokens_of tokens_after front_of token_of number_at_front base_of text_at_front sign_at word_of parser_step begun_by follows field_name_of literal_text is_in is_group is_brace
call_name_alone = refl

call_name_with_bracket : parse_of (codes "len[") ≡ Err (Unexpected 3)
unfolding parse_of tree_of fault_of tokens_of tokens_after front_of token_of number_at_front base_of text_at_front sign_at word_of parser_step begun_by follows field_name_of literal_text is_in is_group is_brace
call_name_with_bracket = refl

braces_first : parse_of (codes "{1}") ≡ Err (Unexpected 0)
unfolding parse_of tree_of fault_of tokens_of tokens_after front_of token_of number_at_front base_of text_at_front sign_at word_of parser_step begun_by follows field_name_of literal_text is_in is_group is_brace
braces_first = refl

two_operators : parse_of (codes "1 && && 2") ≡ Err (Unexpected 5)
unfolding parse_of tree_of fault_of tokens_of tokens_after front_of token_of number_at_front base_of text_at_front sign_at word_of parser_step begun_by follows field_name_of literal_text is_in is_group is_brace
two_operators = refl

operator_first : parse_of (codes "* 1") ≡ Err (Unexpected 0)
unfolding parse_of tree_of fault_of tokens_of tokens_after front_of token_of number_at_front base_of text_at_front sign_at word_of parser_step begun_by follows field_name_of literal_text is_in is_group is_brace
operator_first = refl

in_first : parse_of (codes "in [1]") ≡ Err (Unexpected 0)
unfolding parse_of tree_of fault_of tokens_of tokens_after front_of token_of number_at_front base_of text_at_front sign_at word_of parser_step begun_by follows field_name_of literal_text is_in is_group is_brace
in_first = refl

not_between_operands : parse_of (codes "1 ! 2") ≡ Err (Unexpected 2)
unfolding parse_of tree_of fault_of tokens_of tokens_after front_of token_of number_at_front base_of text_at_front sign_at word_of parser_step begun_by follows field_name_of literal_text is_in is_group is_brace
not_between_operands = refl

two_texts : parse_of (codes "'a' 'b'") ≡ Err (Unexpected 4)
unfolding parse_of tree_of fault_of tokens_of tokens_after front_of token_of number_at_front base_of text_at_front sign_at word_of parser_step begun_by follows field_name_of literal_text is_in is_group is_brace
two_texts = refl

number_as_second_field : parse_of (codes "result.len.1") ≡ Err (Unexpected 11)
unfolding parse_of tree_of fault_of tokens_of tokens_after front_of token_of number_at_front base_of text_at_front sign_at word_of parser_step begun_by follows field_name_of literal_text is_in is_group is_brace
number_as_second_field = refl

no_not_contains : parse_of (codes "result not contains \"a\"") ≡ Err (Unexpected 11)
unfolding parse_of tree_of fault_of tokens_of tokens_after front_of token_of number_at_front base_of text_at_front sign_at word_of parser_step begun_by follows field_name_of literal_text is_in is_group is_brace
no_not_contains = refl

text_test_first : parse_of (codes "startsWith 'a'") ≡ Err (Unexpected 0)
unfolding parse_of tree_of fault_of tokens_of tokens_after front_of token_of number_at_front base_of text_at_front sign_at word_of parser_step begun_by follows field_name_of literal_text is_in is_group is_brace
text_test_first = refl

text_test_as_operand : parse_of (codes "result contains contains") ≡ Err (Unexpected 16)
unfolding parse_of tree_of fault_of tokens_of tokens_after front_of token_of number_at_front base_of text_at_front sign_at word_of parser_step begun_by follows field_name_of literal_text is_in is_group is_brace
text_test_as_operand = refl

none_of_one : parse_of (codes "none(result)") ≡ Err (WrongCount 11)
unfolding parse_of tree_of fault_of tokens_of tokens_after front_of token_of number_at_front base_of text_at_front sign_at word_of parser_step begun_by follows field_name_of literal_text is_in is_group is_brace
none_of_one = refl
