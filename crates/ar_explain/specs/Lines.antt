-- What is said of an evaluation to a person, in its order: the values and failures of parts, where they are news, and
-- which parts weren't needed. Where a failure arises its line says on which operands.
use Rattle.std.specs.Prelude.{ℕ, suc, pos, ◌+◌, ◌-◌, ◌^◌, ◌==◌, nat_lt, min, ◌≡◌, refl, Bool, true, false, not, ◌&&◌, ◌||◌, if◌then◌else◌, List, [], ◌∷◌, ◌++◌, codes, drop, length, map, replicate, take, Option, Some, None, Result, Ok, Err}
use Rattle.std.specs.Fmt.{digits}
use Rattle.std.specs.Str.{chars}
use Rattle.serde_json.specs.Data as json
use Rattle.serde_json.specs.Data.{Data}
use Rattle.ar_value.specs.Answer.{◌>>=◌}
use Rattle.ar_value.specs.Predicates.{gathers}
use Rattle.ar_value.specs.Operators.{Failure, Meaning, boolean, faulted, is_nil, items_in, scalar_item}
use Rattle.ar_value.specs.Terms.{Text}
use Rattle.ar_value.specs.Value.{Value, Items, bool, whole, list, nil, no_items, item, items_of, object, field, no_fields, text}
use Rattle.ar_value.specs.declared.fault.Fault.TheVariants.{DivisionByZero, IndexOutOfRange, NilOperand}
use Rattle.ar_value.specs.declared.operator.BinaryOperator.TheVariants as binary
use Rattle.ar_value.specs.declared.operator.Arithmetic.TheVariants.{Divide}
use Rattle.ar_value.specs.declared.operator.Compared.TheVariants as compared
use Rattle.ar_value.specs.declared.operator.Family.TheVariants as families
use Rattle.ar_value.specs.declared.operator.Gather.{Gather}
use Rattle.ar_value.specs.declared.operator.Gather.TheVariants.{Nothing, Number, Items as Gathered}
use Rattle.ar_value.specs.declared.operator.Numbers.TheVariants as numbers
use Rattle.ar_value.specs.declared.operator.Order.TheVariants.{Less}
use Rattle.ar_value.specs.declared.operator.Predicate.{Predicate}
use Rattle.ar_value.specs.declared.operator.Predicate.TheVariants as predicates
use Rattle.ar_value.specs.declared.operator.UnaryOperator.{UnaryOperator}
use Rattle.ar_value.specs.declared.operator.UnaryOperator.TheVariants as unary
use Rattle.ar_value.specs.declared.operator.Scalar.TheVariants as scalars
use Rattle.ar_tree.specs.declared.tree.Literal.TheVariants as literals
use Rattle.ar_tree.specs.Meaning.{mean}
use Rattle.ar_tree.specs.Typed.{Typed, Typeds}
use Rattle.ar_tree.specs.Typed as typed
use Rattle.ar_quote.specs.Shown.{quoted}
use Rattle.ar_exact.specs.Exact.{exact_of}
use Rattle.ar_show.specs.Values.{shown_text, shown_value}
use Rattle.ar_apart.specs.Apart.{Apart, apart_of}
use Rattle.ar_explain.specs.Operands.{apart_on}
use Rattle.ar_explain.specs.Operands.{failed_on, one_operand, two_operands}
use Rattle.ar_explain.specs.Trace.{continues, if_value}

-- a value as people see it, and as programs have it
pub record Shown : Type 0 where
  pub text : List ℕ
  pub exact : Data

abbrev pub shown_of : Value → Shown
shown_of value = record { text = shown_value value; exact = exact_of value }

-- what is said of a part
pub data Outcome : Type 0 where
  -- it has a value, which is shown so; where its operands are texts that differ and are shown alike, they are apart so
  valued : Shown → (apart : Option Apart) → Outcome
  -- it fails, on these operands where the failure arises in it
  failed : Failure → (on : Option Text) → Outcome
  -- it wasn't needed
  unneeded : Outcome
  -- it is a predicate's body, evaluated on an item that is shown so
  is_item : Shown → Outcome
  -- it is a predicate's body, evaluated on this many items that aren't shown, of `held` of which it holds
  passed : (items held : ℕ) → Outcome

pub record Line : Type 0 where
  -- the numbers of the items on which the bodies of predicates around the part are evaluated, the outermost first
  pub items : List ℕ
  pub part : Typed
  pub said : Outcome

abbrev pub outcome_of : Meaning → (on : Option Text) → (apart : Option Apart) → Outcome
outcome_of (Ok value) on apart = valued (shown_of value) apart
outcome_of (Err failure) on apart = failed failure on

-- a part's own line
abbrev pub own_line : Typed → Meaning → (on : Option Text) → (apart : Option Apart) → Line
own_line tree meaning on apart = record { items = []; part = tree; said = outcome_of meaning on apart }

abbrev pub unneeded_line : Typed → Line
unneeded_line tree = record { items = []; part = tree; said = unneeded }

-- that a predicate's body is evaluated on an item
abbrev pub item_line : (body : Typed) → Value → Line
item_line body value = record { items = []; part = body; said = is_item (shown_of value) }

-- that items aren't shown
abbrev pub passed_line : Typed → (items held : ℕ) → Line
passed_line body items held = record { items = []; part = body; said = passed items held }

-- ---- parts that say nothing new

abbrev pub is_literal : Typed → Bool
is_literal (typed.literal literal) = true
is_literal tree = false

-- whether a value that an operator gives may differ from its operand's by more than its kind, and by more than the sign
-- of a literal
abbrev pub changes_value : UnaryOperator → (of_literal : Bool) → Bool
changes_value unary.Len of_literal = true
changes_value unary.Need of_literal = false
changes_value unary.IsNil of_literal = true
changes_value unary.ToDecimal of_literal = false
changes_value unary.Not of_literal = true
changes_value (unary.Negate of) of_literal = not of_literal

-- whether the value of a part says more than the condition's text and the lines of the part's own parts
abbrev pub says_more : Typed → Bool
says_more typed.result = false
says_more typed.item = false
says_more (typed.literal literal) = false
says_more (typed.field owner name) = true
says_more (typed.unary operator operand) = changes_value operator (is_literal operand)
says_more (typed.binary operator left right) = true
says_more (typed.both left right) = true
says_more (typed.either left right) = true
says_more (typed.choice condition then_branch else_branch) = true
says_more (typed.listed scalar items) = false
says_more (typed.predicate predicate many body) = true

-- whether a part has a line of its own: a failure always has
abbrev pub has_own_line : Typed → Meaning → Bool
has_own_line tree (Ok value) = says_more tree
has_own_line tree (Err failure) = true

abbrev pub own_lines : Typed → Meaning → (on : Option Text) → (apart : Option Apart) → List Line
own_lines tree meaning on apart = if has_own_line tree meaning then own_line tree meaning on apart ∷ [] else []

-- whether an operator's failure says of its operand that it is nil
abbrev pub is_missing : UnaryOperator → Meaning → Bool
is_missing unary.Need (Ok value) = is_nil value
is_missing unary.Need (Err failure) = false
is_missing operator meaning = false

-- the own lines of an operator's operand: none where the operator's failure says that it is nil
abbrev pub operand_own_lines : UnaryOperator → Typed → Meaning → (on : Option Text) → (apart : Option Apart) → List Line
operand_own_lines operator tree meaning on apart =
    if is_missing operator meaning then [] else own_lines tree meaning on apart

-- the lines of a part: those of its own parts, then its own
abbrev pub with_own : Value → Option Value → Typed → List Line → List Line
with_own result here tree earlier =
    earlier ++ own_lines tree (mean result here tree) (failed_on result here tree) (apart_on result here tree)

-- ---- items of predicates

-- of a predicate the first few items have lines, and the last one
abbrev pub few_items : ℕ
few_items = 3

-- the items that a predicate has looked at
pub record Seen : Type 0 where
  -- how many are shown
  pub shown : ℕ
  -- how many there are after the last shown one, and of how many of those the body holds
  pub items : ℕ
  pub held : ℕ

abbrev pub none_seen : Seen
none_seen = record { shown = 0; items = 0; held = 0 }

-- whether an item may be among the first few: where items are found or counted, those of which the body holds
abbrev pub may_show : Gather → (holds : Bool) → Bool
may_show Nothing holds = true
may_show Number holds = holds
may_show Gathered holds = holds

-- whether an item is among the first few
abbrev pub is_early : Predicate → Seen → (holds : Bool) → Bool
is_early predicate seen holds = nat_lt seen.shown few_items && may_show (gathers predicate) holds

-- whether an item is the last that a predicate looks at: it fails or decides, or comes at the end
abbrev pub is_last : Predicate → (at_end : Bool) → Result Bool Failure → Bool
is_last predicate at_end (Ok holds) = at_end || not (continues predicate holds)
is_last predicate at_end (Err failure) = true

abbrev pub is_shown : Predicate → Seen → (at_end : Bool) → Result Bool Failure → Bool
is_shown predicate seen at_end (Ok holds) = is_early predicate seen holds || is_last predicate at_end (Ok holds)
is_shown predicate seen at_end (Err failure) = true

-- after an item that isn't the last
abbrev pub after_item : Predicate → Seen → (holds : Bool) → Seen
after_item predicate seen holds =
    if is_early predicate seen holds then record { shown = seen.shown + 1; items = 0; held = 0 }
    else record {
      shown = seen.shown;
      items = seen.items + 1;
      held = if holds then seen.held + 1 else seen.held;
    }

abbrev pub is_empty : Items → Bool
is_empty no_items = true
is_empty (item first items) = false

-- the lines of a predicate's body on an item
abbrev pub lines_on_item : ℕ → List Line → List Line
lines_on_item number lines = map (λ (line : Line). record line { items = number ∷ line.items }) lines

-- how many items come before one that is shown, after the last shown one
abbrev pub gap_lines : (body : Typed) → Seen → List Line
gap_lines body seen = if seen.items == 0 then [] else passed_line body seen.items seen.held ∷ []

-- the lines of an item that is looked at, where it is shown
abbrev pub item_lines : Predicate → (body : Typed) → Seen → ℕ → (at_end : Bool) → Result Bool Failure → List Line
    → List Line
item_lines predicate body seen number at_end holds lines =
    if is_shown predicate seen at_end holds then gap_lines body seen ++ lines_on_item number lines else []

-- the lines of the items that are looked at, the first of which has a number
abbrev pub each_item_lines : Predicate → (body : Typed) → (Value → Result Bool Failure) → (Value → List Line) → Seen
    → ℕ → Items → List Line
each_item_lines predicate body holds lines seen number no_items = []
each_item_lines predicate body holds lines seen number (item first items) =
    item_lines predicate body seen number (is_empty items) (holds first) (lines first) ++ if_value (holds first)
    (λ it. if continues predicate it
    then each_item_lines predicate body holds lines (after_item predicate seen it) (suc number) items else [])

-- ---- trees

abbrev mutual
  -- the lines before a tree's own
  pub earlier_lines : Value → Option Value → Typed → List Line
  earlier_lines result here typed.result = []
  earlier_lines result here typed.item = []
  earlier_lines result here (typed.literal literal) = []
  earlier_lines result here (typed.field owner name) = with_own result here owner (earlier_lines result here owner)
  earlier_lines result here (typed.unary operator operand) =
      earlier_lines result here operand
      ++ operand_own_lines operator operand (mean result here operand) (failed_on result here operand)
      (apart_on result here operand)
  earlier_lines result here (typed.binary operator left right) =
      with_own result here left (earlier_lines result here left)
      ++ if_value (mean result here left) (λ value. with_own result here right (earlier_lines result here right))
  -- the right side, or that it wasn't needed
  earlier_lines result here (typed.both left right) =
      with_own result here left (earlier_lines result here left)
      ++ if_value (mean result here left >>= boolean)
      (λ holds. if holds then with_own result here right (earlier_lines result here right)
      else unneeded_line right ∷ [])
  earlier_lines result here (typed.either left right) =
      with_own result here left (earlier_lines result here left)
      ++ if_value (mean result here left >>= boolean)
      (λ holds. if holds then unneeded_line right ∷ []
      else with_own result here right (earlier_lines result here right))
  -- one branch, and that the other wasn't needed
  earlier_lines result here (typed.choice condition then_branch else_branch) =
      with_own result here condition (earlier_lines result here condition)
      ++ if_value (mean result here condition >>= boolean)
      (λ holds. if holds then with_own result here then_branch (earlier_lines result here then_branch)
      ++ unneeded_line else_branch ∷ []
      else unneeded_line then_branch ∷ [] ++ with_own result here else_branch (earlier_lines result here else_branch))
  earlier_lines result here (typed.listed scalar items) = items_lines result here items
  earlier_lines result here (typed.predicate predicate many body) =
      with_own result here many (earlier_lines result here many)
      ++ if_value (mean result here many >>= items_in)
      (each_item_lines predicate body (λ value. mean result (Some value) body >>= boolean)
      (λ value. item_line body value ∷ with_own result (Some value) body (earlier_lines result (Some value) body))
      none_seen 0)

  -- the items of a list literal
  pub items_lines : Value → Option Value → Typeds → List Line
  items_lines result here typed.none = []
  items_lines result here (typed.more first others) =
      with_own result here first (earlier_lines result here first)
      ++ if_value (mean result here first >>= scalar_item) (λ value. items_lines result here others)

-- the lines of a predicate's body on an item: the item's, then those of the body
abbrev pub body_lines : Value → (body : Typed) → Value → List Line
body_lines result body value =
    item_line body value ∷ with_own result (Some value) body (earlier_lines result (Some value) body)

-- the root's own line is the last, and always there
abbrev pub all_lines : Value → Option Value → Typed → List Line
all_lines result here tree =
    earlier_lines result here tree
    ++ own_line tree (mean result here tree) (failed_on result here tree) (apart_on result here tree) ∷ []

-- ---- what is kept of the lines

-- how many of the first lines are kept, and how many of the last ones
unfoldable pub most_at_each_end : ℕ
most_at_each_end = 500

-- the greatest number that 64 bits have
unfoldable pub most_left_out : ℕ
most_left_out = 2 ^ 64 - 1

-- of lines of parts the first and the last are kept
pub record Explanation : Type 0 where
  pub lines : List Line
  -- how many lines come between; where there are more than the greatest number, that one
  pub left_out : ℕ
  pub last : List Line

-- `rest`: the lines after the first
abbrev pub kept_of : (most : ℕ) → (first rest : List Line) → Explanation
kept_of most first rest = record {
  lines = first;
  left_out = min most_left_out (length rest - most);
  last = drop (length rest - most) rest;
}

-- at most `most` lines at each end
abbrev pub ends_of : (most : ℕ) → List Line → Explanation
ends_of most lines = kept_of most (take most lines) (drop most lines)

abbrev pub explained : List Line → Explanation
explained lines = ends_of most_at_each_end lines

-- ---- worked rows

abbrev the_literal : ℕ → Typed
the_literal value = typed.literal (literals.Whole (pos value))

abbrev row_of : Line → List ℕ × Typed × Outcome
row_of line = (line.items, line.part, line.said)

abbrev is_below : Typed → ℕ → Typed
is_below tree value = typed.binary (binary.Compare compared.Wholes Less) tree (the_literal value)

abbrev the_true : Typed
the_true = typed.literal (literals.Bool true)

-- `1 / result`
abbrev one_over_result : Typed
one_over_result = typed.binary (binary.Wholes Divide) (the_literal 1) typed.result

abbrev the_value : Value → Outcome
the_value value = valued (shown_of value) None

abbrev fails_on_zero : Outcome
fails_on_zero = failed (faulted DivisionByZero) (Some (codes "operands 1 and 0"))

-- `result` on 7: the root's line is there
root_has_a_line : map row_of (all_lines (whole (pos 7)) None typed.result)
    ≡ ([], typed.result, the_value (whole (pos 7))) ∷ []
root_has_a_line = refl

-- `result < 8` on 7: lines of `result` and `8` would say nothing new
of_a_comparison : map row_of (all_lines (whole (pos 7)) None (is_below typed.result 8))
    ≡ ([], is_below typed.result 8, the_value (bool true)) ∷ []
of_a_comparison = refl

-- `true or result < 8`: the right side isn't needed
left_side_decides : map row_of (all_lines (whole (pos 7)) None (typed.either the_true (is_below typed.result 8)))
    ≡ ([], is_below typed.result 8, unneeded)
    ∷ ([], typed.either the_true (is_below typed.result 8), the_value (bool true)) ∷ []
left_side_decides = refl

-- `result < 8 and true` on 9: that a literal isn't needed is said, too
literal_isnt_needed : map row_of (all_lines (whole (pos 9)) None (typed.both (is_below typed.result 8) the_true))
    ≡ ([], is_below typed.result 8, the_value (bool false)) ∷ ([], the_true, unneeded)
    ∷ ([], typed.both (is_below typed.result 8) the_true, the_value (bool false)) ∷ []
literal_isnt_needed = refl

-- `true and result < 8` on 7: it is needed
both_sides : map row_of (all_lines (whole (pos 7)) None (typed.both the_true (is_below typed.result 8)))
    ≡ ([], is_below typed.result 8, the_value (bool true))
    ∷ ([], typed.both the_true (is_below typed.result 8), the_value (bool true)) ∷ []
both_sides = refl

-- `result < 8 ? 1 : 2` on 7 and on 9: the branches are in their order
abbrev one_or_two : Typed
one_or_two = typed.choice (is_below typed.result 8) (the_literal 1) (the_literal 2)

then_branch_taken : map row_of (all_lines (whole (pos 7)) None one_or_two)
    ≡ ([], is_below typed.result 8, the_value (bool true)) ∷ ([], the_literal 2, unneeded)
    ∷ ([], one_or_two, the_value (whole (pos 1))) ∷ []
then_branch_taken = refl

else_branch_taken : map row_of (all_lines (whole (pos 9)) None one_or_two)
    ≡ ([], is_below typed.result 8, the_value (bool false)) ∷ ([], the_literal 1, unneeded)
    ∷ ([], one_or_two, the_value (whole (pos 2))) ∷ []
else_branch_taken = refl

-- `true ? 1 / result : 2` on 0: the other branch wasn't needed, also where the one taken fails
failing_branch_taken : map row_of
    (all_lines (whole (pos 0)) None (typed.choice the_true one_over_result (the_literal 2)))
    ≡ ([], one_over_result, fails_on_zero)
    ∷ ([], the_literal 2, unneeded)
    ∷ ([], typed.choice the_true one_over_result (the_literal 2), failed (faulted DivisionByZero) None) ∷ []
unfolding two_operands shown_value digits
failing_branch_taken = refl

-- `-1 < result` on 7: a literal with a sign says its value by itself
abbrev is_above_minus_one : Typed
is_above_minus_one = typed.binary (binary.Compare compared.Wholes Less)
    (typed.unary (unary.Negate numbers.Wholes) (the_literal 1)) typed.result

sign_of_a_literal : map row_of (all_lines (whole (pos 7)) None is_above_minus_one)
    ≡ ([], is_above_minus_one, the_value (bool true)) ∷ []
sign_of_a_literal = refl

-- `result < 8` where `result` may be nil: that a value is needed is said where there is none
abbrev needed : Typed
needed = typed.unary unary.Need typed.result

value_is_there : map row_of (all_lines (whole (pos 7)) None (is_below needed 8))
    ≡ ([], is_below needed 8, the_value (bool true)) ∷ []
value_is_there = refl

value_is_nil : map row_of (all_lines nil None (is_below needed 8))
    ≡ ([], needed, failed (faulted NilOperand) (Some (codes "operand nil")))
    ∷ ([], is_below needed 8, failed (faulted NilOperand) None) ∷ []
unfolding one_operand shown_value
value_is_nil = refl

-- `result.rate < 8` where the rate is nil: one line says so
abbrev the_rate : Typed
the_rate = typed.field typed.result (codes "rate")

abbrev needed_rate : Typed
needed_rate = typed.unary unary.Need the_rate

abbrev with_rate : Value → Value
with_rate value = object (field (codes "rate") value no_fields)

field_is_nil : map row_of (all_lines (with_rate nil) None (is_below needed_rate 8))
    ≡ ([], needed_rate, failed (faulted NilOperand) (Some (codes "operand nil")))
    ∷ ([], is_below needed_rate 8, failed (faulted NilOperand) None) ∷ []
unfolding one_operand shown_value
field_is_nil = refl

-- on any other value the field has its line
field_is_there : map row_of (all_lines (with_rate (whole (pos 7))) None (is_below needed_rate 8))
    ≡ ([], the_rate, the_value (whole (pos 7))) ∷ ([], is_below needed_rate 8, the_value (bool true)) ∷ []
field_is_there = refl

-- `result == "aa..ab"` on other text: they are shown alike
abbrev long_text : Text → Text
long_text rest = replicate 66 97 ++ rest

abbrev is_long_text : Typed
is_long_text =
    typed.binary (binary.Equal families.Text) typed.result (typed.literal (literals.Text (long_text (codes "b"))))

texts_shown_alike : map row_of (all_lines (text (long_text (codes "c"))) None is_long_text)
    ≡ (
      [],
      is_long_text,
      valued (record { text = codes "false"; exact = json.boolean false })
          (Some (apart_of (long_text (codes "c")) (long_text (codes "b")))),
    ) ∷ []
unfolding shown_value shown_text quoted digits chars lib.Utf8.encode
texts_shown_alike = refl

-- `result[0] < 8` on an empty list
abbrev the_first : Typed
the_first = typed.binary binary.Index typed.result (the_literal 0)

no_first_item : map row_of (all_lines (list no_items) None (is_below the_first 8))
    ≡ ([], the_first, failed (faulted IndexOutOfRange) (Some (codes "index 0 of 0 items")))
    ∷ ([], is_below the_first 8, failed (faulted IndexOutOfRange) None) ∷ []
unfolding two_operands digits
no_first_item = refl

-- `[1, 1 / result, 1 / result]` on 0: the third item isn't evaluated
abbrev three_items : Typed
three_items =
    typed.listed scalars.Whole (typed.more (the_literal 1) (typed.more one_over_result
    (typed.more one_over_result typed.none)))

second_item_fails : map row_of (all_lines (whole (pos 0)) None three_items)
    ≡ ([], one_over_result, fails_on_zero) ∷ ([], three_items, failed (faulted DivisionByZero) None) ∷ []
unfolding two_operands shown_value digits
second_item_fails = refl

abbrev the_items : Value
the_items =
    list (items_of (whole (pos 9) ∷ whole (pos 8) ∷ whole (pos 9) ∷ whole (pos 8) ∷ whole (pos 1) ∷ whole (pos 2) ∷ []))

abbrev the_item : Value → Outcome
the_item value = is_item (shown_of value)

abbrev of_item : ℕ → ℕ → Bool → List (List ℕ × Typed × Outcome)
of_item number value holds =
    (number ∷ [], is_below typed.item 8, the_item (whole (pos value)))
    ∷ (number ∷ [], is_below typed.item 8, the_value (bool holds)) ∷ []

abbrev of_gap : Typed → (items held : ℕ) → List (List ℕ × Typed × Outcome)
of_gap body items held = ([], body, passed items held) ∷ []

-- `any(result, # < 8)` on 9, 8, 9, 8, 1 and 2: the first three items, and the fifth, which decides
fifth_item_decides : map row_of (all_lines the_items None (typed.predicate predicates.Any typed.result
    (is_below typed.item 8)))
    ≡ of_item 0 9 false ++ of_item 1 8 false ++ of_item 2 9 false
    ++ of_gap (is_below typed.item 8) 1 0 ++ of_item 4 1 true
    ++ ([], typed.predicate predicates.Any typed.result (is_below typed.item 8), the_value (bool true)) ∷ []
fifth_item_decides = refl

-- `count(result, # < 8)`: the items of which it holds, after those before them
counted_items : map row_of
    (all_lines the_items None (typed.predicate predicates.Count typed.result (is_below typed.item 8)))
    ≡ of_gap (is_below typed.item 8) 4 0 ++ of_item 4 1 true ++ of_item 5 2 true
    ++ ([], typed.predicate predicates.Count typed.result (is_below typed.item 8), the_value (whole (pos 2))) ∷ []
counted_items = refl

-- `count(result, # < 8)` on 1, 2, 3, 4, 9, 5 and 9: of the three items between it holds of two
abbrev seven_items : Value
seven_items =
    list (items_of (whole (pos 1) ∷ whole (pos 2) ∷ whole (pos 3) ∷ whole (pos 4) ∷ whole (pos 9) ∷ whole (pos 5)
    ∷ whole (pos 9) ∷ []))

last_item : map row_of
    (all_lines seven_items None (typed.predicate predicates.Count typed.result (is_below typed.item 8)))
    ≡ of_item 0 1 true ++ of_item 1 2 true ++ of_item 2 3 true
    ++ of_gap (is_below typed.item 8) 3 2 ++ of_item 6 9 false
    ++ ([], typed.predicate predicates.Count typed.result (is_below typed.item 8), the_value (whole (pos 5))) ∷ []
last_item = refl

-- `count(result, 1 / # == 0)` on 1, 2, 3, 0 and 5: the fourth item fails
abbrev is_quotient : Typed
is_quotient =
    typed.binary (binary.Equal families.Number) (typed.binary (binary.Wholes Divide) (the_literal 1) typed.item)
    (the_literal 0)

abbrev fails_on_item : List (List ℕ × Typed × Outcome)
fails_on_item =
    ([], is_quotient, passed 3 0)
    ∷ (3 ∷ [], is_quotient, the_item (whole (pos 0)))
    ∷ (3 ∷ [], typed.binary (binary.Wholes Divide) (the_literal 1) typed.item, fails_on_zero)
    ∷ (3 ∷ [], is_quotient, failed (faulted DivisionByZero) None)
    ∷ ([], typed.predicate predicates.Count typed.result is_quotient, failed (faulted DivisionByZero) None) ∷ []

fourth_item_fails : map row_of (all_lines (list (items_of (whole (pos 1) ∷ whole (pos 2) ∷ whole (pos 3)
    ∷ whole (pos 0) ∷ whole (pos 5) ∷ []))) None (typed.predicate predicates.Count typed.result is_quotient))
    ≡ fails_on_item
unfolding two_operands shown_value digits
fourth_item_fails = refl

-- `any(result, # < 8 and # < 8)` on 1: the item has one line
abbrev twice_below : Typed
twice_below = typed.both (is_below typed.item 8) (is_below typed.item 8)

abbrev the_one : Value
the_one = list (items_of (whole (pos 1) ∷ []))

item_has_one_line : map row_of (all_lines the_one None (typed.predicate predicates.Any typed.result twice_below))
    ≡ (0 ∷ [], twice_below, the_item (whole (pos 1)))
    ∷ (0 ∷ [], is_below typed.item 8, the_value (bool true)) ∷ (0 ∷ [], is_below typed.item 8, the_value (bool true))
    ∷ (0 ∷ [], twice_below, the_value (bool true))
    ∷ ([], typed.predicate predicates.Any typed.result twice_below, the_value (bool true)) ∷ []
item_has_one_line = refl

-- `any(result, true)` on 1: also where the body has no `#`
body_without_an_item : map row_of (all_lines the_one None (typed.predicate predicates.Any typed.result the_true))
    ≡ (0 ∷ [], the_true, the_item (whole (pos 1)))
    ∷ ([], typed.predicate predicates.Any typed.result the_true, the_value (bool true)) ∷ []
body_without_an_item = refl

-- `any(result, any(#, # < 8))` on [9] and [9, 1]: the number of the outer item comes first
abbrev any_below : Typed → Typed
any_below many = typed.predicate predicates.Any many (is_below typed.item 8)

abbrev two_lists : Value
two_lists =
    list (items_of (list (items_of (whole (pos 9) ∷ [])) ∷ list (items_of (whole (pos 9) ∷ whole (pos 1) ∷ [])) ∷ []))

abbrev said_on : Line → List ℕ × Outcome
said_on line = (line.items, line.said)

second_of_the_second_decides : map said_on
    (all_lines two_lists None (typed.predicate predicates.Any typed.result (any_below typed.item)))
    ≡ (0 ∷ [], the_item (list (items_of (whole (pos 9) ∷ []))))
    ∷ (0 ∷ 0 ∷ [], the_item (whole (pos 9))) ∷ (0 ∷ 0 ∷ [], the_value (bool false))
    ∷ (0 ∷ [], the_value (bool false))
    ∷ (1 ∷ [], the_item (list (items_of (whole (pos 9) ∷ whole (pos 1) ∷ []))))
    ∷ (1 ∷ 0 ∷ [], the_item (whole (pos 9))) ∷ (1 ∷ 0 ∷ [], the_value (bool false))
    ∷ (1 ∷ 1 ∷ [], the_item (whole (pos 1))) ∷ (1 ∷ 1 ∷ [], the_value (bool true))
    ∷ (1 ∷ [], the_value (bool true))
    ∷ ([], the_value (bool true)) ∷ []
second_of_the_second_decides = refl

-- few lines are all kept
few_kept : explained (all_lines (whole (pos 7)) None (typed.both the_true (is_below typed.result 8)))
    ≡ record {
      lines = all_lines (whole (pos 7)) None (typed.both the_true (is_below typed.result 8));
      left_out = 0;
      last = [];
    }
unfolding most_at_each_end most_left_out
few_kept = refl

-- of five lines two at each end
abbrev numbered : ℕ → Line
numbered number = record { items = number ∷ []; part = typed.item; said = unneeded }

two_at_each_end : ends_of 2 (map numbered (1 ∷ 2 ∷ 3 ∷ 4 ∷ 5 ∷ []))
    ≡ record { lines = numbered 1 ∷ numbered 2 ∷ []; left_out = 1; last = numbered 4 ∷ numbered 5 ∷ [] }
unfolding most_left_out
two_at_each_end = refl

-- of three lines none is left out
one_after_the_first : ends_of 2 (map numbered (1 ∷ 2 ∷ 3 ∷ []))
    ≡ record { lines = numbered 1 ∷ numbered 2 ∷ []; left_out = 0; last = numbered 3 ∷ [] }
unfolding most_left_out
one_after_the_first = refl
