-- Of a part that has a value, lines say which children aren't needed.
use Rattle.std.proofs.Common.{arith, ◌≡◌, ◌+◌, ℕ, zero, suc, Bool, true, false, List, Option, Some, refl, ap, sym, ◌∙◌, subst, true≢false, inl, inr}
use Rattle.std.specs.Prelude.{◌||◌, ◌++◌, if◌then◌else◌, ◌∷◌, [], Result, Ok}
use Rattle.ar_value.specs.Answer.{◌>>=◌}
use Rattle.ar_value.specs.Operators.{Failure, Meaning, boolean, binary_meaning, scalar_item}
use Rattle.ar_value.specs.Value.{Value, Items, item, list}
use Rattle.ar_tree.specs.Meaning.{items_mean, mean}
use Rattle.ar_tree.specs.Typed.{Typed, Typeds}
use Rattle.ar_tree.specs.Typed as typed
use Rattle.ar_explain.specs.Lines.{Line, earlier_lines, unneeded_line, with_own}
use Rattle.ar_explain.specs.Parts.{child, is_evaluated, nth_tree}
use Rattle.ar_explain.specs.Sources.{SayUnneeded, is_body}
use Rattle.ar_explain.specs.Trace.{TraceEntry, if_value, in_child, items_trace, trace, with_root}
use Rattle.ar_explain.proofs.Entries.{of_child, of_root, of_two, value_of_two}
use Rattle.ar_explain.proofs.Roots.{root_evaluated}
use Rattle.ar_explain.proofs.Unneeded.{is_same}

or_true : (b : Bool) → (b || true) ≡ true
or_true true = refl
or_true false = refl

one_of : (part other : Typed) → Some other ≡ Some part → unneeded_line other ≡ unneeded_line part
one_of part other is = cc

-- a line after others, and before others
said_after : (part : Typed) (lines more : List Line) → SayUnneeded part more → SayUnneeded part (lines ++ more)
said_after part [] more says = says
said_after part (line ∷ lines) more says = inr (said_after part lines more says)

module _ (result : Value) (here : Option Value) where
  -- a child that is evaluated
  has_child : (n : ℕ) (tree : Typed) → is_evaluated (n ∷ []) (in_child n (trace result here tree)) ≡ true
  has_child n tree = of_child n [] (trace result here tree) (is_same n) ∙ root_evaluated result here tree

  has_first : (tree first : Typed) (later : List TraceEntry) → is_evaluated (0 ∷ []) (with_root result here tree (in_child 0 (trace result here first) ++ later)) ≡ true
  has_first tree first later =
      of_root result here tree 0 [] (in_child 0 (trace result here first) ++ later) ∙ of_two (0 ∷ []) (in_child 0 (trace result here first)) later
      ∙ ap (λ b. b || is_evaluated (0 ∷ []) later) (has_child 0 first)

  has_later : {A : Type 0} (n : ℕ) (tree : Typed) (entries : List TraceEntry) (m : Result A Failure) (later : A → List TraceEntry) (value : A) → m ≡ Ok value
      → is_evaluated (n ∷ []) (later value) ≡ true → is_evaluated (n ∷ []) (with_root result here tree (entries ++ if_value m later)) ≡ true
  has_later n tree entries m later value is has =
      of_root result here tree n [] (entries ++ if_value m later) ∙ of_two (n ∷ []) entries (if_value m later)
      ∙ ap (λ m. is_evaluated (n ∷ []) entries || is_evaluated (n ∷ []) (if_value m later)) is
      ∙ ap (λ b. is_evaluated (n ∷ []) entries || b) has ∙ or_true (is_evaluated (n ∷ []) entries)

  -- a boolean that decides is there
  decided : {A : Type 0} (m : Meaning) (next : Bool → Result A Failure) (value : A) → (m >>= λ first. boolean first >>= next) ≡ Ok value → (holds : Bool) × ((m >>= boolean) ≡ Ok holds)
  decided m next value is =
      let first = value_of_two m (λ first. boolean first >>= next) value is in
      let second = value_of_two (boolean first.0) next value first.2 in
      (second.0, ap (λ m. m >>= boolean) first.1 ∙ second.1)

  -- the lines after a value
  after : {A : Type 0} (part : Typed) (first : List Line) (m : Result A Failure) (later : A → List Line) (value : A) → m ≡ Ok value → SayUnneeded part (later value)
      → SayUnneeded part (first ++ if_value m later)
  after part first m later value is says = said_after part first (if_value m later) (subst (λ m. SayUnneeded part (if_value m later)) (sym is) says)

  evaluated_anyway : (part : Typed) (lines : List Line) (has : Bool) → has ≡ true → has ≡ false → SayUnneeded part lines
  evaluated_anyway part lines has is lacks = absurd (true≢false (sym is ∙ lacks))

  items_evaluated : (number k : ℕ) (items : Typeds) (part : Typed) (values : Items) → items_mean result here items ≡ Ok values → nth_tree items k ≡ Some part
      → is_evaluated ((number + k) ∷ []) (items_trace result here number items) ≡ true
  items_evaluated number k typed.none part values is at = absurd cc
  items_evaluated number zero (typed.more first others) part values is at =
      subst (λ n. is_evaluated (n ∷ []) (items_trace result here number (typed.more first others)) ≡ true) (omega arith)
      (of_two (number ∷ []) (in_child number (trace result here first)) _
      ∙ ap (λ b. b || is_evaluated (number ∷ []) (if_value (mean result here first >>= scalar_item) (λ value. items_trace result here (suc number) others))) (has_child number first))
  items_evaluated number (suc k) (typed.more first others) part values is at =
      let one = value_of_two (mean result here first) (λ value. scalar_item value >>= λ scalar. items_mean result here others >>= λ items. Ok (item scalar items)) values is in
      let scalar = value_of_two (scalar_item one.0) (λ scalar. items_mean result here others >>= λ items. Ok (item scalar items)) values one.2 in
      let rest = value_of_two (items_mean result here others) (λ items. Ok (item scalar.0 items)) values scalar.2 in
      let m_is : (mean result here first >>= scalar_item) ≡ Ok scalar.0 = ap (λ m. m >>= scalar_item) one.1 ∙ scalar.1 in
      subst (λ n. is_evaluated (n ∷ []) (items_trace result here number (typed.more first others)) ≡ true) (omega arith)
      (of_two ((suc number + k) ∷ []) (in_child number (trace result here first)) _
      ∙ ap (λ m. is_evaluated ((suc number + k) ∷ []) (in_child number (trace result here first)) || is_evaluated ((suc number + k) ∷ []) (if_value m (λ value. items_trace result here (suc number) others))) m_is
      ∙ ap (λ b. is_evaluated ((suc number + k) ∷ []) (in_child number (trace result here first)) || b) (items_evaluated (suc number) k others part rest.0 rest.1 at)
      ∙ or_true (is_evaluated ((suc number + k) ∷ []) (in_child number (trace result here first))))

  both_child : (left right part : Typed) (holds : Bool) → (mean result here left >>= boolean) ≡ Ok holds → Some right ≡ Some part
      → is_evaluated (1 ∷ []) (trace result here (typed.both left right)) ≡ false → SayUnneeded part (earlier_lines result here (typed.both left right))
  both_child left right part true is at lacks =
      evaluated_anyway part _ _ (has_later 1 (typed.both left right) (in_child 0 (trace result here left)) (mean result here left >>= boolean)
      (λ holds. if holds then in_child 1 (trace result here right) else []) true is (has_child 1 right)) lacks
  both_child left right part false is at lacks =
      after part (with_own result here left (earlier_lines result here left)) (mean result here left >>= boolean)
      (λ holds. if holds then with_own result here right (earlier_lines result here right) else unneeded_line right ∷ []) false is (inl (one_of part right at))

  either_child : (left right part : Typed) (holds : Bool) → (mean result here left >>= boolean) ≡ Ok holds → Some right ≡ Some part
      → is_evaluated (1 ∷ []) (trace result here (typed.either left right)) ≡ false → SayUnneeded part (earlier_lines result here (typed.either left right))
  either_child left right part false is at lacks =
      evaluated_anyway part _ _ (has_later 1 (typed.either left right) (in_child 0 (trace result here left)) (mean result here left >>= boolean)
      (λ holds. if holds then [] else in_child 1 (trace result here right)) false is (has_child 1 right)) lacks
  either_child left right part true is at lacks =
      after part (with_own result here left (earlier_lines result here left)) (mean result here left >>= boolean)
      (λ holds. if holds then unneeded_line right ∷ [] else with_own result here right (earlier_lines result here right)) true is (inl (one_of part right at))

  module _ (condition then_branch else_branch part : Typed) where
    abbrev choice : Typed
    choice = typed.choice condition then_branch else_branch

    abbrev branch_entries : Bool → List TraceEntry
    branch_entries holds = if holds then in_child 1 (trace result here then_branch) else in_child 2 (trace result here else_branch)

    abbrev branch_lines : Bool → List Line
    branch_lines holds =
        if holds then with_own result here then_branch (earlier_lines result here then_branch) ++ unneeded_line else_branch ∷ []
        else unneeded_line then_branch ∷ [] ++ with_own result here else_branch (earlier_lines result here else_branch)

    then_child : (holds : Bool) → (mean result here condition >>= boolean) ≡ Ok holds → Some then_branch ≡ Some part → is_evaluated (1 ∷ []) (trace result here choice) ≡ false
        → SayUnneeded part (earlier_lines result here choice)
    then_child true is at lacks =
        evaluated_anyway part _ _ (has_later 1 choice (in_child 0 (trace result here condition)) (mean result here condition >>= boolean) branch_entries true is (has_child 1 then_branch)) lacks
    then_child false is at lacks =
        after part (with_own result here condition (earlier_lines result here condition)) (mean result here condition >>= boolean) branch_lines false is (inl (one_of part then_branch at))

    else_child : (holds : Bool) → (mean result here condition >>= boolean) ≡ Ok holds → Some else_branch ≡ Some part → is_evaluated (2 ∷ []) (trace result here choice) ≡ false
        → SayUnneeded part (earlier_lines result here choice)
    else_child false is at lacks =
        evaluated_anyway part _ _ (has_later 2 choice (in_child 0 (trace result here condition)) (mean result here condition >>= boolean) branch_entries false is (has_child 2 else_branch)) lacks
    else_child true is at lacks =
        after part (with_own result here condition (earlier_lines result here condition)) (mean result here condition >>= boolean) branch_lines true is
        (said_after part (with_own result here then_branch (earlier_lines result here then_branch)) (unneeded_line else_branch ∷ []) (inl (one_of part else_branch at)))

  only_child : (tree operand part : Typed) → is_evaluated (0 ∷ []) (with_root result here tree (in_child 0 (trace result here operand))) ≡ false → (lines : List Line) → SayUnneeded part lines
  only_child tree operand part lacks lines =
      evaluated_anyway part lines _ (of_root result here tree 0 [] (in_child 0 (trace result here operand)) ∙ has_child 0 operand) lacks

  children : (tree part : Typed) (value : Value) (number : ℕ) → mean result here tree ≡ Ok value → child tree number ≡ Some part → is_body tree number ≡ false
      → is_evaluated (number ∷ []) (trace result here tree) ≡ false → SayUnneeded part (earlier_lines result here tree)
  children typed.result part value number is at inside lacks = absurd cc
  children typed.item part value number is at inside lacks = absurd cc
  children (typed.literal literal) part value number is at inside lacks = absurd cc
  children (typed.field owner name) part value zero is at inside lacks = only_child (typed.field owner name) owner part lacks _
  children (typed.field owner name) part value (suc number) is at inside lacks = absurd cc
  children (typed.unary operator operand) part value zero is at inside lacks = only_child (typed.unary operator operand) operand part lacks _
  children (typed.unary operator operand) part value (suc number) is at inside lacks = absurd cc
  children (typed.binary operator left right) part value zero is at inside lacks = evaluated_anyway part _ _ (has_first (typed.binary operator left right) left _) lacks
  children (typed.binary operator left right) part value (suc zero) is at inside lacks =
      let first = value_of_two (mean result here left) (λ left. mean result here right >>= λ right. binary_meaning operator left right) value is in
      evaluated_anyway part _ _ (has_later 1 (typed.binary operator left right) (in_child 0 (trace result here left)) (mean result here left) (λ value. in_child 1 (trace result here right)) first.0 first.1
      (has_child 1 right)) lacks
  children (typed.binary operator left right) part value (suc (suc number)) is at inside lacks = absurd cc
  children (typed.both left right) part value zero is at inside lacks = evaluated_anyway part _ _ (has_first (typed.both left right) left _) lacks
  children (typed.both left right) part value (suc zero) is at inside lacks =
      let by = decided (mean result here left) _ value is in both_child left right part by.0 by.1 at lacks
  children (typed.both left right) part value (suc (suc number)) is at inside lacks = absurd cc
  children (typed.either left right) part value zero is at inside lacks = evaluated_anyway part _ _ (has_first (typed.either left right) left _) lacks
  children (typed.either left right) part value (suc zero) is at inside lacks =
      let by = decided (mean result here left) _ value is in either_child left right part by.0 by.1 at lacks
  children (typed.either left right) part value (suc (suc number)) is at inside lacks = absurd cc
  children (typed.choice condition then_branch else_branch) part value zero is at inside lacks =
      evaluated_anyway part _ _ (has_first (typed.choice condition then_branch else_branch) condition _) lacks
  children (typed.choice condition then_branch else_branch) part value (suc zero) is at inside lacks =
      let by = decided (mean result here condition) _ value is in then_child condition then_branch else_branch part by.0 by.1 at lacks
  children (typed.choice condition then_branch else_branch) part value (suc (suc zero)) is at inside lacks =
      let by = decided (mean result here condition) _ value is in else_child condition then_branch else_branch part by.0 by.1 at lacks
  children (typed.choice condition then_branch else_branch) part value (suc (suc (suc number))) is at inside lacks = absurd cc
  children (typed.listed scalar items) part value number is at inside lacks =
      let made = value_of_two (items_mean result here items) (λ items. Ok (list items)) value is in
      evaluated_anyway part _ _
      (of_root result here (typed.listed scalar items) number [] (items_trace result here 0 items)
      ∙ subst (λ n. is_evaluated (n ∷ []) (items_trace result here 0 items) ≡ true) (omega arith) (items_evaluated 0 number items part made.0 made.1 at)) lacks
  children (typed.predicate predicate many body) part value zero is at inside lacks = evaluated_anyway part _ _ (has_first (typed.predicate predicate many body) many _) lacks
  children (typed.predicate predicate many body) part value (suc zero) is at inside lacks = absurd (true≢false inside)
  children (typed.predicate predicate many body) part value (suc (suc number)) is at inside lacks = absurd cc

pub unneeded_children : (result : Value) (here : Option Value) (tree part : Typed) (value : Value) (number : ℕ) → mean result here tree ≡ Ok value → child tree number ≡ Some part
    → is_body tree number ≡ false → is_evaluated (number ∷ []) (trace result here tree) ≡ false → SayUnneeded part (earlier_lines result here tree)
unneeded_children result here tree part value number is at inside lacks = children result here tree part value number is at inside lacks
