-- The trace of a condition on a value: the parts that are evaluated, in order, each with its value or failure.
use Rattle.std.specs.Prelude.{ℕ, suc, pos, ◌≡◌, refl, Bool, true, false, not, if◌then◌else◌, List, [], ◌∷◌, ◌++◌, map, Option, Some, None, Result, Ok, Err}
use Rattle.ar_value.specs.Answer.{◌>>=◌}
use Rattle.ar_value.specs.Operators.{Failure, Meaning, boolean, faulted, items_in, same_boolean, scalar_item}
use Rattle.ar_value.specs.Predicates.{ends_at}
use Rattle.ar_value.specs.Value.{Value, Items, bool, whole, list, nil, no_items, item, items_of}
use Rattle.ar_value.specs.declared.fault.Fault.TheVariants.{DivisionByZero}
use Rattle.ar_value.specs.declared.operator.BinaryOperator.TheVariants as binary
use Rattle.ar_value.specs.declared.operator.Arithmetic.TheVariants.{Divide}
use Rattle.ar_value.specs.declared.operator.Compared.TheVariants as compared
use Rattle.ar_value.specs.declared.operator.Family.TheVariants as families
use Rattle.ar_value.specs.declared.operator.Order.TheVariants.{Less}
use Rattle.ar_value.specs.declared.operator.Predicate.{Predicate}
use Rattle.ar_value.specs.declared.operator.Predicate.TheVariants as predicates
use Rattle.ar_value.specs.declared.operator.Scalar.TheVariants as scalars
use Rattle.ar_tree.specs.declared.tree.Literal.TheVariants as literals
use Rattle.ar_tree.specs.Meaning.{mean}
use Rattle.ar_tree.specs.Typed.{Typed, Typeds}
use Rattle.ar_tree.specs.Typed as typed

-- a part that is evaluated
pub record TraceEntry : Type 0 where
  -- the numbers of the children that lead from the root to the part
  pub path : List ℕ
  -- the numbers of the items on which the bodies of predicates around it are evaluated, the outermost first
  pub items : List ℕ
  pub part : Typed
  -- the innermost item, if there is one
  pub here : Option Value
  pub meaning : Meaning

abbrev pub root_entry : Value → Option Value → Typed → TraceEntry
root_entry result here tree =
    record { path = []; items = []; part = tree; here = here; meaning = mean result here tree }

-- a tree's own entry comes after those of its parts
abbrev pub with_root : Value → Option Value → Typed → List TraceEntry → List TraceEntry
with_root result here tree earlier = earlier ++ root_entry result here tree ∷ []

-- the entries of a child, as entries of its parent
abbrev pub in_child : ℕ → List TraceEntry → List TraceEntry
in_child child entries = map (λ (entry : TraceEntry). record entry { path = child ∷ entry.path }) entries

-- the entries of a predicate's body on an item
abbrev pub on_item : ℕ → List TraceEntry → List TraceEntry
on_item number entries = map (λ (entry : TraceEntry). record entry { items = number ∷ entry.items }) entries

-- what comes after a value; after a failure comes nothing
abbrev pub if_value : {A B : Type 0} → Result A Failure → (A → List B) → List B
if_value (Ok value) entries = entries value
if_value (Err failure) entries = []

-- ---- items of predicates

abbrev pub continues_unless : Option (Bool × Bool) → Bool → Bool
continues_unless None holds = true
continues_unless (Some (at, answer)) holds = not (same_boolean at holds)

-- whether a predicate looks at the next item, by what its body says of this one
abbrev pub continues : Predicate → Bool → Bool
continues predicate holds = continues_unless (ends_at predicate) holds

-- the entries of each item that is looked at, the first of which has a number
abbrev pub each_item : Predicate → (Value → Result Bool Failure) → (Value → List TraceEntry) → ℕ → Items
    → List TraceEntry
each_item predicate holds entries number no_items = []
each_item predicate holds entries number (item first items) =
    on_item number (entries first) ++ if_value (holds first)
    (λ it. if continues predicate it then each_item predicate holds entries (suc number) items else [])

-- ---- trees

abbrev mutual
  pub trace : Value → Option Value → Typed → List TraceEntry
  trace result here typed.result = with_root result here typed.result []
  trace result here typed.item = with_root result here typed.item []
  trace result here (typed.literal literal) = with_root result here (typed.literal literal) []
  trace result here (typed.field owner name) =
      with_root result here (typed.field owner name) (in_child 0 (trace result here owner))
  trace result here (typed.unary operator operand) =
      with_root result here (typed.unary operator operand) (in_child 0 (trace result here operand))
  trace result here (typed.binary operator left right) =
      with_root result here (typed.binary operator left right) (in_child 0 (trace result here left)
      ++ if_value (mean result here left) (λ value. in_child 1 (trace result here right)))
  -- the right side only where the left one doesn't decide
  trace result here (typed.both left right) =
      with_root result here (typed.both left right) (in_child 0 (trace result here left)
      ++ if_value (mean result here left >>= boolean)
      (λ holds. if holds then in_child 1 (trace result here right) else []))
  trace result here (typed.either left right) =
      with_root result here (typed.either left right) (in_child 0 (trace result here left)
      ++ if_value (mean result here left >>= boolean)
      (λ holds. if holds then [] else in_child 1 (trace result here right)))
  -- one branch
  trace result here (typed.choice condition then_branch else_branch) =
      with_root result here (typed.choice condition then_branch else_branch) (in_child 0 (trace result here condition)
      ++ if_value (mean result here condition >>= boolean)
      (λ holds. if holds then in_child 1 (trace result here then_branch)
      else in_child 2 (trace result here else_branch)))
  trace result here (typed.listed scalar items) =
      with_root result here (typed.listed scalar items) (items_trace result here 0 items)
  trace result here (typed.predicate predicate many body) =
      with_root result here (typed.predicate predicate many body) (in_child 0 (trace result here many)
      ++ if_value (mean result here many >>= items_in)
      (each_item predicate (λ value. mean result (Some value) body >>= boolean)
      (λ value. in_child 1 (trace result (Some value) body)) 0))

  -- the items of a list literal, the first of which has a number
  pub items_trace : Value → Option Value → ℕ → Typeds → List TraceEntry
  items_trace result here number typed.none = []
  items_trace result here number (typed.more first others) =
      in_child number (trace result here first)
      ++ if_value (mean result here first >>= scalar_item) (λ value. items_trace result here (suc number) others)

-- ---- worked rows

abbrev the_literal : ℕ → Typed
the_literal value = typed.literal (literals.Whole (pos value))

abbrev shown : TraceEntry → List ℕ × List ℕ × Meaning
shown entry = (entry.path, entry.items, entry.meaning)

abbrev is_below : Typed → ℕ → Typed
is_below tree value = typed.binary (binary.Compare compared.Wholes Less) tree (the_literal value)

-- `1 / result == 0`
abbrev one_over_result : Typed
one_over_result = typed.binary (binary.Equal families.Number)
    (typed.binary (binary.Wholes Divide) (the_literal 1) typed.result) (the_literal 0)

-- `result < 8` on 7: `result` is 7, `8` is 8, the comparison is true
of_a_comparison : map shown (trace (whole (pos 7)) None (is_below typed.result 8))
    ≡ (0 ∷ [], [], Ok (whole (pos 7))) ∷ (1 ∷ [], [], Ok (whole (pos 8))) ∷ ([], [], Ok (bool true)) ∷ []
of_a_comparison = refl

-- `true or 1 / result == 0` on 0: the right side isn't evaluated
left_side_decides : map shown (trace (whole (pos 0)) None
    (typed.either (typed.literal (literals.Bool true)) one_over_result))
    ≡ (0 ∷ [], [], Ok (bool true)) ∷ ([], [], Ok (bool true)) ∷ []
left_side_decides = refl

-- `true and result < 8` on 7: it is
both_sides : map shown (trace (whole (pos 7)) None
    (typed.both (typed.literal (literals.Bool true)) (is_below typed.result 8)))
    ≡ (0 ∷ [], [], Ok (bool true)) ∷ (1 ∷ 0 ∷ [], [], Ok (whole (pos 7))) ∷ (1 ∷ 1 ∷ [], [], Ok (whole (pos 8)))
    ∷ (1 ∷ [], [], Ok (bool true)) ∷ ([], [], Ok (bool true)) ∷ []
both_sides = refl

-- `false ? 1 : 2`: the else branch alone
one_branch : map shown (trace nil None (typed.choice (typed.literal (literals.Bool false)) (the_literal 1)
    (the_literal 2)))
    ≡ (0 ∷ [], [], Ok (bool false)) ∷ (2 ∷ [], [], Ok (whole (pos 2))) ∷ ([], [], Ok (whole (pos 2))) ∷ []
one_branch = refl

-- `1 / result == 0` on 0: after the failure come only the trees around it
failure_ends : map shown (trace (whole (pos 0)) None one_over_result)
    ≡ (0 ∷ 0 ∷ [], [], Ok (whole (pos 1))) ∷ (0 ∷ 1 ∷ [], [], Ok (whole (pos 0)))
    ∷ (0 ∷ [], [], Err (faulted DivisionByZero)) ∷ ([], [], Err (faulted DivisionByZero)) ∷ []
failure_ends = refl

-- `[1, 1 / result, 3]` on 0: the third item isn't evaluated
second_item_fails : map shown (trace (whole (pos 0)) None (typed.listed scalars.Whole (typed.more (the_literal 1)
    (typed.more (typed.binary (binary.Wholes Divide) (the_literal 1) typed.result)
    (typed.more (the_literal 3) typed.none)))))
    ≡ (0 ∷ [], [], Ok (whole (pos 1))) ∷ (1 ∷ 0 ∷ [], [], Ok (whole (pos 1))) ∷ (1 ∷ 1 ∷ [], [], Ok (whole (pos 0)))
    ∷ (1 ∷ [], [], Err (faulted DivisionByZero)) ∷ ([], [], Err (faulted DivisionByZero)) ∷ []
second_item_fails = refl

abbrev the_items : Value
the_items = list (items_of (whole (pos 9) ∷ whole (pos 1) ∷ whole (pos 2) ∷ []))

-- `any(result, # < 8)` on 9, 1 and 2: it ends at the second item
second_item_decides : map shown (trace the_items None (typed.predicate predicates.Any typed.result
    (is_below typed.item 8)))
    ≡ (0 ∷ [], [], Ok the_items)
    ∷ (1 ∷ 0 ∷ [], 0 ∷ [], Ok (whole (pos 9))) ∷ (1 ∷ 1 ∷ [], 0 ∷ [], Ok (whole (pos 8)))
    ∷ (1 ∷ [], 0 ∷ [], Ok (bool false))
    ∷ (1 ∷ 0 ∷ [], 1 ∷ [], Ok (whole (pos 1))) ∷ (1 ∷ 1 ∷ [], 1 ∷ [], Ok (whole (pos 8)))
    ∷ (1 ∷ [], 1 ∷ [], Ok (bool true))
    ∷ ([], [], Ok (bool true)) ∷ []
second_item_decides = refl

-- a `filter` whose body is `1 / #`, on 0: the body fails
body_fails : map shown (trace (list (items_of (whole (pos 0) ∷ []))) None
    (typed.predicate predicates.Filter typed.result (typed.binary (binary.Wholes Divide) (the_literal 1) typed.item)))
    ≡ (0 ∷ [], [], Ok (list (items_of (whole (pos 0) ∷ []))))
    ∷ (1 ∷ 0 ∷ [], 0 ∷ [], Ok (whole (pos 1))) ∷ (1 ∷ 1 ∷ [], 0 ∷ [], Ok (whole (pos 0)))
    ∷ (1 ∷ [], 0 ∷ [], Err (faulted DivisionByZero)) ∷ ([], [], Err (faulted DivisionByZero)) ∷ []
body_fails = refl
