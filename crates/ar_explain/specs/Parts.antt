-- Parts of conditions by how the whole leads to them, and what a trace says of them.
use Rattle.std.specs.Prelude.{◌≡◌, refl, ℕ, zero, suc, pos, Bool, ◌&&◌, List, [], ◌∷◌, Option, Some, None, option_and_then, Result, Ok, Err}
use Rattle.std.specs.List.{list_any}
use Rattle.std.specs.Str.{bytes_eq}
use Rattle.ar_value.specs.Answer.{◌>>=◌, there_or}
use Rattle.ar_value.specs.Operators.{Failure, faulted, ill_kinded, items_in, nth_item}
use Rattle.ar_value.specs.Value.{Value, nil}
use Rattle.ar_value.specs.declared.fault.Fault.TheVariants.{DivisionByZero}
use Rattle.ar_value.specs.declared.operator.Arithmetic.TheVariants.{Divide}
use Rattle.ar_value.specs.declared.operator.BinaryOperator.TheVariants as binary
use Rattle.ar_tree.specs.declared.tree.Literal.TheVariants as literals
use Rattle.ar_tree.specs.Meaning.{mean}
use Rattle.ar_tree.specs.Typed.{Typed, Typeds}
use Rattle.ar_tree.specs.Typed as typed
use Rattle.ar_explain.specs.Trace.{TraceEntry}

abbrev pub nth_tree : Typeds → ℕ → Option Typed
nth_tree typed.none number = None
nth_tree (typed.more first others) zero = Some first
nth_tree (typed.more first others) (suc number) = nth_tree others number

-- the child with a number, from 0, in the order of evaluation
abbrev pub child : Typed → ℕ → Option Typed
child (typed.field owner name) zero = Some owner
child (typed.unary operator operand) zero = Some operand
child (typed.binary operator left right) zero = Some left
child (typed.binary operator left right) (suc zero) = Some right
child (typed.both left right) zero = Some left
child (typed.both left right) (suc zero) = Some right
child (typed.either left right) zero = Some left
child (typed.either left right) (suc zero) = Some right
child (typed.choice condition then_branch else_branch) zero = Some condition
child (typed.choice condition then_branch else_branch) (suc zero) = Some then_branch
child (typed.choice condition then_branch else_branch) (suc (suc zero)) = Some else_branch
child (typed.listed scalar items) number = nth_tree items number
child (typed.predicate predicate many body) zero = Some many
child (typed.predicate predicate many body) (suc zero) = Some body
child tree number = None

-- the part to which a path leads
abbrev pub part_at : List ℕ → Typed → Option Typed
part_at [] tree = Some tree
part_at (number ∷ path) tree = option_and_then (part_at path) (child tree number)

abbrev pub nth_changed : (Typed → Typed) → Typeds → ℕ → Typeds
nth_changed change typed.none number = typed.none
nth_changed change (typed.more first others) zero = typed.more (change first) others
nth_changed change (typed.more first others) (suc number) = typed.more first (nth_changed change others number)

-- the tree with another child in place of the one with a number, if there is one
abbrev pub change_child : (Typed → Typed) → Typed → ℕ → Typed
change_child change (typed.field owner name) zero = typed.field (change owner) name
change_child change (typed.unary operator operand) zero = typed.unary operator (change operand)
change_child change (typed.binary operator left right) zero = typed.binary operator (change left) right
change_child change (typed.binary operator left right) (suc zero) = typed.binary operator left (change right)
change_child change (typed.both left right) zero = typed.both (change left) right
change_child change (typed.both left right) (suc zero) = typed.both left (change right)
change_child change (typed.either left right) zero = typed.either (change left) right
change_child change (typed.either left right) (suc zero) = typed.either left (change right)
change_child change (typed.choice condition then_branch else_branch) zero =
    typed.choice (change condition) then_branch else_branch
change_child change (typed.choice condition then_branch else_branch) (suc zero) =
    typed.choice condition (change then_branch) else_branch
change_child change (typed.choice condition then_branch else_branch) (suc (suc zero)) =
    typed.choice condition then_branch (change else_branch)
change_child change (typed.listed scalar items) number = typed.listed scalar (nth_changed change items number)
change_child change (typed.predicate predicate many body) zero = typed.predicate predicate (change many) body
change_child change (typed.predicate predicate many body) (suc zero) = typed.predicate predicate many (change body)
change_child change tree number = tree

-- the tree with another part where a path leads, if it leads to one
abbrev pub with_part : List ℕ → Typed → Typed → Typed
with_part [] other tree = other
with_part (number ∷ path) other tree = change_child (with_part path other) tree number

-- The innermost item where a path leads, on the items of predicates with these numbers, the outermost first. A path
-- or numbers that lead nowhere have none.
abbrev pub here_at : Value → Option Value → Typed → List ℕ → List ℕ → Result (Option Value) Failure
here_at result here tree [] [] = Ok here
here_at result here tree [] (number ∷ items) = Err ill_kinded
here_at result here (typed.predicate predicate many body) (suc zero ∷ path) [] = Err ill_kinded
here_at result here (typed.predicate predicate many body) (suc zero ∷ path) (number ∷ items) = do
  among ← mean result here many
  values ← items_in among
  value ← there_or ill_kinded (nth_item values number)
  here_at result (Some value) body path items
here_at result here tree (number ∷ path) items =
    there_or ill_kinded (child tree number) >>= λ part. here_at result here part path items

-- an entry is of a part of the tree, and has its meaning
pub record IsEntryOf (result : Value) (here : Option Value) (tree : Typed) (entry : TraceEntry) : Type 0 where
  pub of_part : part_at entry.path tree ≡ Some entry.part
  pub of_item : here_at result here tree entry.path entry.items ≡ Ok entry.here
  pub has_meaning : entry.meaning ≡ mean result entry.here entry.part

abbrev pub same_path : List ℕ → List ℕ → Bool
same_path path other = bytes_eq path other

-- whether the part to which a path leads is evaluated, if only on some item
abbrev pub is_evaluated : List ℕ → List TraceEntry → Bool
is_evaluated path entries = list_any (λ (entry : TraceEntry). same_path entry.path path) entries

-- whether it is evaluated on the items of predicates with these numbers, the outermost first
abbrev pub is_evaluated_on : (path items : List ℕ) → List TraceEntry → Bool
is_evaluated_on path items entries =
    list_any (λ (entry : TraceEntry). same_path entry.path path && same_path entry.items items) entries

-- a tree that fails wherever it is
abbrev pub Fails : Value → Failure → Typed → Type 0
Fails result failure tree = (here : Option Value) → mean result here tree ≡ Err failure

-- ---- worked rows

-- `1 / 0` does
one_over_zero : Fails nil (faulted DivisionByZero) (typed.binary (binary.Wholes Divide)
    (typed.literal (literals.Whole (pos 1))) (typed.literal (literals.Whole (pos 0))))
one_over_zero here = refl
