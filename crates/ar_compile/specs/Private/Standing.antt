-- Where in code the code of a tree is: between the list of operations and what the machine does.
use Rattle.std.specs.Prelude.{◌≡◌, ℕ, ◌+◌, List, Some, slice_get}
use Rattle.ar_tree.specs.Typed.{Typed, Typeds, how_many}
use Rattle.ar_tree.specs.Typed as typed
use Rattle.ar_tree.specs.declared.tree.Literal.{Literal}
use Rattle.ar_tree.specs.declared.tree.Literal.TheVariants as literals
use Rattle.ar_op.specs.Code.{Code}
use Rattle.ar_op.specs.declared.op.Jump.TheVariants as jumps
use Rattle.ar_op.specs.declared.op.Op.{Op}
use Rattle.ar_op.specs.declared.op.Op.TheVariants.{Push, MakeList, Field, Unary, Binary, Jump, Enter, Step}
use Rattle.ar_op.specs.declared.op.Source.TheVariants as sources
use Rattle.ar_compile.specs.Length.{operations, operations_of_items}

module _ (code : Code) where
  abbrev pub At : (index : ℕ) → Op → Type 0
  At index op = slice_get code.ops index ≡ Some op

  abbrev pub PushesText : (index : ℕ) → List ℕ → Type 0
  PushesText index letters = (n : ℕ) × At index (Push (sources.Text n)) × (slice_get code.texts n ≡ Some letters)

  abbrev pub TakesField : (index : ℕ) → List ℕ → Type 0
  TakesField index name = (n : ℕ) × At index (Field n) × (slice_get code.names n ≡ Some name)

  abbrev pub IsLiteralAt : (index : ℕ) → Literal → Type 0
  IsLiteralAt index literals.Nil = At index (Push sources.Nil)
  IsLiteralAt index (literals.Bool boolean) = At index (Push (sources.Bool boolean))
  IsLiteralAt index (literals.Whole value) = At index (Push (sources.Whole value))
  IsLiteralAt index (literals.Decimal millionths) = At index (Push (sources.Decimal millionths))
  IsLiteralAt index (literals.Text letters) = PushesText index letters

  abbrev mutual
    pub IsAt : (index : ℕ) → Typed → Type 0
    IsAt index typed.result = At index (Push sources.Result)
    IsAt index typed.item = At index (Push sources.Item)
    IsAt index (typed.literal literal) = IsLiteralAt index literal
    IsAt index (typed.field owner name) = IsAt index owner × TakesField (index + operations owner) name
    IsAt index (typed.unary operator operand) =
        IsAt index operand × At (index + operations operand) (Unary operator)
    IsAt index (typed.binary operator left right) =
        IsAt index left × IsAt (index + operations left) right
        × At (index + operations left + operations right) (Binary operator)
    IsAt index (typed.both left right) =
        IsAt index left × At (index + operations left)
        (Jump jumps.And (index + operations left + 1 + operations right))
        × IsAt (index + operations left + 1) right
    IsAt index (typed.either left right) =
        IsAt index left × At (index + operations left)
        (Jump jumps.Or (index + operations left + 1 + operations right))
        × IsAt (index + operations left + 1) right
    IsAt index (typed.choice condition then_branch else_branch) =
        IsAt index condition
        × At (index + operations condition)
        (Jump jumps.Branch (index + operations condition + 1 + operations then_branch + 1))
        × IsAt (index + operations condition + 1) then_branch
        × At (index + operations condition + 1 + operations then_branch)
        (Jump jumps.Always (index + operations condition + 1 + operations then_branch + 1 + operations else_branch))
        × IsAt (index + operations condition + 1 + operations then_branch + 1) else_branch
    IsAt index (typed.listed scalar items) =
        AreItemsAt index items × At (index + operations_of_items items) (MakeList scalar (how_many items))
    IsAt index (typed.predicate predicate list body) =
        IsAt index list
        × At (index + operations list) (Enter predicate (index + operations list + 1 + operations body))
        × IsAt (index + operations list + 1) body
        × At (index + operations list + 1 + operations body) (Step predicate (index + operations list))

    pub AreItemsAt : (index : ℕ) → Typeds → Type 0
    AreItemsAt index typed.none = Unit {0}
    AreItemsAt index (typed.more first others) = IsAt index first × AreItemsAt (index + operations first) others
