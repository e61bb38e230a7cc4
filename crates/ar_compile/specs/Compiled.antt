-- The code of a condition: operands in order, then the operation.
use Rattle.std.specs.Prelude.{ℕ, suc, ◌+◌, if◌then◌else◌, List, [], ◌∷◌, ◌++◌, ◌≡◌, pos, codes, refl}
use Rattle.std.specs.Str.{bytes_eq}
use Rattle.ar_value.specs.Terms.{Index, Text}
use Rattle.ar_tree.specs.Typed.{Typed, Typeds, how_many}
use Rattle.ar_tree.specs.Typed as typed
use Rattle.ar_tree.specs.declared.tree.Literal.{Literal}
use Rattle.ar_tree.specs.declared.tree.Literal.TheVariants as literals
use Rattle.ar_op.specs.Code.{Code, code_of_parts}
use Rattle.ar_op.specs.declared.op.Jump.TheVariants as jumps
use Rattle.ar_op.specs.declared.op.Op.{Op}
use Rattle.ar_op.specs.declared.op.Op.TheVariants.{Push, MakeList, Field, Unary, Binary, Jump, Enter, Step, Return}
use Rattle.ar_op.specs.declared.op.Source.TheVariants as sources
use Rattle.ar_compile.specs.Length.{operations}
use Rattle.ar_value.specs.declared.operator.BinaryOperator.TheVariants as binary
use Rattle.ar_value.specs.declared.operator.Compared.TheVariants as compared
use Rattle.ar_value.specs.declared.operator.Family.TheVariants as families
use Rattle.ar_value.specs.declared.operator.Order.TheVariants.{Greater}

-- ---- texts and names, numbered in order of first use, each once

pub record Tables : Type 0 where
  pub texts : List Text
  pub names : List Text

abbrev pub no_tables : Tables
no_tables = record { texts = []; names = [] }

-- the index of a text among others; where it isn't among them, their number
abbrev pub index_among : Text → List Text → ℕ
index_among text [] = 0
index_among text (first ∷ others) = if bytes_eq first text then 0 else suc (index_among text others)

-- texts, and one more where it isn't among them
abbrev pub with_text : Text → List Text → List Text
with_text text [] = text ∷ []
with_text text (first ∷ others) = first ∷ (if bytes_eq first text then others else with_text text others)

abbrev pub literal_tables : Literal → Tables → Tables
literal_tables (literals.Text letters) tables = record tables { texts = with_text letters tables.texts }
literal_tables literal tables = tables

abbrev mutual
  -- tables, and what a tree uses first
  pub tables_with : Typed → Tables → Tables
  tables_with typed.result tables = tables
  tables_with typed.item tables = tables
  tables_with (typed.literal literal) tables = literal_tables literal tables
  tables_with (typed.field owner name) tables =
      record { texts = (tables_with owner tables).texts; names = with_text name (tables_with owner tables).names }
  tables_with (typed.unary operator operand) tables = tables_with operand tables
  tables_with (typed.binary operator left right) tables = tables_with right (tables_with left tables)
  tables_with (typed.both left right) tables = tables_with right (tables_with left tables)
  tables_with (typed.either left right) tables = tables_with right (tables_with left tables)
  tables_with (typed.choice condition then_branch else_branch) tables =
      tables_with else_branch (tables_with then_branch (tables_with condition tables))
  tables_with (typed.listed scalar items) tables = tables_with_items items tables
  tables_with (typed.predicate predicate list body) tables = tables_with body (tables_with list tables)

  pub tables_with_items : Typeds → Tables → Tables
  tables_with_items typed.none tables = tables
  tables_with_items (typed.more first others) tables = tables_with_items others (tables_with first tables)

-- ---- operations

abbrev pub literal_op : Literal → Tables → Op
literal_op literals.Nil tables = Push sources.Nil
literal_op (literals.Bool boolean) tables = Push (sources.Bool boolean)
literal_op (literals.Whole value) tables = Push (sources.Whole value)
literal_op (literals.Decimal millionths) tables = Push (sources.Decimal millionths)
literal_op (literals.Text letters) tables = Push (sources.Text (index_among letters tables.texts))

abbrev mutual
  -- the operations of a tree that begin at `index`, where tables are there already
  pub code_at : (index : Index) → Tables → Typed → List Op
  code_at index tables typed.result = Push sources.Result ∷ []
  code_at index tables typed.item = Push sources.Item ∷ []
  code_at index tables (typed.literal literal) = literal_op literal tables ∷ []
  code_at index tables (typed.field owner name) =
      code_at index tables owner ++ Field (index_among name (tables_with owner tables).names) ∷ []
  code_at index tables (typed.unary operator operand) = code_at index tables operand ++ Unary operator ∷ []
  code_at index tables (typed.binary operator left right) =
      code_at index tables left
      ++ (code_at (index + operations left) (tables_with left tables) right ++ Binary operator ∷ [])
  -- after the right side, with the left one on the stack, where that decides
  code_at index tables (typed.both left right) =
      code_at index tables left
      ++ (Jump jumps.And (index + operations left + 1 + operations right)
      ∷ code_at (index + operations left + 1) (tables_with left tables) right)
  code_at index tables (typed.either left right) =
      code_at index tables left
      ++ (Jump jumps.Or (index + operations left + 1 + operations right)
      ∷ code_at (index + operations left + 1) (tables_with left tables) right)
  code_at index tables (typed.choice condition then_branch else_branch) =
      code_at index tables condition
      ++ (Jump jumps.Branch (index + operations condition + 1 + operations then_branch + 1)
      ∷ (code_at (index + operations condition + 1) (tables_with condition tables) then_branch
      ++ (Jump jumps.Always (index + operations condition + 1 + operations then_branch + 1 + operations else_branch)
      ∷ code_at (index + operations condition + 1 + operations then_branch + 1)
      (tables_with then_branch (tables_with condition tables)) else_branch)))
  code_at index tables (typed.listed scalar items) =
      items_at index tables items ++ MakeList scalar (how_many items) ∷ []
  -- the Enter names the index of its Step, and the Step that of its Enter
  code_at index tables (typed.predicate predicate list body) =
      code_at index tables list
      ++ (Enter predicate (index + operations list + 1 + operations body)
      ∷ (code_at (index + operations list + 1) (tables_with list tables) body
      ++ Step predicate (index + operations list) ∷ []))

  pub items_at : (index : Index) → Tables → Typeds → List Op
  items_at index tables typed.none = []
  items_at index tables (typed.more first others) =
      code_at index tables first ++ items_at (index + operations first) (tables_with first tables) others

-- ---- conditions

-- the code of a condition, which ends in Return
unfoldable pub compiled : Typed → Code
compiled condition =
    code_of_parts (code_at 0 no_tables condition ++ Return ∷ []) (tables_with condition no_tables).texts
    (tables_with condition no_tables).names

-- ---- worked rows

result_above_one : compiled
    (typed.binary (binary.Compare compared.Wholes Greater) typed.result (typed.literal (literals.Whole (pos 1))))
    ≡ code_of_parts (Push sources.Result ∷ Push (sources.Whole (pos 1))
    ∷ Binary (binary.Compare compared.Wholes Greater) ∷ Return ∷ []) [] []
unfolding compiled
result_above_one = refl

text_and_name : compiled
    (typed.binary (binary.Equal families.Text) (typed.field typed.result (codes "phase"))
    (typed.literal (literals.Text (codes "up"))))
    ≡ code_of_parts (Push sources.Result ∷ Field 0 ∷ Push (sources.Text 0) ∷ Binary (binary.Equal families.Text)
    ∷ Return ∷ []) (codes "up" ∷ []) (codes "phase" ∷ [])
unfolding compiled
text_and_name = refl
