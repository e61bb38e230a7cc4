-- Code that grows as a tree is compiled: operation by operation, jumps being set once their indexes are known.
use Rattle.std.specs.Prelude.{ℕ, List, [], ◌∷◌, ◌++◌, length, set}
use Rattle.ar_tree.specs.Typed.{Typed, Typeds, how_many}
use Rattle.ar_tree.specs.Typed as typed
use Rattle.ar_tree.specs.declared.tree.Literal.{Literal}
use Rattle.ar_tree.specs.declared.tree.Literal.TheVariants as literals
use Rattle.ar_value.specs.declared.operator.Predicate.{Predicate}
use Rattle.ar_op.specs.Code.{Code, code_of_parts}
use Rattle.ar_op.specs.declared.op.Jump.{Jump as JumpKind}
use Rattle.ar_op.specs.declared.op.Jump.TheVariants as jumps
use Rattle.ar_op.specs.declared.op.Op.{Op}
use Rattle.ar_op.specs.declared.op.Op.TheVariants.{Push, MakeList, Field, Unary, Binary, Jump, Enter, Step}
use Rattle.ar_op.specs.declared.op.Source.TheVariants as sources
use Rattle.ar_compile.specs.Compiled.{index_among, with_text}

abbrev pub no_code : Code
no_code = code_of_parts [] [] []

-- how many operations there are: the index of the next
abbrev pub draft_index : Code → ℕ
draft_index draft = length draft.ops

abbrev pub with_op : Op → Code → Code
with_op op draft = code_of_parts (draft.ops ++ op ∷ []) draft.texts draft.names

abbrev pub with_push_text : List ℕ → Code → Code
with_push_text text draft =
    code_of_parts (draft.ops ++ Push (sources.Text (index_among text draft.texts)) ∷ []) (with_text text draft.texts)
    draft.names

abbrev pub with_field : List ℕ → Code → Code
with_field name draft =
    code_of_parts (draft.ops ++ Field (index_among name draft.names) ∷ []) draft.texts (with_text name draft.names)

-- another operation at `index`
abbrev pub with_set : (index : ℕ) → Op → Code → Code
with_set index op draft = code_of_parts (set draft.ops index op) draft.texts draft.names

abbrev pub with_literal : Literal → Code → Code
with_literal literals.Nil draft = with_op (Push sources.Nil) draft
with_literal (literals.Bool boolean) draft = with_op (Push (sources.Bool boolean)) draft
with_literal (literals.Whole value) draft = with_op (Push (sources.Whole value)) draft
with_literal (literals.Decimal millionths) draft = with_op (Push (sources.Decimal millionths)) draft
with_literal (literals.Text letters) draft = with_push_text letters draft

-- a jump at `index` leads to the next operation
abbrev pub jumps_on : JumpKind → (index : ℕ) → Code → Code
jumps_on jump index draft = with_set index (Jump jump (draft_index draft)) draft

-- a loop's Enter, whose Step comes next
abbrev pub enters : Predicate → (index : ℕ) → Code → Code
enters predicate index draft = with_set index (Enter predicate (draft_index draft)) draft

abbrev pub with_loop : Predicate → (index : ℕ) → Code → Code
with_loop predicate index draft = with_op (Step predicate index) (enters predicate index draft)

abbrev mutual
  pub drafted : Typed → Code → Code
  drafted typed.result draft = with_op (Push sources.Result) draft
  drafted typed.item draft = with_op (Push sources.Item) draft
  drafted (typed.literal literal) draft = with_literal literal draft
  drafted (typed.field owner name) draft = with_field name (drafted owner draft)
  drafted (typed.unary operator operand) draft = with_op (Unary operator) (drafted operand draft)
  drafted (typed.binary operator left right) draft = with_op (Binary operator) (drafted right (drafted left draft))
  drafted (typed.both left right) draft =
      jumps_on jumps.And (draft_index (drafted left draft))
      (drafted right (with_op (Jump jumps.And 0) (drafted left draft)))
  drafted (typed.either left right) draft =
      jumps_on jumps.Or (draft_index (drafted left draft))
      (drafted right (with_op (Jump jumps.Or 0) (drafted left draft)))
  drafted (typed.choice condition then_branch else_branch) draft =
      jumps_on jumps.Always
      (draft_index (drafted then_branch (with_op (Jump jumps.Branch 0) (drafted condition draft))))
      (drafted else_branch (jumps_on jumps.Branch (draft_index (drafted condition draft))
      (with_op (Jump jumps.Always 0) (drafted then_branch (with_op (Jump jumps.Branch 0) (drafted condition draft))))))
  drafted (typed.listed scalar items) draft = with_op (MakeList scalar (how_many items)) (drafted_items items draft)
  drafted (typed.predicate predicate list body) draft =
      with_loop predicate (draft_index (drafted list draft))
      (drafted body (with_op (Enter predicate 0) (drafted list draft)))

  pub drafted_items : Typeds → Code → Code
  drafted_items typed.none draft = draft
  drafted_items (typed.more first others) draft = drafted_items others (drafted first draft)
