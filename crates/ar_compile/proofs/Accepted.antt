-- The verifier accepts the code of a checked condition, unless a run of it may have too many operands or cost too much.
use Rattle.std.proofs.Common.{◌≡◌, ◌<◌, ◌≤◌, ℕ, zero, suc, ◌+◌, true, false, List, [], ◌∷◌, length, Option, Some, None, Result, Ok, Err, IfOk, refl, sym, ap, subst, inl, inr, ◌∙◌, arith}
use Rattle.std.specs.Prelude.{◌⊎◌, nat_lt}
use Rattle.std.proofs.lemmas.Bool.Decides.{nat_tests}
use Rattle.ar_value.specs.Kind.{Kind, merge, shaped, scalar_shape, boolean_kind}
use Rattle.ar_value.specs.Shape.{Shape, shape_named}
use Rattle.ar_value.specs.Shape as shapes
use Rattle.ar_value.specs.declared.operator.Predicate.{Predicate}
use Rattle.ar_value.specs.declared.operator.Predicate.TheVariants as predicates
use Rattle.ar_value.specs.declared.operator.Scalar.{Scalar}
use Rattle.ar_value.specs.declared.operator.Scalar.TheVariants as scalars
use Rattle.ar_value.specs.Limits.{most_loops}
use Rattle.ar_tree.specs.Expression.{Expression}
use Rattle.ar_tree.specs.Typed.{Typed, Typeds, how_many}
use Rattle.ar_tree.specs.Typed as typed
use Rattle.ar_tree.specs.declared.tree.Literal.{Literal}
use Rattle.ar_tree.specs.declared.tree.Literal.TheVariants as literals
use Rattle.ar_check.specs.Basics.{literal_kind}
use Rattle.ar_check.specs.Check.{checked, predicate_kind}
use Rattle.ar_op.specs.Code.{Code}
use Rattle.ar_op.specs.declared.op.Op.{Op}
use Rattle.ar_op.specs.declared.op.Jump.TheVariants as jumps
use Rattle.ar_op.specs.declared.op.Op.TheVariants.{Push, MakeList, Field, Unary, Binary, Jump, Enter, Step}
use Rattle.ar_op.specs.declared.op.Source.TheVariants as sources
use Rattle.ar_safety.specs.Arrivals.{Around, answer_kind, innermost_shape, lacks, operands}
use Rattle.ar_safety.specs.Effects.{decimal_kind, decimal_shape, kinds_left, is_family, is_scalar_kind, list_kind_left, are_one_family}
use Rattle.ar_safety.specs.Arrivals.{Sent, all_sent}
use Rattle.ar_safety.specs.declared.error.Cause.{Cause}
use Rattle.ar_safety.specs.declared.error.Cause.TheVariants.{Fault}
use Rattle.ar_safety.specs.declared.error.Reason.{Reason}
use Rattle.ar_safety.specs.declared.error.Reason.TheVariants.{BudgetTooLarge, StackTooDeep}
use Rattle.ar_safety.specs.Verdict.{IsFault}
use Rattle.ar_compile.specs.Acceptance.{OnlyTooLarge}
use Rattle.ar_compile.specs.Compiled.{compiled}
use Rattle.ar_compile.specs.Length.{operations, operations_of_items}
use Rattle.ar_compile.specs.Private.Kinded.{Kinded, AllKinded, measured, innermost, literally, of_field, of_unary, of_binary, of_both, of_either, of_choice, of_list, of_predicate, none, one_more}
use Rattle.ar_compile.specs.Private.Standing.{AreItemsAt, IsAt, IsLiteralAt}
use Rattle.ar_compile.proofs.Blocks.{IsPlain, SkipsTo, indices_are_well}
use Rattle.ar_compile.proofs.Flows.{At, Flows, all_arrive, block, in_turn, one_of_two, one_op, over_list, skipped}
use Rattle.ar_compile.proofs.Flows as flow
use Rattle.ar_compile.proofs.Kindings.{checked_kinded}
use Rattle.ar_compile.proofs.Lawful.{compiled_length}
use Rattle.ar_compile.proofs.Standing.{compiled_is_at}

-- ---- what operations take and give

enough : (n m : ℕ) → m ≤ n → nat_lt n m ≡ false
enough n m h = grind (arith, nat_tests)

-- an operation on operands that are enough gives a kind in front of others
record Gives (code : Code) (shape : Shape) (around : List Around) (op : Op) (kinds given : List Kind) : Type 0 where
  plain : IsPlain op
  has : lacks op (operands kinds around) ≡ false
  gives : kinds_left code shape (innermost_shape around) op kinds ≡ Some given

module _ (code : Code) (wanted : Shape) (around : List Around) where
  abbrev Does : Op → List Kind → List Kind → Type 0
  Does op kinds given = Gives code wanted around op kinds given

  literal_does : (literal : Literal) (index : ℕ) (kinds : List Kind) → IsLiteralAt code index literal → (op : Op) × At code wanted index op × Does op kinds (literal_kind literal ∷ kinds)
  literal_does literals.Nil index kinds there = ((Push sources.Nil), there, record { plain = tt; has = enough (length kinds) 0 (omega arith); gives = refl })
  literal_does (literals.Bool holds) index kinds there = (Push (sources.Bool holds), there, record { plain = tt; has = enough (length kinds) 0 (omega arith); gives = refl })
  literal_does (literals.Whole value) index kinds there = (Push (sources.Whole value), there, record { plain = tt; has = enough (length kinds) 0 (omega arith); gives = refl })
  literal_does (literals.Decimal millionths) index kinds there = (Push (sources.Decimal millionths), there, record { plain = tt; has = enough (length kinds) 0 (omega arith); gives = refl })
  literal_does (literals.Text letters) index kinds there = (Push (sources.Text there.0), there.1, record { plain = tt; has = enough (length kinds) 0 (omega arith); gives = refl })

  answer_is : (predicate : Predicate) (shape : Shape) (max : ℕ) → answer_kind predicate shape max ≡ predicate_kind predicate (shaped (shapes.list shape max))
  answer_is predicates.All shape max = refl
  answer_is predicates.Any shape max = refl
  answer_is predicates.None shape max = refl
  answer_is predicates.One shape max = refl
  answer_is predicates.Count shape max = refl
  answer_is predicates.Filter shape max = refl

  -- ---- list literals

  -- n scalars more
  copies : Scalar → ℕ → List Kind → List Kind
  copies scalar zero kinds = kinds
  copies scalar (suc n) kinds = copies scalar n (shaped (scalar_shape scalar) ∷ kinds)

  copies_front : (scalar : Scalar) (n : ℕ) (kinds : List Kind) → copies scalar n (shaped (scalar_shape scalar) ∷ kinds) ≡ shaped (scalar_shape scalar) ∷ copies scalar n kinds
  unfolding copies
  copies_front scalar zero kinds = refl
  copies_front scalar (suc n) kinds = copies_front scalar n (shaped (scalar_shape scalar) ∷ kinds)

  copies_length : (scalar : Scalar) (n : ℕ) (kinds : List Kind) → length (copies scalar n kinds) ≡ n + length kinds
  unfolding copies
  copies_length scalar zero kinds = omega arith
  copies_length scalar (suc n) kinds = let rest = copies_length scalar n (shaped (scalar_shape scalar) ∷ kinds) in omega arith

  is_scalar_shape : (scalar : Scalar) → is_scalar_kind scalar (shaped (scalar_shape scalar)) ≡ true
  is_scalar_shape scalars.Bool = refl
  is_scalar_shape scalars.Whole = refl
  is_scalar_shape scalars.Decimal = refl
  is_scalar_shape scalars.Text = refl

  copies_made : (scalar : Scalar) (max n : ℕ) (kinds : List Kind) → list_kind_left scalar max n (copies scalar n kinds) ≡ Some (shaped (shapes.list (scalar_shape scalar) max) ∷ kinds)
  unfolding copies
  copies_made scalar max zero kinds = refl
  copies_made scalar max (suc n) kinds = ap (list_kind_left scalar max (suc n)) (copies_front scalar n kinds) ∙ rw (is_scalar_shape scalar) (copies_made scalar max n kinds)

  list_does : (scalar : Scalar) (n : ℕ) (kinds : List Kind) → Does (MakeList scalar n) (copies scalar n kinds) (shaped (shapes.list (scalar_shape scalar) n) ∷ kinds)
  list_does scalar n kinds = record { plain = tt; has = let long = copies_length scalar n kinds in enough (length (copies scalar n kinds)) n (omega arith); gives = copies_made scalar n n kinds }

-- ---- trees

add_one : (index : ℕ) → suc index ≡ index + 1
add_one index = omega arith

after_one : (index m : ℕ) → suc (index + m) ≡ index + (m + 1)
after_one index m = omega arith

after_two : (index m n : ℕ) → suc (index + m + n) ≡ index + (m + n + 1)
after_two index m n = omega arith

after_jump : (index m n : ℕ) → index + m + 1 + n ≡ index + (m + 1 + n)
after_jump index m n = omega arith

after_branches : (index l m n : ℕ) → index + l + 1 + m + 1 + n ≡ index + (l + 1 + m + 1 + n)
after_branches index l m n = omega arith

after_loop : (index m n : ℕ) → suc (index + m + 1 + n) ≡ index + (m + 1 + n + 1)
after_loop index m n = omega arith

module _ (code : Code) (wanted : Shape) where
  abbrev Proceeds : List Around → (begin : ℕ) → List Kind → (end : ℕ) → List Kind → Type 0
  Proceeds around begin kinds end given = Flows code wanted around begin kinds end given

  up_to : (around : List Around) (begin end other : ℕ) (kinds given : List Kind) → end ≡ other → Proceeds around begin kinds end given → Proceeds around begin kinds other given
  up_to around begin end other kinds given same h = subst (λ end. Proceeds around begin kinds end given) same h

  from_to : (around : List Around) (begin start end : ℕ) (kinds given : List Kind) → begin ≡ start → Proceeds around begin kinds end given → Proceeds around start kinds end given
  from_to around begin start end kinds given same h = subst (λ begin. Proceeds around begin kinds end given) same h

  op_proceeds : (around : List Around) (index : ℕ) (op : Op) (kinds given : List Kind) → At code wanted index op → Gives code wanted around op kinds given → Proceeds around index kinds (suc index) given
  op_proceeds around index op kinds given there does = one_op there does.plain does.has does.gives

  -- an operand, and an operation on it
  one_proceeds : (around : List Around) (index : ℕ) (operand : Typed) (op : Op) (kinds first given : List Kind) → Proceeds around index kinds (index + operations operand) first → At code wanted (index + operations operand) op
      → Gives code wanted around op first given → Proceeds around index kinds (index + (operations operand + 1)) given
  one_proceeds around index operand op kinds first given proceeds there does =
      up_to around index (suc (index + operations operand)) (index + (operations operand + 1)) kinds given (after_one index (operations operand)) (in_turn proceeds (op_proceeds around (index + operations operand) op first given there does))

  two_go : (around : List Around) (index : ℕ) (left right : Typed) (op : Op) (kinds first second given : List Kind) → Proceeds around index kinds (index + operations left) first
      → Proceeds around (index + operations left) first (index + operations left + operations right) second → At code wanted (index + operations left + operations right) op → Gives code wanted around op second given
      → Proceeds around index kinds (index + (operations left + operations right + 1)) given
  two_go around index left right op kinds first second given proceeds also there does =
      up_to around index (suc (index + operations left + operations right)) (index + (operations left + operations right + 1)) kinds given (after_two index (operations left) (operations right))
      (in_turn proceeds (in_turn also (op_proceeds around (index + operations left + operations right) op second given there does)))

  first_skips : (around : List Around) (index : ℕ) (left right : Typed) (op : Op) (kinds : List Kind) → Proceeds around index kinds (index + operations left) (boolean_kind ∷ kinds) → At code wanted (index + operations left) op
      → SkipsTo (index + operations left + 1 + operations right) op → Proceeds around (index + operations left + 1) kinds (index + operations left + 1 + operations right) (boolean_kind ∷ kinds)
      → Proceeds around index kinds (index + (operations left + 1 + operations right)) (boolean_kind ∷ kinds)
  first_skips around index left right op kinds proceeds there to also =
      up_to around index (index + operations left + 1 + operations right) (index + (operations left + 1 + operations right)) kinds (boolean_kind ∷ kinds) (after_jump index (operations left) (operations right))
      (in_turn proceeds (skipped there to (from_to around (index + operations left + 1) (suc (index + operations left)) (index + operations left + 1 + operations right) kinds (boolean_kind ∷ kinds) (sym (add_one (index + operations left))) also)))

  -- one of two blocks
  choice_proceeds : (around : List Around) (index : ℕ) (condition then_branch else_branch : Typed) (left right kind : Kind) (kinds : List Kind) → Proceeds around index kinds (index + operations condition) (boolean_kind ∷ kinds)
      → At code wanted (index + operations condition) (Jump jumps.Branch (index + operations condition + 1 + operations then_branch + 1)) → Proceeds around (index + operations condition + 1) kinds (index + operations condition + 1 + operations then_branch) (left ∷ kinds)
      → At code wanted (index + operations condition + 1 + operations then_branch) (Jump jumps.Always (index + operations condition + 1 + operations then_branch + 1 + operations else_branch))
      → Proceeds around (index + operations condition + 1 + operations then_branch + 1) kinds (index + operations condition + 1 + operations then_branch + 1 + operations else_branch) (right ∷ kinds) → merge left right ≡ Some kind
      → Proceeds around index kinds (index + (operations condition + 1 + operations then_branch + 1 + operations else_branch)) (kind ∷ kinds)
  choice_proceeds around index condition then_branch else_branch left right kind kinds proceeds branch on_then jump on_else merged =
      let p = index + operations condition in
      let middle = p + 1 + operations then_branch in
      let end = middle + 1 + operations else_branch in
      up_to around index end (index + (operations condition + 1 + operations then_branch + 1 + operations else_branch)) kinds (kind ∷ kinds) (after_branches index (operations condition) (operations then_branch) (operations else_branch))
      (in_turn proceeds (one_of_two (subst (λ target. At code wanted p (Jump jumps.Branch target)) (sym (add_one middle)) branch)
      (from_to around (p + 1) (suc p) middle kinds (left ∷ kinds) (sym (add_one p)) on_then) jump (from_to around (middle + 1) (suc middle) end kinds (right ∷ kinds) (sym (add_one middle)) on_else) merged))

  -- a loop over a list
  loop_proceeds : (around : List Around) (index : ℕ) (predicate : Predicate) (list body : Typed) (shape : Shape) (max : ℕ) (kinds : List Kind) → Proceeds around index kinds (index + operations list) (shaped (shapes.list shape max) ∷ kinds)
      → length around < most_loops → At code wanted (index + operations list) (Enter predicate (index + operations list + 1 + operations body))
      → Proceeds (record { item = shape; most = max; below = kinds } ∷ around) (index + operations list + 1) [] (index + operations list + 1 + operations body) (boolean_kind ∷ [])
      → At code wanted (index + operations list + 1 + operations body) (Step predicate (index + operations list)) → Proceeds around index kinds (index + (operations list + 1 + operations body + 1)) (predicate_kind predicate (shaped (shapes.list shape max)) ∷ kinds)
  loop_proceeds around index predicate list body shape max kinds proceeds few enter inside step =
      let p = index + operations list in
      up_to around index (suc (p + 1 + operations body)) (index + (operations list + 1 + operations body + 1)) kinds (predicate_kind predicate (shaped (shapes.list shape max)) ∷ kinds) (after_loop index (operations list) (operations body))
      (subst (λ kind. Proceeds around index kinds (suc (p + 1 + operations body)) (kind ∷ kinds)) (answer_is code wanted around predicate shape max)
      (in_turn proceeds (over_list few enter (from_to (record { item = shape; most = max; below = kinds } ∷ around) (p + 1) (suc p) (p + 1 + operations body) [] (boolean_kind ∷ []) (sym (add_one p)) inside) step)))

  none_after : (index : ℕ) → index + 0 ≡ index
  none_after index = omega arith

  no_items_go : (around : List Around) (index : ℕ) (kinds : List Kind) (scalar : Scalar) (op : Op) (given : List Kind) → At code wanted (index + 0) op → Gives code wanted around op (copies code wanted around scalar 0 kinds) given → Proceeds around index kinds (suc (index + 0)) given
  unfolding copies
  no_items_go around index kinds scalar op given at does =
      from_to around (index + 0) index (suc (index + 0)) kinds given (none_after index) (op_proceeds around (index + 0) op kinds given at does)

  after_first : (index m n : ℕ) → index + m + n ≡ index + (m + n)
  after_first index m n = omega arith

  more_items_go : (around : List Around) (index : ℕ) (first : Typed) (others : Typeds) (kinds : List Kind) (scalar : Scalar) (op : Op) (given : List Kind) → Proceeds around index kinds (index + operations first) (shaped (scalar_shape scalar) ∷ kinds)
      → (At code wanted (index + operations first + operations_of_items others) op → Gives code wanted around op (copies code wanted around scalar (how_many others) (shaped (scalar_shape scalar) ∷ kinds)) given
      → Proceeds around (index + operations first) (shaped (scalar_shape scalar) ∷ kinds) (suc (index + operations first + operations_of_items others)) given)
      → At code wanted (index + (operations first + operations_of_items others)) op → Gives code wanted around op (copies code wanted around scalar (suc (how_many others)) kinds) given
      → Proceeds around index kinds (suc (index + (operations first + operations_of_items others))) given
  unfolding copies
  more_items_go around index first others kinds scalar op given proceeds further at does =
      let same = after_first index (operations first) (operations_of_items others) in
      up_to around index (suc (index + operations first + operations_of_items others)) (suc (index + (operations first + operations_of_items others))) kinds given (ap suc same)
      (in_turn proceeds (further (subst (λ index. At code wanted index op) (sym same) at) does))

  mutual
    flows : (inner : Option Shape) (deep : ℕ) (tree : Typed) (kind : Kind) → Kinded wanted inner deep tree kind → (index : ℕ) → IsAt code index tree → (around : List Around) → innermost_shape around ≡ inner → length around ≡ deep → (kinds : List Kind)
        → Proceeds around index kinds (index + operations tree) (kind ∷ kinds)
    flows inner deep typed.result kind measured index there around item long kinds =
        up_to around index (suc index) (index + 1) kinds (kind ∷ kinds) (add_one index) (op_proceeds around index (Push sources.Result) kinds (kind ∷ kinds) there (record { plain = tt; has = enough (length kinds) 0 (omega arith); gives = refl }))
    flows (Some shape) deep typed.item kind innermost index there around item long kinds =
        up_to around index (suc index) (index + 1) kinds (kind ∷ kinds) (add_one index) (op_proceeds around index (Push sources.Item) kinds (kind ∷ kinds) there (record { plain = tt; has = rw item refl; gives = rw item refl }))
    flows None deep typed.item kind is index there around item long kinds = elim is [ ]
    flows inner deep (typed.literal literal) kind (literally constant_of) index there around item long kinds =
        let does = literal_does code wanted around literal index kinds there in
        up_to around index (suc index) (index + 1) kinds (literal_kind literal ∷ kinds) (add_one index) (op_proceeds around index does.0 kinds (literal_kind literal ∷ kinds) does.1 does.2)
    flows inner deep (typed.field owner name) kind (of_field {shape = shape} {fields = fields} owner_is named) index there around item long kinds =
        one_proceeds around index owner (Field there.1.0) kinds (shaped (shapes.object fields) ∷ kinds) (kind ∷ kinds) (flows inner deep owner (shaped (shapes.object fields)) owner_is index there.0 around item long kinds) there.1.1
        (record { plain = tt; has = enough (suc (length kinds)) 1 (omega arith); gives = rw (there.1.2, named) refl })
    flows inner deep (typed.unary operator operand) kind (of_unary {of = of} operand_is gives) index there around item long kinds =
        one_proceeds around index operand (Unary operator) kinds (of ∷ kinds) (kind ∷ kinds) (flows inner deep operand of operand_is index there.0 around item long kinds) there.1
        (record { plain = tt; has = enough (suc (length kinds)) 1 (omega arith); gives = rw gives refl })
    flows inner deep (typed.binary operator left right) kind (of_binary {of = of} {next_to = next_to} left_is right_is gives) index there around item long kinds =
        two_go around index left right (Binary operator) kinds (of ∷ kinds) (next_to ∷ of ∷ kinds) (kind ∷ kinds) (flows inner deep left of left_is index there.0 around item long kinds)
        (flows inner deep right next_to right_is (index + operations left) there.1 around item long (of ∷ kinds)) there.2
        (record { plain = tt; has = enough (suc (suc (length kinds))) 2 (omega arith); gives = rw gives refl })
    flows inner deep (typed.both left right) kind (of_both left_is right_is) index there around item long kinds =
        first_skips around index left right (Jump jumps.And (index + operations left + 1 + operations right)) kinds (flows inner deep left boolean_kind left_is index there.0 around item long kinds) there.1 refl
        (flows inner deep right boolean_kind right_is (index + operations left + 1) there.2 around item long kinds)
    flows inner deep (typed.either left right) kind (of_either left_is right_is) index there around item long kinds =
        first_skips around index left right (Jump jumps.Or (index + operations left + 1 + operations right)) kinds (flows inner deep left boolean_kind left_is index there.0 around item long kinds) there.1 refl
        (flows inner deep right boolean_kind right_is (index + operations left + 1) there.2 around item long kinds)
    flows inner deep (typed.choice condition then_branch else_branch) kind (of_choice {left = left} {right = right} condition_is then_is else_is merged) index there around item long kinds =
        choice_proceeds around index condition then_branch else_branch left right kind kinds (flows inner deep condition boolean_kind condition_is index there.0 around item long kinds) there.1
        (flows inner deep then_branch left then_is (index + operations condition + 1) there.2 around item long kinds) there.3
        (flows inner deep else_branch right else_is (index + operations condition + 1 + operations then_branch + 1) there.4 around item long kinds) merged
    flows inner deep (typed.listed scalar items) kind (of_list all_are) index there around item long kinds =
        up_to around index (suc (index + operations_of_items items)) (index + (operations_of_items items + 1)) kinds (kind ∷ kinds) (after_one index (operations_of_items items))
        (items_flow inner deep items scalar all_are index there.0 around item long kinds (MakeList scalar (how_many items)) (kind ∷ kinds) there.1 (list_does code wanted around scalar (how_many items) kinds))
    flows inner deep (typed.predicate predicate list body) kind (of_predicate {max = max} {shape = shape} list_is within body_is) index there around item long kinds =
        loop_proceeds around index predicate list body shape max kinds (flows inner deep list (shaped (shapes.list shape max)) list_is index there.0 around item long kinds) (rw long within) there.1
        (flows (Some shape) (suc deep) body boolean_kind body_is (index + operations list + 1) there.2 (record { item = shape; most = max; below = kinds } ∷ around) refl (ap suc long) []) there.3

    items_flow : (inner : Option Shape) (deep : ℕ) (items : Typeds) (scalar : Scalar) → AllKinded wanted inner deep items scalar → (index : ℕ) → AreItemsAt code index items → (around : List Around) → innermost_shape around ≡ inner → length around ≡ deep → (kinds : List Kind)
        (op : Op) (given : List Kind) → At code wanted (index + operations_of_items items) op → Gives code wanted around op (copies code wanted around scalar (how_many items) kinds) given → Proceeds around index kinds (suc (index + operations_of_items items)) given
    items_flow inner deep typed.none scalar none index there around item long kinds op given at does = no_items_go around index kinds scalar op given at does
    items_flow inner deep (typed.more first others) scalar (one_more first_is others_are) index there around item long kinds op given at does =
        more_items_go around index first others kinds scalar op given (flows inner deep first (shaped (scalar_shape scalar)) first_is index there.0 around item long kinds)
        (λ at does. items_flow inner deep others scalar others_are (index + operations first) there.1 around item long (shaped (scalar_shape scalar) ∷ kinds) op given at does) at does

-- ---- conditions

too_deep : (reason : Reason) (index at : ℕ) → Fault index reason ≡ Fault at StackTooDeep → reason ≡ StackTooDeep
too_deep reason index at h = cc

-- the first fault of what is sent is that the operands are too many
found_in : (code : Code) (shape : Shape) (index : ℕ) (reason : Reason) (answer : Result (List Sent) Cause) → answer ≡ Err (Fault index reason) → flow.Answers code shape answer → reason ≡ StackTooDeep
found_in code shape index reason (Ok sents) h answers = absurd cc
found_in code shape index reason (Err cause) h answers = let same : cause ≡ Fault index reason = cc in too_deep reason index answers.0 (sym same ∙ answers.1)

kinded_fault : (shape : Shape) (condition : Typed) → Kinded shape None 0 condition boolean_kind → (index : ℕ) (reason : Reason) → IsFault (compiled condition) shape index reason → (reason ≡ StackTooDeep) ⊎ (reason ≡ BudgetTooLarge)
kinded_fault shape condition kinded index reason (inr expensive) = inr expensive.1
kinded_fault shape condition kinded index reason (inl fault) =
    let code = compiled condition in
    let is_there = compiled_is_at condition in
    let proceeds = flows code shape None 0 condition boolean_kind kinded 0 is_there.tree [] refl refl [] in
    let start : 0 + operations condition ≡ operations condition = omega arith in
    let whole_proceeds = up_to code shape [] 0 (0 + operations condition) (operations condition) [] (boolean_kind ∷ []) start proceeds in
    let long : length code.ops ≡ suc (operations condition) = compiled_length condition ∙ sym (add_one (operations condition)) in
    let indices = indices_are_well code.ops (operations condition) (block code shape whole_proceeds) is_there.end long in
    let arrive = all_arrive code shape (operations condition) whole_proceeds is_there.end long in
    let found : all_sent code shape ≡ Err (Fault index reason) = rw indices at fault in
    inl (found_in code shape index reason (all_sent code shape) found arrive)

-- the verifier refuses code of a checked condition only where a run of it may have too many operands or cost too much
pub compiled_accepted : (shape : Shape) (tree : Expression) (condition : Typed) → checked shape tree ≡ Ok condition → OnlyTooLarge (compiled condition) shape
compiled_accepted shape tree condition is =
    let kinded : IfOk (checked shape tree) (λ condition. Kinded shape None 0 condition boolean_kind) = checked_kinded shape tree in
    record { for = kinded_fault shape condition (rw is at kinded) }
