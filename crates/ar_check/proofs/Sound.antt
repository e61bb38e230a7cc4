-- A checked condition, on a value of its shape, is true or false or meets a fault.
use Rattle.std.proofs.Common.{◌≡◌, ℕ, suc, Bool, true, false, Option, Some, None, Ok, Err, IfOk, refl}
use Rattle.std.specs.Prelude.{◌∷◌, if◌then◌else◌, nat_lt}
use Rattle.ar_value.specs.declared.operator.UnaryOperator.TheVariants as unary
use Rattle.ar_value.specs.Answer.{◌>>=◌}
use Rattle.ar_value.specs.Fits.{fits}
use Rattle.ar_value.specs.Kind.{Kind, boolean_kind}
use Rattle.ar_value.specs.Shape.{Shape}
use Rattle.ar_value.specs.Value.{Value}
use Rattle.ar_value.specs.Value as values
use Rattle.ar_tree.specs.Expression.{Expression, Expressions, offset_of}
use Rattle.ar_tree.specs.Expression as trees
use Rattle.ar_check.specs.Check.{Answer, body_of, checked, choice_of, condition_of, default_of, predicate_entered, field_of, index_of, item_of, item_shape, items_typed, is_nil_literal, len_of, list_literal_of, no_scalar, over_items, predicate_of, given, typed_of, unary_of, binary_of}
use Rattle.ar_value.specs.Operators.{Meaning, faulted, ill_kinded}
use Rattle.ar_value.specs.Limits.{most_loops}
use Rattle.ar_tree.specs.Meaning.{IsBooleanOrFault, is_fault, is_boolean, mean}
use Rattle.ar_check.specs.Operand.{Operand, unwrapped, plain_of}
use Rattle.ar_check.specs.Operand as operands
use Rattle.ar_tree.specs.Typed.{Typed}
use Rattle.ar_tree.specs.Typed as typed
use Rattle.ar_check.specs.declared.error.TypeError.TheVariants.{NotTruth, PredicatesTooDeep}
use Rattle.ar_check.proofs.Means.{MeansKind, IsThere, Sound, answers, answers_each}
use Rattle.ar_check.proofs.Operands.{is_scalar, is_true, item_sound, literal_sound}
use Rattle.ar_check.proofs.Parts.{ListOf, field_sound, index_sound, is_list, len_sound}
use Rattle.ar_check.proofs.OperatorKinds.{binary_sound, is_nil_means, unary_sound}
use Rattle.ar_check.proofs.Branches.{choice_sound, default_sound}
use Rattle.ar_check.proofs.Lists.{ItemsMean, list_sound}
use Rattle.ar_check.proofs.Predicates.{Body, predicate_sound}
use Rattle.ar_check.specs.Private.Inside.{side_by}

-- ---- one more predicate keeps the shape of its items

-- a predicate is entered, or too deep
by_depth : (at : ℕ) (shape : Shape) (less : Bool) → IfOk (if less then Ok shape else Err (PredicatesTooDeep at)) (λ inside. inside ≡ shape)
by_depth at shape true = refl
by_depth at shape false = tt

-- what is entered are the items' shape
entered_same : (at around : ℕ) (shape : Shape) → IfOk (predicate_entered at around shape) (λ inside. inside ≡ shape)
entered_same at around shape = by_depth at shape (nat_lt around most_loops)

-- ---- trees

module _ (wanted : Shape) (result : Value) (fit : fits result wanted ≡ true) where
  -- of each item, what a body means
  abbrev Each : Shape → Operand → Type 0
  Each shape body = (v : Value) → fits v shape ≡ true → Sound result (Some v) body

  -- a body, unwrapped, where it means its kind for each item
  body_made : (kind : Kind) (shape : Shape) (of : ListOf kind shape) (body : Operand) → Each shape body → Body result kind (operands.is_boolean body, unwrapped body)
  body_made kind shape of body each = (shape, of, λ is v fit. is_true result (Some v) body (each v fit) is)

  -- what holds of the items of a list, where a body means its kind for each item
  over_sound : (at around : ℕ) (kind : Kind) (typed : Shape → Answer) → ((shape : Shape) → IfOk (typed shape) (Each shape)) → IfOk (over_items at around kind typed) (Body result kind)
  unfolding over_items
  over_sound at around kind typed sound =
      answers (ListOf kind) (Body result kind) (item_shape at (plain_of kind)) (λ shape. predicate_entered at around shape >>= λ inside. typed inside >>= body_of) (is_list at kind)
      (λ shape of. answers (λ inside. inside ≡ shape) (Body result kind) (predicate_entered at around shape) (λ inside. typed inside >>= body_of) (entered_same at around shape)
      (λ inside same. answers (Each inside) (Body result kind) (typed inside) body_of (sound inside) (λ body each. body_made kind shape of body (rw same at each))))

  mutual
    -- a tree that was typed means its kind
    tree_sound : (item : Option Shape) (here : Option Value) → IsThere item here → (around : ℕ) (tree : Expression) → IfOk (typed_of wanted item around tree) (Sound result here)
    tree_sound item here there around (trees.ResultAt at) = fit
    tree_sound item here there around (trees.ItemAt at) = item_sound result here at item there
    tree_sound item here there around (trees.LiteralAt at literal) = literal_sound result here literal
    tree_sound item here there around (trees.FieldAt at whole name) =
        answers _ _ (typed_of wanted item around whole) (field_of at name) (tree_sound item here there around whole) (field_sound result here at name)
    tree_sound item here there around (trees.IndexAt at list index) =
        answers _ _ (typed_of wanted item around list) (λ first. typed_of wanted item around index >>= index_of at first) (tree_sound item here there around list)
        (λ first h. answers _ _ (typed_of wanted item around index) (index_of at first) (tree_sound item here there around index) (λ second k. index_sound result here at first second h k))
    tree_sound item here there around (trees.UnaryAt at operator operand) =
        answers _ _ (typed_of wanted item around operand) (unary_of at operator) (tree_sound item here there around operand) (unary_sound result here at operator)
    tree_sound item here there around (trees.BinaryAt at operator left right) =
        answers _ _ (typed_of wanted item around left) (λ first. typed_of wanted item around right >>= binary_of at operator (side_by (is_nil_literal left) (is_nil_literal right)) first)
        (tree_sound item here there around left)
        (λ first h. answers _ _ (typed_of wanted item around right) (binary_of at operator (side_by (is_nil_literal left) (is_nil_literal right)) first) (tree_sound item here there around right)
        (λ second k. binary_sound result here at operator (is_nil_literal left) (is_nil_literal right) first second h k))
    tree_sound item here there around (trees.ChoiceAt at condition then_branch else_branch) =
        answers _ _ (typed_of wanted item around condition) (λ a. typed_of wanted item around then_branch >>= λ b. typed_of wanted item around else_branch >>= choice_of at a b) (tree_sound item here there around condition)
        (λ a h. answers _ _ (typed_of wanted item around then_branch) (λ b. typed_of wanted item around else_branch >>= choice_of at a b) (tree_sound item here there around then_branch)
        (λ b k. answers _ _ (typed_of wanted item around else_branch) (choice_of at a b) (tree_sound item here there around else_branch) (λ c l. choice_sound result here at a b c h k l)))
    tree_sound item here there around (trees.ListAt at items) =
        answers _ _ (items_typed wanted item around items) (λ items. list_literal_of at items (no_scalar items)) (items_sound item here there around items)
        (λ items h. list_sound result here at items (no_scalar items) h)
    tree_sound item here there around (trees.LenAt at list) =
        answers _ _ (typed_of wanted item around list) (len_of at) (tree_sound item here there around list) (len_sound result here at)
    tree_sound item here there around (trees.IsNilAt at operand) =
        answers _ _ (typed_of wanted item around operand) (λ operand. given (typed.unary unary.IsNil operand.tree) boolean_kind) (tree_sound item here there around operand)
        (λ operand h. is_nil_means result here operand.kind operand.tree h)
    tree_sound item here there around (trees.DefaultAt at operand otherwise) =
        answers _ _ (typed_of wanted item around operand) (λ first. typed_of wanted item around otherwise >>= default_of at first) (tree_sound item here there around operand)
        (λ first h. answers _ _ (typed_of wanted item around otherwise) (default_of at first) (tree_sound item here there around otherwise) (λ second k. default_sound result here at first second h k))
    tree_sound item here there around (trees.PredicateAt at predicate list body) =
        answers _ _ (typed_of wanted item around list) (λ list. over_items at around list.kind (λ shape. typed_of wanted (Some shape) (suc around) body) >>= λ body. predicate_of at predicate list body.0 body.1)
        (tree_sound item here there around list)
        (λ list h. answers (Body result list.kind) _ (over_items at around list.kind (λ shape. typed_of wanted (Some shape) (suc around) body)) (λ body. predicate_of at predicate list body.0 body.1)
        (over_sound at around list.kind (λ shape. typed_of wanted (Some shape) (suc around) body)
        (λ inside. answers_each (λ v. fits v inside ≡ true) (λ v. Sound result (Some v)) (typed_of wanted (Some inside) (suc around) body) (λ v fit. tree_sound (Some inside) (Some v) fit (suc around) body)))
        (λ body says. predicate_sound result here at predicate list body h says))

    -- so does each item of a list literal
    items_sound : (item : Option Shape) (here : Option Value) → IsThere item here → (around : ℕ) (items : Expressions) → IfOk (items_typed wanted item around items) (ItemsMean result here)
    items_sound item here there around trees.none = tt
    items_sound item here there around (trees.more first others) =
        answers _ (ItemsMean result here) (typed_of wanted item around first) (λ operand. items_typed wanted item around others >>= λ items. Ok (item_of (offset_of first) operand ∷ items))
        (tree_sound item here there around first)
        (λ operand h. answers (ItemsMean result here) (ItemsMean result here) (items_typed wanted item around others) (λ items. Ok (item_of (offset_of first) operand ∷ items))
        (items_sound item here there around others) (λ items rest. (is_scalar result here operand h, rest)))

-- ---- conditions

-- what has the kind of booleans is one, or a fault
boolean_or_fault : (m : Meaning) → MeansKind boolean_kind m → IsBooleanOrFault m
boolean_or_fault (Ok (values.bool holds)) h = is_boolean holds
boolean_or_fault (Ok v) h = absurd (cc)
boolean_or_fault (Err (faulted fault)) h = is_fault fault
boolean_or_fault (Err ill_kinded) h = absurd h

-- an operand that is a condition, unwrapped
condition_means : (value : Value) (at : ℕ) (operand : Operand) (is_boolean : Bool) → operands.is_boolean operand ≡ is_boolean → Sound value None operand
    → IfOk (if is_boolean then Ok (unwrapped operand) else Err (NotTruth at)) (λ condition. MeansKind boolean_kind (mean value None condition))
condition_means value at operand true is h = is_true value None operand h is
condition_means value at operand false is h = tt

-- what is checked is a boolean, or a fault
checked_means : (shape : Shape) (tree : Expression) (value : Value) → fits value shape ≡ true → IfOk (checked shape tree) (λ condition. MeansKind boolean_kind (mean value None condition))
checked_means shape tree value fit =
    answers _ _ (typed_of shape None 0 tree) (condition_of (offset_of tree)) (tree_sound shape value fit None None tt 0 tree)
    (λ operand h. condition_means value (offset_of tree) operand (operands.is_boolean operand) refl h)

-- a checked condition, on a value of its shape, is true or false or meets a fault
pub is_boolean_or_fault : (shape : Shape) (tree : Expression) (condition : Typed) (value : Value)
    → checked shape tree ≡ Ok condition → fits value shape ≡ true → IsBooleanOrFault (mean value None condition)
is_boolean_or_fault shape tree condition value is fit =
    let means : IfOk (checked shape tree) (λ condition. MeansKind boolean_kind (mean value None condition)) = checked_means shape tree value fit in
    boolean_or_fault (mean value None condition) (rw is at means)
