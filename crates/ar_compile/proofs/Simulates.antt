-- The machine on the code of a tree evaluates to what the tree means.
use Rattle.std.proofs.Common.{◌≡◌, ℕ, suc, ◌+◌, ◌≤◌, Bool, true, List, ◌∷◌, length, Option, Some, Result, Ok, refl, sym, ap, subst, arith}
use Rattle.ar_value.specs.Answer.{◌>>=◌}
use Rattle.ar_value.specs.Fits.{fits}
use Rattle.ar_value.specs.Kind.{Kind, shaped, scalar_shape, boolean_kind}
use Rattle.ar_value.specs.Operators.{Failure, Meaning, field_in, ill_kinded, items_in, unary_meaning, scalar_item, boolean}
use Rattle.ar_value.specs.Answer.{there_or}
use Rattle.ar_value.specs.Shape.{Shape}
use Rattle.ar_value.specs.Shape as shapes
use Rattle.ar_value.specs.Value.{Value, Items, count, item}
use Rattle.ar_value.specs.Value as values
use Rattle.ar_value.specs.declared.fault.Fault.{Fault}
use Rattle.ar_value.specs.declared.operator.Predicate.{Predicate}
use Rattle.ar_value.specs.declared.operator.Scalar.{Scalar}
use Rattle.ar_tree.specs.Meaning.{items_mean, mean, over}
use Rattle.ar_tree.specs.Typed.{Typed, Typeds, how_many}
use Rattle.ar_tree.specs.Typed as typed
use Rattle.ar_tree.specs.declared.tree.Literal.{Literal}
use Rattle.ar_tree.specs.declared.tree.Literal.TheVariants as literals
use Rattle.ar_check.proofs.Means.{IsThere, MeansKind}
use Rattle.ar_check.proofs.Operands.{on_list}
use Rattle.ar_op.specs.Code.{Code}
use Rattle.ar_op.specs.Machine.{Loop, floor, here}
use Rattle.ar_op.specs.declared.op.Op.TheVariants.{Push, MakeList, Field, Unary, Enter, Step}
use Rattle.ar_op.specs.declared.op.Source.TheVariants as sources
use Rattle.ar_compile.specs.Length.{operations, operations_of_items}
use Rattle.ar_compile.specs.Private.Kinded.{Kinded, AllKinded, of_field, of_unary, of_binary, of_both, of_either, of_choice, of_list, of_predicate, one_more}
use Rattle.ar_compile.specs.Private.Standing.{At, AreItemsAt, IsAt, IsLiteralAt}
use Rattle.ar_compile.proofs.Loops.{runs_over}
use Rattle.ar_compile.proofs.Nodes.{LeadsTo, Reached, Runs, add_one, leads_fit, moved, of_none, of_one, of_two, reached_at, room_for_one, room_more}
use Rattle.ar_compile.proofs.Nodes as nodes
use Rattle.ar_compile.proofs.Scalars.{AllScalar, made_whole, pushed, pushed_length, scalar_fits}
use Rattle.ar_compile.proofs.Steps.{Leads, by_op, by_value, leads_bind, leads_more}

count_room : (floor held many : ℕ) → floor ≤ held → floor + many ≤ many + held
count_room floor held many room = omega (arith, room)

none_above : (n : ℕ) → n ≤ n
none_above n = omega arith

none_after : (index : ℕ) → index ≡ index + 0
none_after index = omega arith

after_first : (index m n : ℕ) → index + m + n ≡ index + (m + n)
after_first index m n = omega arith

after_items : (index m : ℕ) → index + (m + 1) ≡ suc (index + m)
after_items index m = omega arith

after_loop : (index m n : ℕ) → index + (m + 1 + n + 1) ≡ suc (index + m + 1 + n)
after_loop index m n = omega arith

module _ (code : Code) (wanted : Shape) (result : Value) (answer : Result Bool Fault)
    (means : (item : Option Shape) (at_hand : Option Value) → IsThere item at_hand → (around : ℕ) (tree : Typed) (kind : Kind) → Kinded wanted item around tree kind → MeansKind kind (mean result at_hand tree)) where
  abbrev Simulates : (index : ℕ) → Typed → List Loop → Type 0
  Simulates index tree loops = Runs code result answer index tree loops

  -- ---- literals and fields

  literal_runs : (literal : Literal) (index : ℕ) (loops : List Loop) → IsLiteralAt code index literal → Simulates index (typed.literal literal) loops
  literal_runs literals.Nil index loops there = of_none code result answer index loops (Push sources.Nil) (Ok values.nil) there refl (λ s. refl) (λ operands. refl)
  literal_runs (literals.Bool b) index loops there = of_none code result answer index loops (Push (sources.Bool b)) (Ok (values.bool b)) there refl (λ s. refl) (λ operands. refl)
  literal_runs (literals.Whole value) index loops there = of_none code result answer index loops (Push (sources.Whole value)) (Ok (values.whole value)) there refl (λ s. refl) (λ operands. refl)
  literal_runs (literals.Decimal millionths) index loops there = of_none code result answer index loops (Push (sources.Decimal millionths)) (Ok (values.decimal millionths)) there refl (λ s. refl) (λ operands. refl)
  literal_runs (literals.Text letters) index loops there =
      of_none code result answer index loops (Push (sources.Text there.0)) (Ok (values.text letters)) there.1 refl (λ s. refl) (λ operands. rw there.2 refl)

  -- ---- items of a list literal

  -- items lead to what holds where each was pushed
  abbrev LeadItems : Result Items Failure → Scalar → ℕ → (index : ℕ) → List Value → List Loop → Type 0
  LeadItems m scalar many index operands loops =
      Leads code result answer m (λ vs. AllScalar scalar vs → count vs ≡ many → Reached code result answer index (pushed vs operands) loops)

  abbrev RunItems : (index : ℕ) → Typeds → Scalar → List Loop → Type 0
  RunItems index items scalar loops =
      (operands : List Value) → floor loops ≤ length operands → LeadItems (items_mean result (here loops) items) scalar (how_many items) (index + operations_of_items items) operands loops
      → Reached code result answer index operands loops

  -- one item, and the others above it
  first_item : (index : ℕ) (first : Typed) (others : Typeds) (scalar : Scalar) (loops : List Loop) → Simulates index first loops → MeansKind (shaped (scalar_shape scalar)) (mean result (here loops) first)
      → RunItems (index + operations first) others scalar loops → RunItems index (typed.more first others) scalar loops
  first_item index first others scalar loops runs fit run_others operands room leads =
      let end = index + (operations first + operations_of_items others) in
      let m = items_mean result (here loops) others in
      let next = λ (v : Value). scalar_item v >>= λ s. m >>= λ vs. Ok (item s vs) in
      let Goal = λ (vs : Items). AllScalar scalar vs → count vs ≡ suc (how_many others) → Reached code result answer end (pushed vs operands) loops in
      runs operands room
      (leads_fit code result answer (shaped (scalar_shape scalar)) (mean result (here loops) first) (λ v. Leads code result answer (next v) Goal) (λ v. Reached code result answer (index + operations first) (v ∷ operands) loops) fit
      (λ v fits h. let of = scalar_fits scalar v fits in
      run_others (v ∷ operands) (room_more (floor loops) (length operands) room)
      (leads_more code result answer m (λ vs. Goal (item v vs)) (λ vs. AllScalar scalar vs → count vs ≡ how_many others → Reached code result answer (index + operations first + operations_of_items others) (pushed vs (v ∷ operands)) loops)
      (λ vs is k. λ all many. reached_at code result answer end (index + operations first + operations_of_items others) (pushed vs (v ∷ operands)) loops (sym (after_first index (operations first) (operations_of_items others))) (k (of.0, all) (ap suc many)))
      (leads_bind code result answer m (λ vs. Ok (item v vs)) Goal (subst (λ (r : Meaning). Leads code result answer (r >>= λ s. m >>= λ vs. Ok (item s vs)) Goal) of.1 h))))
      (leads_bind code result answer (mean result (here loops) first) next Goal leads))

  -- a list literal
  list_runs : (index : ℕ) (scalar : Scalar) (items : Typeds) (loops : List Loop) → RunItems index items scalar loops → At code (index + operations_of_items items) (MakeList scalar (how_many items))
      → Simulates index (typed.listed scalar items) loops
  list_runs index scalar items loops runs there operands room leads =
      let m = items_mean result (here loops) items in
      let end = index + (operations_of_items items + 1) in
      let p = index + operations_of_items items in
      runs operands room
      (leads_more code result answer m (λ vs. Reached code result answer end (values.list vs ∷ operands) loops) (λ vs. AllScalar scalar vs → count vs ≡ how_many items → Reached code result answer p (pushed vs operands) loops)
      (λ vs is h. λ all many. by_value code result answer (MakeList scalar (how_many items)) p (pushed vs operands) operands loops (Ok (values.list vs)) there
      (rw (pushed_length vs operands, many) (count_room (floor loops) (length operands) (how_many items) room)) (λ s. refl) (made_whole scalar vs (how_many items) operands all many)
      (reached_at code result answer end (suc p) (values.list vs ∷ operands) loops (after_items index (operations_of_items items)) h))
      (leads_bind code result answer m (λ vs. Ok (values.list vs)) (λ v. Reached code result answer end (v ∷ operands) loops) leads))

  -- ---- predicates

  over_items : (index step : ℕ) (predicate : Predicate) (body : Typed) (shape : Shape) (max : ℕ) (loops : List Loop) → At code index (Enter predicate step) → At code step (Step predicate index)
      → ((loop : Loop) → fits loop.here shape ≡ true → Simulates (index + 1) body (loop ∷ loops)) → index + 1 + operations body ≡ step
      → ((v : Value) → fits v shape ≡ true → MeansKind boolean_kind (mean result (Some v) body))
      → (v : Value) → fits v (shapes.list shape max) ≡ true → (operands : List Value) → floor loops ≤ length operands
      → LeadsTo code result answer (items_in v >>= over predicate (λ value. mean result (Some value) body >>= boolean)) (suc step) operands loops → Reached code result answer index (v ∷ operands) loops
  over_items index step predicate body shape max loops begins steps runs is says v fit operands room leads =
      on_list
      (λ v. LeadsTo code result answer (items_in v >>= over predicate (λ value. mean result (Some value) body >>= boolean)) (suc step) operands loops → Reached code result answer index (v ∷ operands) loops) shape max
      (λ items short all. λ h. by_op code result answer (Enter predicate step) index (values.list items ∷ operands) loops begins (room_for_one 1 (floor loops) (length operands) refl room)
      (λ cost. runs_over code result answer body index step operands loops predicate shape begins steps
      (λ loop floor fit h. reached_at code result answer (index + 1) (suc index) operands (loop ∷ loops) (add_one index)
      (runs loop fit operands (rw floor (none_above (length operands))) (moved code result answer (mean result (Some loop.here) body) step (index + 1 + operations body) operands (loop ∷ loops) (sym is) h)))
      says items cost all h)) v fit leads

  predicate_runs : (index : ℕ) (predicate : Predicate) (list body : Typed) (shape : Shape) (max : ℕ) (loops : List Loop) → Simulates index list loops
      → At code (index + operations list) (Enter predicate (index + operations list + 1 + operations body)) → At code (index + operations list + 1 + operations body) (Step predicate (index + operations list))
      → ((loop : Loop) → fits loop.here shape ≡ true → Simulates (index + operations list + 1) body (loop ∷ loops)) → MeansKind (shaped (shapes.list shape max)) (mean result (here loops) list)
      → ((v : Value) → fits v shape ≡ true → MeansKind boolean_kind (mean result (Some v) body)) → Simulates index (typed.predicate predicate list body) loops
  predicate_runs index predicate list body shape max loops runs begins steps runs_body fit says operands room leads =
      let p = index + operations list in
      let step = p + 1 + operations body in
      let tree = typed.predicate predicate list body in
      let next = λ (v : Value). items_in v >>= over predicate (λ value. mean result (Some value) body >>= boolean) in
      runs operands room
      (leads_fit code result answer (shaped (shapes.list shape max)) (mean result (here loops) list) (λ v. LeadsTo code result answer (next v) (suc step) operands loops) (λ v. Reached code result answer p (v ∷ operands) loops) fit
      (λ v fits h. over_items p step predicate body shape max loops begins steps runs_body refl says v fits operands room h)
      (leads_bind code result answer (mean result (here loops) list) next (λ v. Reached code result answer (suc step) (v ∷ operands) loops)
      (moved code result answer (mean result (here loops) tree) (index + operations tree) (suc step) operands loops (after_loop index (operations list) (operations body)) leads)))

  -- ---- trees

  mutual
    pub runs : (inner : Option Shape) (around : ℕ) (tree : Typed) (kind : Kind) → Kinded wanted inner around tree kind → (index : ℕ) → IsAt code index tree → (loops : List Loop) → IsThere inner (here loops) → Simulates index tree loops
    runs inner around typed.result kind is index there loops fit = of_none code result answer index loops (Push sources.Result) (Ok result) there refl (λ s. refl) (λ operands. refl)
    runs inner around typed.item kind is index there loops fit = of_none code result answer index loops (Push sources.Item) (there_or ill_kinded (here loops)) there refl (λ s. refl) (λ operands. refl)
    runs inner around (typed.literal literal) kind is index there loops fit = literal_runs literal index loops there
    runs inner around (typed.field owner name) kind (of_field {shape = shape} {fields = fields} owner_is named) index there loops fit =
        of_one code result answer index loops owner (Field there.1.0) (field_in name) (runs inner around owner (shaped (shapes.object fields)) owner_is index there.0 loops fit) there.1.1 refl (λ s. refl)
        (λ v operands. rw there.1.2 refl)
    runs inner around (typed.unary operator operand) kind (of_unary {of = of} operand_is gives) index there loops fit =
        of_one code result answer index loops operand (Unary operator) (unary_meaning operator) (runs inner around operand of operand_is index there.0 loops fit) there.1 refl (λ s. refl) (λ v operands. refl)
    runs inner around (typed.binary operator left right) kind (of_binary {of = of} {next_to = next_to} left_is right_is gives) index there loops fit =
        of_two code result answer index loops left right operator (runs inner around left of left_is index there.0 loops fit) (runs inner around right next_to right_is (index + operations left) there.1 loops fit) there.2
    runs inner around (typed.both left right) kind (of_both left_is right_is) index there loops fit =
        nodes.of_both code result answer index loops left right (runs inner around left boolean_kind left_is index there.0 loops fit) there.1
        (runs inner around right boolean_kind right_is (index + operations left + 1) there.2 loops fit) (means inner (here loops) fit around left boolean_kind left_is)
    runs inner around (typed.either left right) kind (of_either left_is right_is) index there loops fit =
        nodes.of_either code result answer index loops left right (runs inner around left boolean_kind left_is index there.0 loops fit) there.1
        (runs inner around right boolean_kind right_is (index + operations left + 1) there.2 loops fit) (means inner (here loops) fit around left boolean_kind left_is)
    runs inner around (typed.choice condition then_branch else_branch) kind (of_choice {left = left} {right = right} condition_is then_is else_is merged) index there loops fit =
        nodes.of_choice code result answer index loops condition then_branch else_branch (runs inner around condition boolean_kind condition_is index there.0 loops fit) there.1
        (runs inner around then_branch left then_is (index + operations condition + 1) there.2 loops fit) there.3
        (runs inner around else_branch right else_is (index + operations condition + 1 + operations then_branch + 1) there.4 loops fit) (means inner (here loops) fit around condition boolean_kind condition_is)
    runs inner around (typed.listed scalar items) kind (of_list all_are) index there loops fit =
        list_runs index scalar items loops (items_run inner around items scalar all_are index there.0 loops fit) there.1
    runs inner around (typed.predicate predicate list body) kind (of_predicate {max = max} {shape = shape} list_is within body_is) index there loops fit =
        predicate_runs index predicate list body shape max loops (runs inner around list (shaped (shapes.list shape max)) list_is index there.0 loops fit) there.1 there.3
        (λ loop fits. runs (Some shape) (suc around) body boolean_kind body_is (index + operations list + 1) there.2 (loop ∷ loops) fits)
        (means inner (here loops) fit around list (shaped (shapes.list shape max)) list_is) (λ v fits. means (Some shape) (Some v) fits (suc around) body boolean_kind body_is)

    items_run : (inner : Option Shape) (around : ℕ) (items : Typeds) (scalar : Scalar) → AllKinded wanted inner around items scalar → (index : ℕ) → AreItemsAt code index items → (loops : List Loop) → IsThere inner (here loops)
        → RunItems index items scalar loops
    items_run inner around typed.none scalar is index there loops fit = λ operands room leads. reached_at code result answer (index + 0) index operands loops (sym (none_after index)) (leads tt refl)
    items_run inner around (typed.more first others) scalar (one_more first_is others_are) index there loops fit =
        first_item index first others scalar loops (runs inner around first (shaped (scalar_shape scalar)) first_is index there.0 loops fit)
        (means inner (here loops) fit around first (shaped (scalar_shape scalar)) first_is) (items_run inner around others scalar others_are (index + operations first) there.1 loops fit)
