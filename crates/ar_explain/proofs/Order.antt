-- The lines that say values and failures are in the order of the trace's entries.
use Rattle.std.proofs.Common.{◌≡◌, ℕ, Bool, true, false, List, Option, Some, refl, ap, sym, ◌∙◌, subst, inl, inr}
use Rattle.std.specs.Prelude.{◌==◌, ◌++◌, if◌then◌else◌, suc, ◌∷◌, [], Result, Ok, Err}
use Rattle.std.proofs.lemmas.List.Elements.{filter-append}
use Rattle.ar_value.specs.Answer.{◌>>=◌}
use Rattle.ar_value.specs.Operators.{Failure, boolean, items_in, scalar_item}
use Rattle.ar_value.specs.Value.{Value, Items, no_items, item}
use Rattle.ar_value.specs.declared.operator.Predicate.{Predicate}
use Rattle.ar_value.specs.declared.operator.UnaryOperator.{UnaryOperator}
use Rattle.ar_tree.specs.Meaning.{mean}
use Rattle.ar_tree.specs.Typed.{Typed, Typeds}
use Rattle.ar_tree.specs.Typed as typed
use Rattle.ar_explain.specs.Operands.{apart_on}
use Rattle.ar_explain.specs.Lines.{Line, Seen, after_item, body_lines, each_item_lines, earlier_lines, gap_lines, has_own_line, is_empty, is_missing, is_shown, items_lines, all_lines, lines_on_item, none_seen, operand_own_lines, own_line, passed_line, unneeded_line, with_own}
use Rattle.ar_explain.specs.Operands.{failed_on}
use Rattle.ar_explain.specs.Sources.{SayInOrder, Says, lines_of_meanings, says_meaning}
use Rattle.ar_explain.specs.Trace.{TraceEntry, continues, each_item, if_value, in_child, items_trace, on_item, root_entry, trace}
use Rattle.ar_explain.proofs.Sources.{says_in_child, says_on_item}

module _ (result : Value) where
  abbrev Order : List TraceEntry → List Line → Type 0
  Order entries lines = SayInOrder result entries (lines_of_meanings lines)

  -- ---- lines that are said

  nothing : (entries : List TraceEntry) → SayInOrder result entries []
  nothing [] = tt
  nothing (entry ∷ entries) = tt

  past : (entry : TraceEntry) (entries : List TraceEntry) (lines : List Line) → SayInOrder result entries lines → SayInOrder result (entry ∷ entries) lines
  past entry entries [] order = tt
  past entry entries (line ∷ lines) order = inr order

  one_after_another : (entries later : List TraceEntry) (lines more : List Line) → SayInOrder result entries lines → SayInOrder result later more
      → SayInOrder result (entries ++ later) (lines ++ more)
  one_after_another [] later [] more order others = others
  one_after_another [] later (line ∷ lines) more order others = absurd order
  one_after_another (entry ∷ entries) later [] more order others = past entry (entries ++ later) more (one_after_another entries later [] more (nothing entries) others)
  one_after_another (entry ∷ entries) later (line ∷ lines) more (inl order) others = inl (order.0, one_after_another entries later lines more order.1 others)
  one_after_another (entry ∷ entries) later (line ∷ lines) more (inr order) others = inr (one_after_another entries later (line ∷ lines) more order others)

  child_in_order : (number : ℕ) (entries : List TraceEntry) (lines : List Line) → SayInOrder result entries lines → SayInOrder result (in_child number entries) lines
  child_in_order number [] [] order = tt
  child_in_order number [] (line ∷ lines) order = absurd order
  child_in_order number (entry ∷ entries) [] order = tt
  child_in_order number (entry ∷ entries) (line ∷ lines) (inl order) = inl (says_in_child result number entry line order.0, child_in_order number entries lines order.1)
  child_in_order number (entry ∷ entries) (line ∷ lines) (inr order) = inr (child_in_order number entries (line ∷ lines) order)

  item_in_order : (number : ℕ) (entries : List TraceEntry) (lines : List Line) → SayInOrder result entries lines → SayInOrder result (on_item number entries) (lines_on_item number lines)
  item_in_order number [] [] order = tt
  item_in_order number [] (line ∷ lines) order = absurd order
  item_in_order number (entry ∷ entries) [] order = tt
  item_in_order number (entry ∷ entries) (line ∷ lines) (inl order) = inl (says_on_item result number entry line order.0, item_in_order number entries lines order.1)
  item_in_order number (entry ∷ entries) (line ∷ lines) (inr order) = inr (item_in_order number entries (line ∷ lines) order)

  -- ---- the same of all lines

  two : (entries later : List TraceEntry) (lines more : List Line) → Order entries lines → Order later more → Order (entries ++ later) (lines ++ more)
  two entries later lines more order others =
      subst (λ lines. SayInOrder result (entries ++ later) lines) (sym (filter-append (λ (line : Line). says_meaning line.said) lines more))
      (one_after_another entries later (lines_of_meanings lines) (lines_of_meanings more) order others)

  -- a line that says neither a value nor a failure, at the end
  then_another : (entries : List TraceEntry) (lines : List Line) (tree : Typed) → Order entries lines → Order entries (lines ++ unneeded_line tree ∷ [])
  then_another entries lines tree order =
      subst (λ more. SayInOrder result entries more) (sym (filter-append (λ (line : Line). says_meaning line.said) lines (unneeded_line tree ∷ []) ∙ ends (lines_of_meanings lines))) order where
        ends : (lines : List Line) → lines ++ [] ≡ lines
        ends [] = refl
        ends (line ∷ lines) = ap (λ lines. line ∷ lines) (ends lines)

  meanings_on_item : (number : ℕ) (lines : List Line) → lines_of_meanings (lines_on_item number lines) ≡ lines_on_item number (lines_of_meanings lines)
  meanings_on_item number [] = refl
  meanings_on_item number (line ∷ lines) = by (says_meaning line.said) refl (meanings_on_item number lines) where
    by : (says : Bool) → says_meaning line.said ≡ says → lines_of_meanings (lines_on_item number lines) ≡ lines_on_item number (lines_of_meanings lines)
        → lines_of_meanings (lines_on_item number (line ∷ lines)) ≡ lines_on_item number (lines_of_meanings (line ∷ lines))
    by true is same = rw is (ap (λ lines. record line { items = number ∷ line.items } ∷ lines) same)
    by false is same = rw is same

  on_one_item : (number : ℕ) (entries : List TraceEntry) (lines : List Line) → Order entries lines → Order (on_item number entries) (lines_on_item number lines)
  on_one_item number entries lines order =
      subst (λ lines. SayInOrder result (on_item number entries) lines) (sym (meanings_on_item number lines)) (item_in_order number entries (lines_of_meanings lines) order)

  after_value : {A : Type 0} (m : Result A Failure) (entries : A → List TraceEntry) (lines : A → List Line) → ((value : A) → Order (entries value) (lines value))
      → Order (if_value m entries) (if_value m lines)
  after_value (Ok value) entries lines order = order value
  after_value (Err failure) entries lines order = tt

  by_test : (holds : Bool) (entries others : List TraceEntry) (lines more : List Line) → Order entries lines → Order others more
      → Order (if holds then entries else others) (if holds then lines else more)
  by_test true entries others lines more order rest = order
  by_test false entries others lines more order rest = rest

  -- ---- own lines

  one_line : (entry : TraceEntry) (line : Line) → Says result entry line → Order (entry ∷ []) (line ∷ [])
  one_line entry line says = by (says_meaning line.said) refl where
    by : (is : Bool) → says_meaning line.said ≡ is → Order (entry ∷ []) (line ∷ [])
    by true is = rw is (inl (says, tt))
    by false is = rw is tt

  where_said : (entries : List TraceEntry) (lines : List Line) (is : Bool) → Order entries lines → Order entries (if is then lines else [])
  where_said entries lines true order = order
  where_said entries lines false order = nothing entries

  unless_said : (entries : List TraceEntry) (lines : List Line) (is : Bool) → Order entries lines → Order entries (if is then [] else lines)
  unless_said entries lines true order = nothing entries
  unless_said entries lines false order = order

  -- the entries before a tree's own have the lines before its own
  abbrev InOrder : Option Value → Typed → Type 0
  InOrder here tree = (earlier : List TraceEntry) × (trace result here tree ≡ earlier ++ root_entry result here tree ∷ []) × Order earlier (earlier_lines result here tree)

  own_said : (here : Option Value) (tree : Typed) → Order (root_entry result here tree ∷ []) (own_line tree (mean result here tree) (failed_on result here tree) (apart_on result here tree) ∷ [])
  own_said here tree =
      one_line (root_entry result here tree) (own_line tree (mean result here tree) (failed_on result here tree) (apart_on result here tree)) (record { of_part = refl; on_items = refl; of_meaning = refl })

  with_root_line : (here : Option Value) (tree : Typed) (own : List Line) → InOrder here tree → Order (root_entry result here tree ∷ []) own
      → Order (trace result here tree) (earlier_lines result here tree ++ own)
  with_root_line here tree own order said =
      subst (λ entries. Order entries (earlier_lines result here tree ++ own)) (sym order.1)
      (two order.0 (root_entry result here tree ∷ []) (earlier_lines result here tree) own order.2 said)

  of_part : (here : Option Value) (tree : Typed) → InOrder here tree → Order (trace result here tree) (with_own result here tree (earlier_lines result here tree))
  of_part here tree order =
      with_root_line here tree _ order (where_said (root_entry result here tree ∷ []) _ (has_own_line tree (mean result here tree)) (own_said here tree))

  of_operand : (here : Option Value) (operator : UnaryOperator) (tree : Typed) → InOrder here tree
      → Order (trace result here tree) (earlier_lines result here tree ++ operand_own_lines operator tree (mean result here tree) (failed_on result here tree) (apart_on result here tree))
  of_operand here operator tree order =
      with_root_line here tree _ order
      (unless_said (root_entry result here tree ∷ []) _ (is_missing operator (mean result here tree))
      (where_said (root_entry result here tree ∷ []) _ (has_own_line tree (mean result here tree)) (own_said here tree)))

  -- ---- items of predicates

  after_gap : (entries : List TraceEntry) (lines : List Line) (body : Typed) (seen : Seen) (none : Bool) → Order entries lines
      → Order entries ((if none then [] else passed_line body seen.items seen.held ∷ []) ++ lines)
  after_gap entries lines body seen true order = order
  after_gap entries lines body seen false order = order

  each_in_order : (predicate : Predicate) (body : Typed) (holds : Value → Result Bool Failure) (entries : Value → List TraceEntry) (said : Value → List Line)
      → ((value : Value) → Order (entries value) (said value)) → (seen : Seen) (number : ℕ) (items : Items)
      → Order (each_item predicate holds entries number items) (each_item_lines predicate body holds said seen number items)
  each_in_order predicate body holds entries said order seen number no_items = tt
  each_in_order predicate body holds entries said order seen number (item first items) =
      two (on_item number (entries first)) _ (if is_shown predicate seen (is_empty items) (holds first) then gap_lines body seen ++ lines_on_item number (said first) else []) _
      (where_said (on_item number (entries first)) (gap_lines body seen ++ lines_on_item number (said first)) (is_shown predicate seen (is_empty items) (holds first))
      (after_gap (on_item number (entries first)) (lines_on_item number (said first)) body seen (seen.items == 0) (on_one_item number (entries first) (said first) (order first))))
      (after_value (holds first) _ _
      (λ it. by_test (continues predicate it) _ [] _ [] (each_in_order predicate body holds entries said order (after_item predicate seen it) (suc number) items) tt))

  -- ---- trees

  child : (here : Option Value) (number : ℕ) (tree : Typed) → InOrder here tree → Order (in_child number (trace result here tree)) (with_own result here tree (earlier_lines result here tree))
  child here number tree order = child_in_order number (trace result here tree) _ (of_part here tree order)

  mutual
    in_order : (here : Option Value) (tree : Typed) → InOrder here tree
    in_order here typed.result = ([], refl, tt)
    in_order here typed.item = ([], refl, tt)
    in_order here (typed.literal literal) = ([], refl, tt)
    in_order here (typed.field owner name) = (_, refl, child here 0 owner (in_order here owner))
    in_order here (typed.unary operator operand) = (_, refl, child_in_order 0 (trace result here operand) _ (of_operand here operator operand (in_order here operand)))
    in_order here (typed.binary operator left right) = (
      _,
      refl,
      two (in_child 0 (trace result here left)) _ (with_own result here left (earlier_lines result here left)) _ (child here 0 left (in_order here left))
          (after_value (mean result here left) _ _ (λ value. child here 1 right (in_order here right))),
    )
    in_order here (typed.both left right) = (
      _,
      refl,
      two (in_child 0 (trace result here left)) _ (with_own result here left (earlier_lines result here left)) _ (child here 0 left (in_order here left))
          (after_value (mean result here left >>= boolean) _ _ (λ holds. by_test holds _ [] _ (unneeded_line right ∷ []) (child here 1 right (in_order here right)) tt)),
    )
    in_order here (typed.either left right) = (
      _,
      refl,
      two (in_child 0 (trace result here left)) _ (with_own result here left (earlier_lines result here left)) _ (child here 0 left (in_order here left))
          (after_value (mean result here left >>= boolean) _ _ (λ holds. by_test holds [] _ (unneeded_line right ∷ []) _ tt (child here 1 right (in_order here right)))),
    )
    in_order here (typed.choice condition then_branch else_branch) = (
      _,
      refl,
      two (in_child 0 (trace result here condition)) _ (with_own result here condition (earlier_lines result here condition)) _ (child here 0 condition (in_order here condition))
          (after_value (mean result here condition >>= boolean) _ _
          (λ holds. by_test holds (in_child 1 (trace result here then_branch)) (in_child 2 (trace result here else_branch))
          (with_own result here then_branch (earlier_lines result here then_branch) ++ unneeded_line else_branch ∷ [])
          (unneeded_line then_branch ∷ [] ++ with_own result here else_branch (earlier_lines result here else_branch))
          (then_another (in_child 1 (trace result here then_branch)) (with_own result here then_branch (earlier_lines result here then_branch)) else_branch (child here 1 then_branch (in_order here then_branch)))
          (child here 2 else_branch (in_order here else_branch)))),
    )
    in_order here (typed.listed scalar items) = (items_trace result here 0 items, refl, items_in_order here 0 items)
    in_order here (typed.predicate predicate many body) = (
      _,
      refl,
      two (in_child 0 (trace result here many)) _ (with_own result here many (earlier_lines result here many)) _ (child here 0 many (in_order here many))
          (after_value (mean result here many >>= items_in) _ _
          (each_in_order predicate body (λ value. mean result (Some value) body >>= boolean) (λ value. in_child 1 (trace result (Some value) body)) (body_lines result body)
          (λ value. child (Some value) 1 body (in_order (Some value) body)) none_seen 0)),
    )

    items_in_order : (here : Option Value) (number : ℕ) (items : Typeds) → Order (items_trace result here number items) (items_lines result here items)
    items_in_order here number typed.none = tt
    items_in_order here number (typed.more first others) =
        two (in_child number (trace result here first)) _ (with_own result here first (earlier_lines result here first)) _ (child here number first (in_order here first))
        (after_value (mean result here first >>= scalar_item) _ _ (λ value. items_in_order here (suc number) others))

pub lines_in_order : (result : Value) (here : Option Value) (tree : Typed) → SayInOrder result (trace result here tree) (lines_of_meanings (all_lines result here tree))
lines_in_order result here tree = with_root_line result here tree _ (in_order result here tree) (own_said result here tree)
