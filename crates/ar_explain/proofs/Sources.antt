-- Each line that says a value or a failure is of an entry of the trace.
use Rattle.std.proofs.Common.{◌≡◌, ◌∙◌, ap, ℕ, Bool, true, false, List, Option, Some, refl, sym, subst, true≢false, inl, inr}
use Rattle.std.specs.Prelude.{◌==◌, ◌++◌, if◌then◌else◌, suc, ◌∷◌, [], All, Result, Ok, Err}
use Rattle.std.specs.List.{AllByRecursion}
use Rattle.std.proofs.lemmas.List.Elements.{All-from_recursion}
use Rattle.ar_value.specs.Answer.{◌>>=◌}
use Rattle.ar_value.specs.Operators.{Failure, Meaning, boolean, items_in, scalar_item}
use Rattle.ar_value.specs.Terms.{Text}
use Rattle.ar_value.specs.Value.{Value, Items, no_items, item}
use Rattle.ar_value.specs.declared.operator.Predicate.{Predicate}
use Rattle.ar_value.specs.declared.operator.UnaryOperator.{UnaryOperator}
use Rattle.ar_tree.specs.Meaning.{mean}
use Rattle.ar_tree.specs.Typed.{Typed, Typeds}
use Rattle.ar_tree.specs.Typed as typed
use Rattle.ar_explain.specs.Lines.{Line, Seen, after_item, body_lines, each_item_lines, earlier_lines, gap_lines, is_empty, is_missing, is_shown, item_line, has_own_line, items_lines, operand_own_lines, all_lines, lines_on_item, none_seen, own_line, outcome_of, passed_line, unneeded_line, with_own}
use Rattle.ar_apart.specs.Apart.{Apart}
use Rattle.ar_explain.specs.Operands.{apart_on}
use Rattle.ar_explain.specs.Operands.{failed_on}
use Rattle.ar_explain.specs.Sources.{IsFrom, OneHas, Says, ShowsItem, says_item}
use Rattle.ar_explain.specs.Trace.{TraceEntry, continues, each_item, if_value, in_child, items_trace, on_item, root_entry, trace}
use Rattle.ar_explain.proofs.Entries.{all_of_two}
use Rattle.ar_explain.proofs.Roots.{root_last}

-- ---- one of more entries, and of entries of parts

module _ (Has : TraceEntry → Line → Type 0) where
  one_before : (entries later : List TraceEntry) (line : Line) → OneHas Has entries line → OneHas Has (entries ++ later) line
  one_before [] later line has = absurd has
  one_before (entry ∷ entries) later line (inl has) = inl has
  one_before (entry ∷ entries) later line (inr has) = inr (one_before entries later line has)

  one_after : (earlier entries : List TraceEntry) (line : Line) → OneHas Has entries line → OneHas Has (earlier ++ entries) line
  one_after [] entries line has = has
  one_after (entry ∷ earlier) entries line has = inr (one_after earlier entries line has)

  one_in_child : ((number : ℕ) (entry : TraceEntry) (line : Line) → Has entry line → Has (record entry { path = number ∷ entry.path }) line)
      → (number : ℕ) (entries : List TraceEntry) (line : Line) → OneHas Has entries line → OneHas Has (in_child number entries) line
  one_in_child below number [] line has = absurd has
  one_in_child below number (entry ∷ entries) line (inl has) = inl (below number entry line has)
  one_in_child below number (entry ∷ entries) line (inr has) = inr (one_in_child below number entries line has)

  one_on_item : ((number : ℕ) (entry : TraceEntry) (line : Line) → Has entry line → Has (record entry { items = number ∷ entry.items }) (record line { items = number ∷ line.items }))
      → (number : ℕ) (entries : List TraceEntry) (line : Line) → OneHas Has entries line → OneHas Has (on_item number entries) (record line { items = number ∷ line.items })
  one_on_item below number [] line has = absurd has
  one_on_item below number (entry ∷ entries) line (inl has) = inl (below number entry line has)
  one_on_item below number (entry ∷ entries) line (inr has) = inr (one_on_item below number entries line has)

shows_in_child : (number : ℕ) (entry : TraceEntry) (line : Line) → ShowsItem entry line → ShowsItem (record entry { path = number ∷ entry.path }) line
shows_in_child number entry line shows = record { of_part = shows.of_part; on_items = shows.on_items; value = shows.value; is_here = shows.is_here; of_value = shows.of_value }

shows_on_item : (number : ℕ) (entry : TraceEntry) (line : Line) → ShowsItem entry line → ShowsItem (record entry { items = number ∷ entry.items }) (record line { items = number ∷ line.items })
shows_on_item number entry line shows =
    record { of_part = shows.of_part; on_items = ap (λ items. number ∷ items) shows.on_items; value = shows.value; is_here = shows.is_here; of_value = shows.of_value }

module _ (result : Value) where
  pub says_in_child : (number : ℕ) (entry : TraceEntry) (line : Line) → Says result entry line → Says result (record entry { path = number ∷ entry.path }) line
  says_in_child number entry line says = record { of_part = says.of_part; on_items = says.on_items; of_meaning = says.of_meaning }

  pub says_on_item : (number : ℕ) (entry : TraceEntry) (line : Line) → Says result entry line
      → Says result (record entry { items = number ∷ entry.items }) (record line { items = number ∷ line.items })
  says_on_item number entry line says = record { of_part = says.of_part; on_items = ap (λ items. number ∷ items) says.on_items; of_meaning = says.of_meaning }

  -- ---- the same of all lines

  all_before : (entries later : List TraceEntry) (said : List Line) → AllByRecursion (IsFrom result entries) said → AllByRecursion (IsFrom result (entries ++ later)) said
  all_before entries later [] all = tt
  all_before entries later (line ∷ said) all = (
    record {
      of_meaning = λ says. one_before (Says result) entries later line (all.0.of_meaning says);
      of_item = λ says. one_before ShowsItem entries later line (all.0.of_item says);
    },
    all_before entries later said all.1,
  )

  all_after : (earlier entries : List TraceEntry) (said : List Line) → AllByRecursion (IsFrom result entries) said → AllByRecursion (IsFrom result (earlier ++ entries)) said
  all_after earlier entries [] all = tt
  all_after earlier entries (line ∷ said) all = (
    record {
      of_meaning = λ says. one_after (Says result) earlier entries line (all.0.of_meaning says);
      of_item = λ says. one_after ShowsItem earlier entries line (all.0.of_item says);
    },
    all_after earlier entries said all.1,
  )

  all_in_child : (number : ℕ) (entries : List TraceEntry) (said : List Line) → AllByRecursion (IsFrom result entries) said → AllByRecursion (IsFrom result (in_child number entries)) said
  all_in_child number entries [] all = tt
  all_in_child number entries (line ∷ said) all = (
    record {
      of_meaning = λ says. one_in_child (Says result) says_in_child number entries line (all.0.of_meaning says);
      of_item = λ says. one_in_child ShowsItem shows_in_child number entries line (all.0.of_item says);
    },
    all_in_child number entries said all.1,
  )

  all_on_item : (number : ℕ) (entries : List TraceEntry) (said : List Line) → AllByRecursion (IsFrom result entries) said
      → AllByRecursion (IsFrom result (on_item number entries)) (lines_on_item number said)
  all_on_item number entries [] all = tt
  all_on_item number entries (line ∷ said) all = (
    record {
      of_meaning = λ says. one_on_item (Says result) says_on_item number entries line (all.0.of_meaning says);
      of_item = λ says. one_on_item ShowsItem shows_on_item number entries line (all.0.of_item says);
    },
    all_on_item number entries said all.1,
  )

  unneeded_from : (entries : List TraceEntry) (tree : Typed) → AllByRecursion (IsFrom result entries) (unneeded_line tree ∷ [])
  unneeded_from entries tree = (record { of_meaning = λ says. absurd (true≢false (sym says)); of_item = λ says. absurd (true≢false (sym says)) }, tt)

  -- lines one after another, as the entries are
  both_from : (entries later : List TraceEntry) (said more : List Line) → AllByRecursion (IsFrom result entries) said → AllByRecursion (IsFrom result later) more
      → AllByRecursion (IsFrom result (entries ++ later)) (said ++ more)
  both_from entries later said more all others =
      all_of_two (IsFrom result (entries ++ later)) said more (all_before entries later said all) (all_after entries later more others)

  value_from : {A : Type 0} (m : Result A Failure) (entries : A → List TraceEntry) (said : A → List Line)
      → ((value : A) → AllByRecursion (IsFrom result (entries value)) (said value)) → AllByRecursion (IsFrom result (if_value m entries)) (if_value m said)
  value_from (Ok value) entries said all = all value
  value_from (Err failure) entries said all = tt

  where_from : (holds : Bool) (entries others : List TraceEntry) (said more : List Line) → AllByRecursion (IsFrom result entries) said → AllByRecursion (IsFrom result others) more
      → AllByRecursion (IsFrom result (if holds then entries else others)) (if holds then said else more)
  where_from true entries others said more all rest = all
  where_from false entries others said more all rest = rest

-- ---- own lines

pub shows_no_item : (meaning : Meaning) (on : Option Text) (apart : Option Apart) → says_item (outcome_of meaning on apart) ≡ false
shows_no_item (Ok value) on apart = refl
shows_no_item (Err failure) on apart = refl

own_from : (earlier : List TraceEntry) (result : Value) (here : Option Value) (tree : Typed)
    → AllByRecursion (IsFrom result (earlier ++ root_entry result here tree ∷ [])) (own_line tree (mean result here tree) (failed_on result here tree) (apart_on result here tree) ∷ [])
own_from earlier result here tree = (
  record {
    of_meaning = λ says. one_after (Says result) earlier (root_entry result here tree ∷ []) _ (inl (record { of_part = refl; on_items = refl; of_meaning = refl }));
    of_item = λ says. absurd (true≢false (sym says ∙ shows_no_item (mean result here tree) (failed_on result here tree) (apart_on result here tree)));
  },
  tt,
)

own_where : (result : Value) (entries : List TraceEntry) (said : List Line) (is : Bool) → AllByRecursion (IsFrom result entries) said
    → AllByRecursion (IsFrom result entries) (if is then said else [])
own_where result entries said true all = all
own_where result entries said false all = tt

unless_missing : (result : Value) (entries : List TraceEntry) (said : List Line) (is : Bool) → AllByRecursion (IsFrom result entries) said
    → AllByRecursion (IsFrom result entries) (if is then [] else said)
unless_missing result entries said true all = tt
unless_missing result entries said false all = all

own_of_trace : (result : Value) (here : Option Value) (tree : Typed) → AllByRecursion (IsFrom result (trace result here tree)) (own_line tree (mean result here tree) (failed_on result here tree) (apart_on result here tree) ∷ [])
own_of_trace result here tree =
    let last = root_last result here tree in
    subst (λ entries. AllByRecursion (IsFrom result entries) (own_line tree (mean result here tree) (failed_on result here tree) (apart_on result here tree) ∷ [])) (sym last.1) (own_from last.0 result here tree)

of_part : (result : Value) (here : Option Value) (tree : Typed) → AllByRecursion (IsFrom result (trace result here tree)) (earlier_lines result here tree)
    → AllByRecursion (IsFrom result (trace result here tree)) (with_own result here tree (earlier_lines result here tree))
of_part result here tree all =
    all_of_two (IsFrom result (trace result here tree)) (earlier_lines result here tree) _ all
    (own_where result (trace result here tree) _ (has_own_line tree (mean result here tree)) (own_of_trace result here tree))

of_operand : (result : Value) (here : Option Value) (operator : UnaryOperator) (tree : Typed) → AllByRecursion (IsFrom result (trace result here tree)) (earlier_lines result here tree)
    → AllByRecursion (IsFrom result (trace result here tree)) (earlier_lines result here tree ++ operand_own_lines operator tree (mean result here tree) (failed_on result here tree) (apart_on result here tree))
of_operand result here operator tree all =
    all_of_two (IsFrom result (trace result here tree)) (earlier_lines result here tree) _ all
    (unless_missing result (trace result here tree) _ (is_missing operator (mean result here tree))
    (own_where result (trace result here tree) _ (has_own_line tree (mean result here tree)) (own_of_trace result here tree)))

-- the lines before a tree's own are of the entries before its own
before_own : (result : Value) (here : Option Value) (tree : Typed) (entries : List TraceEntry) (said : List Line) → AllByRecursion (IsFrom result entries) said
    → AllByRecursion (IsFrom result (entries ++ root_entry result here tree ∷ [])) said
before_own result here tree entries said all = all_before result entries (root_entry result here tree ∷ []) said all

-- ---- items of predicates

-- a gap says neither a value nor a failure
gap_from : (result : Value) (entries : List TraceEntry) (body : Typed) (seen : Seen) (none : Bool) → AllByRecursion (IsFrom result entries) (if none then [] else passed_line body seen.items seen.held ∷ [])
gap_from result entries body seen true = tt
gap_from result entries body seen false = (record { of_meaning = λ says. absurd (true≢false (sym says)); of_item = λ says. absurd (true≢false (sym says)) }, tt)

each_from : (result : Value) (predicate : Predicate) (body : Typed) (holds : Value → Result Bool Failure) (entries : Value → List TraceEntry) (said : Value → List Line)
    → ((value : Value) → AllByRecursion (IsFrom result (entries value)) (said value)) → (seen : Seen) (number : ℕ) (items : Items)
    → AllByRecursion (IsFrom result (each_item predicate holds entries number items)) (each_item_lines predicate body holds said seen number items)
each_from result predicate body holds entries said all seen number no_items = tt
each_from result predicate body holds entries said all seen number (item first items) =
    both_from result _ _ _ _
    (own_where result _ (gap_lines body seen ++ lines_on_item number (said first)) (is_shown predicate seen (is_empty items) (holds first))
    (all_of_two (IsFrom result (on_item number (entries first))) (gap_lines body seen) (lines_on_item number (said first)) (gap_from result _ body seen (seen.items == 0))
    (all_on_item result number (entries first) (said first) (all first))))
    (value_from result (holds first) _ _
    (λ it. where_from result (continues predicate it) _ [] _ [] (each_from result predicate body holds entries said all (after_item predicate seen it) (suc number) items) tt))

-- the line of an item is of the body's entry on it
item_shown : (earlier : List TraceEntry) (result : Value) (body : Typed) (value : Value)
    → IsFrom result (earlier ++ root_entry result (Some value) body ∷ []) (item_line body value)
item_shown earlier result body value = record {
  of_meaning = λ says. absurd (true≢false (sym says));
  of_item = λ says. one_after ShowsItem earlier (root_entry result (Some value) body ∷ []) _
      (inl (record { of_part = refl; on_items = refl; value = value; is_here = refl; of_value = refl }));
}

item_from : (result : Value) (body : Typed) (value : Value) → IsFrom result (trace result (Some value) body) (item_line body value)
item_from result body value =
    let last = root_last result (Some value) body in
    subst (λ entries. IsFrom result entries (item_line body value)) (sym last.1) (item_shown last.0 result body value)

body_from : (result : Value) (body : Typed) (value : Value)
    → AllByRecursion (IsFrom result (trace result (Some value) body)) (with_own result (Some value) body (earlier_lines result (Some value) body))
    → AllByRecursion (IsFrom result (trace result (Some value) body)) (body_lines result body value)
body_from result body value all = (item_from result body value, all)

-- ---- trees

mutual
  from : (result : Value) (here : Option Value) (tree : Typed) → AllByRecursion (IsFrom result (trace result here tree)) (earlier_lines result here tree)
  from result here typed.result = tt
  from result here typed.item = tt
  from result here (typed.literal literal) = tt
  from result here (typed.field owner name) =
      before_own result here (typed.field owner name) _ _ (all_in_child result 0 _ _ (of_part result here owner (from result here owner)))
  from result here (typed.unary operator operand) =
      before_own result here (typed.unary operator operand) _ _ (all_in_child result 0 _ _ (of_operand result here operator operand (from result here operand)))
  from result here (typed.binary operator left right) =
      before_own result here (typed.binary operator left right) _ _
      (both_from result _ _ _ _ (all_in_child result 0 _ _ (of_part result here left (from result here left)))
      (value_from result (mean result here left) _ _ (λ value. all_in_child result 1 _ _ (of_part result here right (from result here right)))))
  from result here (typed.both left right) =
      before_own result here (typed.both left right) _ _
      (both_from result _ _ _ _ (all_in_child result 0 _ _ (of_part result here left (from result here left)))
      (value_from result (mean result here left >>= boolean) _ _
      (λ holds. where_from result holds _ [] _ _ (all_in_child result 1 _ _ (of_part result here right (from result here right))) (unneeded_from result [] right))))
  from result here (typed.either left right) =
      before_own result here (typed.either left right) _ _
      (both_from result _ _ _ _ (all_in_child result 0 _ _ (of_part result here left (from result here left)))
      (value_from result (mean result here left >>= boolean) _ _
      (λ holds. where_from result holds [] _ _ _ (unneeded_from result [] right) (all_in_child result 1 _ _ (of_part result here right (from result here right))))))
  from result here (typed.choice condition then_branch else_branch) =
      before_own result here (typed.choice condition then_branch else_branch) _ _
      (both_from result _ _ _ _ (all_in_child result 0 _ _ (of_part result here condition (from result here condition)))
      (value_from result (mean result here condition >>= boolean) _ _
      (λ holds. where_from result holds _ _ _ _
      (all_of_two (IsFrom result (in_child 1 (trace result here then_branch))) _ _
      (all_in_child result 1 _ _ (of_part result here then_branch (from result here then_branch)))
      (unneeded_from result _ else_branch))
      (all_of_two (IsFrom result (in_child 2 (trace result here else_branch))) (unneeded_line then_branch ∷ []) _ (unneeded_from result _ then_branch)
      (all_in_child result 2 _ _ (of_part result here else_branch (from result here else_branch)))))))
  from result here (typed.listed scalar items) =
      before_own result here (typed.listed scalar items) _ _ (items_from result here 0 items)
  from result here (typed.predicate predicate many body) =
      before_own result here (typed.predicate predicate many body) _ _
      (both_from result _ _ _ _ (all_in_child result 0 _ _ (of_part result here many (from result here many)))
      (value_from result (mean result here many >>= items_in) _ _
      (each_from result predicate body (λ value. mean result (Some value) body >>= boolean) (λ value. in_child 1 (trace result (Some value) body))
      (body_lines result body)
      (λ value. all_in_child result 1 (trace result (Some value) body) (body_lines result body value) (body_from result body value (of_part result (Some value) body (from result (Some value) body)))) none_seen 0)))

  items_from : (result : Value) (here : Option Value) (number : ℕ) (items : Typeds) → AllByRecursion (IsFrom result (items_trace result here number items)) (items_lines result here items)
  items_from result here number typed.none = tt
  items_from result here number (typed.more first others) =
      both_from result _ _ _ _ (all_in_child result number _ _ (of_part result here first (from result here first)))
      (value_from result (mean result here first >>= scalar_item) _ _ (λ value. items_from result here (suc number) others))

pub lines_from : (result : Value) (here : Option Value) (tree : Typed) → All (IsFrom result (trace result here tree)) (all_lines result here tree)
lines_from result here tree =
    All-from_recursion (IsFrom result (trace result here tree)) (all_lines result here tree)
    (all_of_two (IsFrom result (trace result here tree)) (earlier_lines result here tree) _ (from result here tree) (own_of_trace result here tree))
