-- Each entry of a trace is of a part, and has its meaning.
use Rattle.std.proofs.Common.{◌≡◌, ◌+◌, arith, ℕ, List, Option, Some, refl, ap, ◌∙◌, subst}
use Rattle.std.specs.Prelude.{suc, ◌∷◌, [], All, Ok}
use Rattle.std.specs.List.{AllByRecursion}
use Rattle.std.proofs.lemmas.List.Elements.{All-from_recursion}
use Rattle.ar_value.specs.Answer.{◌>>=◌}
use Rattle.ar_value.specs.Operators.{boolean, items_in, nth_item, scalar_item}
use Rattle.ar_value.specs.Value.{Value, Items, no_items, item}
use Rattle.ar_value.specs.declared.operator.Predicate.{Predicate}
use Rattle.ar_value.specs.declared.operator.Scalar.{Scalar}
use Rattle.ar_tree.specs.Meaning.{mean}
use Rattle.ar_tree.specs.Typed.{Typed, Typeds}
use Rattle.ar_tree.specs.Typed as typed
use Rattle.ar_explain.specs.Parts.{IsEntryOf, child, here_at, nth_tree}
use Rattle.ar_explain.specs.Trace.{TraceEntry, continues, each_item, items_trace, on_item, root_entry, trace, with_root, in_child}
use Rattle.ar_explain.proofs.Entries.{all_if_value, all_of_two, all_where, value_of_two}

-- a child's entries are its parent's
inside : (result : Value) (here : Option Value) (tree part : Typed) (number : ℕ) (entries : List TraceEntry) → child tree number ≡ Some part
    → ((path items : List ℕ) → here_at result here tree (number ∷ path) items ≡ here_at result here part path items)
    → AllByRecursion (IsEntryOf result here part) entries → AllByRecursion (IsEntryOf result here tree) (in_child number entries)
inside result here tree part number [] is leads all = tt
inside result here tree part number (entry ∷ entries) is leads all = (
  record {
    of_part = rw is all.0.of_part;
    of_item = leads entry.path entry.items ∙ all.0.of_item;
    has_meaning = all.0.has_meaning;
  },
  inside result here tree part number entries is leads all.1,
)

with_root_of : (result : Value) (here : Option Value) (tree : Typed) (entries : List TraceEntry) → AllByRecursion (IsEntryOf result here tree) entries
    → AllByRecursion (IsEntryOf result here tree) (with_root result here tree entries)
with_root_of result here tree entries all =
    all_of_two (IsEntryOf result here tree) entries (root_entry result here tree ∷ []) all (record { of_part = refl; of_item = refl; has_meaning = refl }, tt)

-- the entries of a body on an item are the predicate's
of_body : (result : Value) (here : Option Value) (predicate : Predicate) (many body : Typed) (items : Items) (number : ℕ) (value : Value) (entries : List TraceEntry)
    → (mean result here many >>= items_in) ≡ Ok items → nth_item items number ≡ Some value
    → AllByRecursion (IsEntryOf result (Some value) body) entries
    → AllByRecursion (IsEntryOf result here (typed.predicate predicate many body)) (on_item number (in_child 1 entries))
of_body result here predicate many body items number value [] is there_is all = tt
of_body result here predicate many body items number value (entry ∷ entries) is there_is all = (
  record {
    of_part = all.0.of_part;
    of_item = of_values (value_of_two (mean result here many) items_in items is) ∙ all.0.of_item;
    has_meaning = all.0.has_meaning;
  },
  of_body result here predicate many body items number value entries is there_is all.1,
) where
  of_values : (among : Value) × (mean result here many ≡ Ok among) × (items_in among ≡ Ok items)
      → here_at result here (typed.predicate predicate many body) (1 ∷ entry.path) (number ∷ entry.items) ≡ here_at result (Some value) body entry.path entry.items
  of_values found = rw (found.1, found.2, there_is) refl

body_parts : (result : Value) (here : Option Value) (predicate : Predicate) (many body : Typed) (all : Items)
    → (mean result here many >>= items_in) ≡ Ok all → ((value : Value) → AllByRecursion (IsEntryOf result (Some value) body) (trace result (Some value) body))
    → (number : ℕ) (items : Items) → ((k : ℕ) → nth_item all (number + k) ≡ nth_item items k)
    → AllByRecursion (IsEntryOf result here (typed.predicate predicate many body))
    (each_item predicate (λ value. mean result (Some value) body >>= boolean) (λ value. in_child 1 (trace result (Some value) body)) number items)
body_parts result here predicate many body all is of number no_items items_are = tt
body_parts result here predicate many body all is of number (item first items) items_are =
    let tree = typed.predicate predicate many body in
    all_of_two (IsEntryOf result here tree) _ _
    (of_body result here predicate many body all number first (trace result (Some first) body) is
    (subst (λ n. nth_item all n ≡ Some first) (omega arith) (items_are 0)) (of first))
    (all_if_value (IsEntryOf result here tree) (mean result (Some first) body >>= boolean) _
    (λ it it_is. all_where (IsEntryOf result here tree) (continues predicate it) _ []
    (λ holds. body_parts result here predicate many body all is of (suc number) items (λ k. subst (λ n. nth_item all n ≡ nth_item items k) (omega arith) (items_are (suc k))))
    (λ holds. tt)))

mutual
  parts : (result : Value) (here : Option Value) (tree : Typed) → AllByRecursion (IsEntryOf result here tree) (trace result here tree)
  parts result here typed.result = (record { of_part = refl; of_item = refl; has_meaning = refl }, tt)
  parts result here typed.item = (record { of_part = refl; of_item = refl; has_meaning = refl }, tt)
  parts result here (typed.literal literal) = (record { of_part = refl; of_item = refl; has_meaning = refl }, tt)
  parts result here (typed.field owner name) =
      with_root_of result here (typed.field owner name) _ (inside result here (typed.field owner name) owner 0 _ refl (λ path items. refl) (parts result here owner))
  parts result here (typed.unary operator operand) =
      with_root_of result here (typed.unary operator operand) _ (inside result here (typed.unary operator operand) operand 0 _ refl (λ path items. refl) (parts result here operand))
  parts result here (typed.binary operator left right) =
      let tree = typed.binary operator left right in
      with_root_of result here tree _ (all_of_two (IsEntryOf result here tree) _ _ (inside result here tree left 0 _ refl (λ path items. refl) (parts result here left))
      (all_if_value (IsEntryOf result here tree) (mean result here left) _ (λ value is. inside result here tree right 1 _ refl (λ path items. refl) (parts result here right))))
  parts result here (typed.both left right) =
      let tree = typed.both left right in
      with_root_of result here tree _ (all_of_two (IsEntryOf result here tree) _ _ (inside result here tree left 0 _ refl (λ path items. refl) (parts result here left))
      (all_if_value (IsEntryOf result here tree) (mean result here left >>= boolean) _
      (λ holds is. all_where (IsEntryOf result here tree) holds (in_child 1 (trace result here right)) []
      (λ holds. inside result here tree right 1 _ refl (λ path items. refl) (parts result here right)) (λ holds. tt))))
  parts result here (typed.either left right) =
      let tree = typed.either left right in
      with_root_of result here tree _ (all_of_two (IsEntryOf result here tree) _ _ (inside result here tree left 0 _ refl (λ path items. refl) (parts result here left))
      (all_if_value (IsEntryOf result here tree) (mean result here left >>= boolean) _
      (λ holds is. all_where (IsEntryOf result here tree) holds [] (in_child 1 (trace result here right))
      (λ holds. tt) (λ holds. inside result here tree right 1 _ refl (λ path items. refl) (parts result here right)))))
  parts result here (typed.choice condition then_branch else_branch) =
      let tree = typed.choice condition then_branch else_branch in
      with_root_of result here tree _ (all_of_two (IsEntryOf result here tree) _ _ (inside result here tree condition 0 _ refl (λ path items. refl) (parts result here condition))
      (all_if_value (IsEntryOf result here tree) (mean result here condition >>= boolean) _
      (λ holds is. all_where (IsEntryOf result here tree) holds (in_child 1 (trace result here then_branch)) (in_child 2 (trace result here else_branch))
      (λ holds. inside result here tree then_branch 1 _ refl (λ path items. refl) (parts result here then_branch))
      (λ holds. inside result here tree else_branch 2 _ refl (λ path items. refl) (parts result here else_branch)))))
  parts result here (typed.listed scalar items) =
      with_root_of result here (typed.listed scalar items) _
      (items_parts result here scalar items 0 items (λ k. ap (λ n. nth_tree items n) (omega arith)))
  parts result here (typed.predicate predicate many body) =
      let tree = typed.predicate predicate many body in
      with_root_of result here tree _ (all_of_two (IsEntryOf result here tree) _ _ (inside result here tree many 0 _ refl (λ path items. refl) (parts result here many))
      (all_if_value (IsEntryOf result here tree) (mean result here many >>= items_in) _
      (λ items is. body_parts result here predicate many body items is (λ value. parts result (Some value) body) 0 items (λ k. ap (λ n. nth_item items n) (omega arith)))))

  items_parts : (result : Value) (here : Option Value) (scalar : Scalar) (all : Typeds) (number : ℕ) (items : Typeds) → ((k : ℕ) → nth_tree all (number + k) ≡ nth_tree items k)
      → AllByRecursion (IsEntryOf result here (typed.listed scalar all)) (items_trace result here number items)
  items_parts result here scalar all number typed.none is = tt
  items_parts result here scalar all number (typed.more first others) is =
      let own : nth_tree all number ≡ Some first = subst (λ n. nth_tree all n ≡ Some first) (omega arith) (is 0) in
      all_of_two (IsEntryOf result here (typed.listed scalar all)) _ _
      (inside result here (typed.listed scalar all) first number _ own (λ path items. rw own refl) (parts result here first))
      (all_if_value (IsEntryOf result here (typed.listed scalar all)) (mean result here first >>= scalar_item) _
      (λ value value_is. items_parts result here scalar all (suc number) others (λ k. subst (λ n. nth_tree all n ≡ nth_tree others k) (omega arith) (is (suc k)))))

pub entries_of_parts : (result : Value) (here : Option Value) (tree : Typed) → All (IsEntryOf result here tree) (trace result here tree)
entries_of_parts result here tree = All-from_recursion (IsEntryOf result here tree) (trace result here tree) (parts result here tree)
