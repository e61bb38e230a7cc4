-- Each line that shows an item has the body of a predicate as its part, and shows the item to which its numbers lead.
use Rattle.std.proofs.Common.{arith, ◌≡◌, ◌+◌, ℕ, suc, Bool, true, false, List, Option, Some, refl, ap, sym, ◌∙◌, subst, true≢false}
use Rattle.std.specs.Prelude.{◌==◌, ◌++◌, if◌then◌else◌, ◌∷◌, [], All, Ok}
use Rattle.std.specs.List.{AllByRecursion}
use Rattle.std.proofs.lemmas.List.Elements.{All-from_recursion}
use Rattle.ar_value.specs.Answer.{◌>>=◌}
use Rattle.ar_value.specs.Operators.{boolean, items_in, nth_item, scalar_item}
use Rattle.ar_value.specs.Value.{Value, Items, no_items, item}
use Rattle.ar_value.specs.declared.operator.Predicate.{Predicate}
use Rattle.ar_value.specs.declared.operator.Scalar.{Scalar}
use Rattle.ar_value.specs.declared.operator.UnaryOperator.{UnaryOperator}
use Rattle.ar_tree.specs.Meaning.{mean}
use Rattle.ar_tree.specs.Typed.{Typed, Typeds}
use Rattle.ar_tree.specs.Typed as typed
use Rattle.ar_explain.specs.Operands.{apart_on}
use Rattle.ar_explain.specs.Lines.{Line, Seen, after_item, body_lines, each_item_lines, earlier_lines, gap_lines, has_own_line, is_empty, is_missing, is_shown, items_lines, all_lines, lines_on_item, none_seen, operand_own_lines, own_line, own_lines, passed_line, unneeded_line, with_own}
use Rattle.ar_explain.specs.Operands.{failed_on}
use Rattle.ar_explain.specs.Parts.{child, here_at, nth_tree}
use Rattle.ar_explain.specs.Sources.{IsOfBodyIfItem}
use Rattle.ar_explain.specs.Trace.{continues}
use Rattle.ar_explain.proofs.Entries.{all_if_value, all_of_two, value_of_two}
use Rattle.ar_explain.proofs.Sources.{shows_no_item}

module _ (result : Value) where
  abbrev OfBodies : Option Value → Typed → List Line → Type 0
  OfBodies here tree lines = AllByRecursion (IsOfBodyIfItem result here tree) lines

  -- the items that lines of a child show are its parent's
  of_child : (here : Option Value) (tree part : Typed) (n : ℕ) (lines : List Line) → child tree n ≡ Some part
      → ((path items : List ℕ) → here_at result here tree (n ∷ path) items ≡ here_at result here part path items) → OfBodies here part lines → OfBodies here tree lines
  of_child here tree part n [] is leads all = tt
  of_child here tree part n (line ∷ lines) is leads all = (
    (λ says. let of = all.0 says in record {
      around = n ∷ of.around;
      predicate = of.predicate;
      many = of.many;
      of_predicate = rw is of.of_predicate;
      value = of.value;
      of_item = leads (of.around ++ 1 ∷ []) line.items ∙ of.of_item;
      of_value = of.of_value;
    }),
    of_child here tree part n lines is leads all.1,
  )

  where_all : (here : Option Value) (tree : Typed) (holds : Bool) (lines others : List Line) → OfBodies here tree lines → OfBodies here tree others → OfBodies here tree (if holds then lines else others)
  where_all here tree true lines others all more = all
  where_all here tree false lines others all more = more

  unneeded_all : (here : Option Value) (tree part : Typed) → OfBodies here tree (unneeded_line part ∷ [])
  unneeded_all here tree part = ((λ says. absurd (true≢false (sym says))), tt)

  own_all : (here : Option Value) (tree : Typed) → OfBodies here tree (own_line tree (mean result here tree) (failed_on result here tree) (apart_on result here tree) ∷ [])
  own_all here tree = ((λ says. absurd (true≢false (sym says ∙ shows_no_item (mean result here tree) (failed_on result here tree) (apart_on result here tree)))), tt)

  own_where : (here : Option Value) (tree : Typed) → OfBodies here tree (own_lines tree (mean result here tree) (failed_on result here tree) (apart_on result here tree))
  own_where here tree = where_all here tree (has_own_line tree (mean result here tree)) _ [] (own_all here tree) tt

  of_part : (here : Option Value) (tree : Typed) → OfBodies here tree (earlier_lines result here tree) → OfBodies here tree (with_own result here tree (earlier_lines result here tree))
  of_part here tree all = all_of_two (IsOfBodyIfItem result here tree) (earlier_lines result here tree) _ all (own_where here tree)

  of_operand : (here : Option Value) (operator : UnaryOperator) (tree : Typed) → OfBodies here tree (earlier_lines result here tree)
      → OfBodies here tree (earlier_lines result here tree ++ operand_own_lines operator tree (mean result here tree) (failed_on result here tree) (apart_on result here tree))
  of_operand here operator tree all =
      all_of_two (IsOfBodyIfItem result here tree) (earlier_lines result here tree) _ all
      (where_all here tree (is_missing operator (mean result here tree)) [] _ tt (own_where here tree))

  -- ---- items of predicates

  module _ (here : Option Value) (predicate : Predicate) (many body : Typed) (values : Items) (are : (mean result here many >>= items_in) ≡ Ok values) where
    abbrev tree : Typed
    tree = typed.predicate predicate many body

    leads_to_body : (n : ℕ) (value : Value) → nth_item values n ≡ Some value → (path items : List ℕ)
        → here_at result here tree (1 ∷ path) (n ∷ items) ≡ here_at result (Some value) body path items
    leads_to_body n value at path items = of_values (value_of_two (mean result here many) items_in values are) where
      of_values : (among : Value) × (mean result here many ≡ Ok among) × (items_in among ≡ Ok values) → here_at result here tree (1 ∷ path) (n ∷ items) ≡ here_at result (Some value) body path items
      of_values found = rw (found.1, found.2, at) refl

    of_body : (n : ℕ) (value : Value) → nth_item values n ≡ Some value → (lines : List Line) → OfBodies (Some value) body lines → OfBodies here tree (lines_on_item n lines)
    of_body n value at [] all = tt
    of_body n value at (line ∷ lines) all = (
      (λ says. let of = all.0 says in record {
        around = 1 ∷ of.around;
        predicate = of.predicate;
        many = of.many;
        of_predicate = of.of_predicate;
        value = of.value;
        of_item = leads_to_body n value at (of.around ++ 1 ∷ []) line.items ∙ of.of_item;
        of_value = of.of_value;
      }),
      of_body n value at lines all.1,
    )

    on_item : (n : ℕ) (value : Value) → nth_item values n ≡ Some value → OfBodies (Some value) body (with_own result (Some value) body (earlier_lines result (Some value) body))
        → OfBodies here tree (lines_on_item n (body_lines result body value))
    on_item n value at all = (
      (λ says. record { around = []; predicate = predicate; many = many; of_predicate = refl; value = value; of_item = leads_to_body n value at [] []; of_value = refl }),
      of_body n value at (with_own result (Some value) body (earlier_lines result (Some value) body)) all,
    )

    gap_all : (seen : Seen) (none : Bool) (lines : List Line) → OfBodies here tree lines → OfBodies here tree ((if none then [] else passed_line body seen.items seen.held ∷ []) ++ lines)
    gap_all seen true lines all = all
    gap_all seen false lines all = ((λ says. absurd (true≢false (sym says))), all)

    each_all : ((value : Value) → OfBodies (Some value) body (with_own result (Some value) body (earlier_lines result (Some value) body))) → (seen : Seen) (number : ℕ) (items : Items)
        → ((k : ℕ) → nth_item values (number + k) ≡ nth_item items k)
        → OfBodies here tree (each_item_lines predicate body (λ value. mean result (Some value) body >>= boolean) (body_lines result body) seen number items)
    each_all of seen number no_items at = tt
    each_all of seen number (item first items) at =
        all_of_two (IsOfBodyIfItem result here tree)
        (if is_shown predicate seen (is_empty items) (mean result (Some first) body >>= boolean) then gap_lines body seen ++ lines_on_item number (body_lines result body first) else []) _
        (where_all here tree (is_shown predicate seen (is_empty items) (mean result (Some first) body >>= boolean)) (gap_lines body seen ++ lines_on_item number (body_lines result body first)) []
        (gap_all seen (seen.items == 0) (lines_on_item number (body_lines result body first))
        (on_item number first (subst (λ n. nth_item values n ≡ Some first) (omega arith) (at 0)) (of first))) tt)
        (all_if_value (IsOfBodyIfItem result here tree) (mean result (Some first) body >>= boolean) _
        (λ it is. where_all here tree (continues predicate it) _ []
        (each_all of (after_item predicate seen it) (suc number) items (λ k. subst (λ n. nth_item values n ≡ nth_item items k) (omega arith) (at (suc k)))) tt))

  -- ---- trees

  mutual
    of_bodies : (here : Option Value) (tree : Typed) → OfBodies here tree (earlier_lines result here tree)
    of_bodies here typed.result = tt
    of_bodies here typed.item = tt
    of_bodies here (typed.literal literal) = tt
    of_bodies here (typed.field owner name) = of_child here (typed.field owner name) owner 0 _ refl (λ path items. refl) (of_part here owner (of_bodies here owner))
    of_bodies here (typed.unary operator operand) =
        of_child here (typed.unary operator operand) operand 0 _ refl (λ path items. refl) (of_operand here operator operand (of_bodies here operand))
    of_bodies here (typed.binary operator left right) =
        let tree = typed.binary operator left right in
        all_of_two (IsOfBodyIfItem result here tree) (with_own result here left (earlier_lines result here left)) _
        (of_child here tree left 0 _ refl (λ path items. refl) (of_part here left (of_bodies here left)))
        (all_if_value (IsOfBodyIfItem result here tree) (mean result here left) _ (λ value is. of_child here tree right 1 _ refl (λ path items. refl) (of_part here right (of_bodies here right))))
    of_bodies here (typed.both left right) =
        let tree = typed.both left right in
        all_of_two (IsOfBodyIfItem result here tree) (with_own result here left (earlier_lines result here left)) _
        (of_child here tree left 0 _ refl (λ path items. refl) (of_part here left (of_bodies here left)))
        (all_if_value (IsOfBodyIfItem result here tree) (mean result here left >>= boolean) _
        (λ holds is. where_all here tree holds _ _ (of_child here tree right 1 _ refl (λ path items. refl) (of_part here right (of_bodies here right))) (unneeded_all here tree right)))
    of_bodies here (typed.either left right) =
        let tree = typed.either left right in
        all_of_two (IsOfBodyIfItem result here tree) (with_own result here left (earlier_lines result here left)) _
        (of_child here tree left 0 _ refl (λ path items. refl) (of_part here left (of_bodies here left)))
        (all_if_value (IsOfBodyIfItem result here tree) (mean result here left >>= boolean) _
        (λ holds is. where_all here tree holds _ _ (unneeded_all here tree right) (of_child here tree right 1 _ refl (λ path items. refl) (of_part here right (of_bodies here right)))))
    of_bodies here (typed.choice condition then_branch else_branch) =
        let tree = typed.choice condition then_branch else_branch in
        all_of_two (IsOfBodyIfItem result here tree) (with_own result here condition (earlier_lines result here condition)) _
        (of_child here tree condition 0 _ refl (λ path items. refl) (of_part here condition (of_bodies here condition)))
        (all_if_value (IsOfBodyIfItem result here tree) (mean result here condition >>= boolean) _
        (λ holds is. where_all here tree holds _ _
        (all_of_two (IsOfBodyIfItem result here tree) (with_own result here then_branch (earlier_lines result here then_branch)) (unneeded_line else_branch ∷ [])
        (of_child here tree then_branch 1 _ refl (λ path items. refl) (of_part here then_branch (of_bodies here then_branch))) (unneeded_all here tree else_branch))
        (all_of_two (IsOfBodyIfItem result here tree) (unneeded_line then_branch ∷ []) (with_own result here else_branch (earlier_lines result here else_branch)) (unneeded_all here tree then_branch)
        (of_child here tree else_branch 2 _ refl (λ path items. refl) (of_part here else_branch (of_bodies here else_branch))))))
    of_bodies here (typed.listed scalar items) = items_of_bodies here scalar items 0 items (λ k. ap (λ n. nth_tree items n) (omega arith))
    of_bodies here (typed.predicate predicate many body) =
        let tree = typed.predicate predicate many body in
        all_of_two (IsOfBodyIfItem result here tree) (with_own result here many (earlier_lines result here many)) _
        (of_child here tree many 0 _ refl (λ path items. refl) (of_part here many (of_bodies here many)))
        (all_if_value (IsOfBodyIfItem result here tree) (mean result here many >>= items_in) _
        (λ values is. each_all here predicate many body values is (λ value. of_part (Some value) body (of_bodies (Some value) body)) none_seen 0 values
        (λ k. ap (λ n. nth_item values n) (omega arith))))

    items_of_bodies : (here : Option Value) (scalar : Scalar) (all : Typeds) (number : ℕ) (items : Typeds) → ((k : ℕ) → nth_tree all (number + k) ≡ nth_tree items k)
        → OfBodies here (typed.listed scalar all) (items_lines result here items)
    items_of_bodies here scalar all number typed.none is = tt
    items_of_bodies here scalar all number (typed.more first others) is =
        let tree = typed.listed scalar all in
        let own : nth_tree all number ≡ Some first = subst (λ n. nth_tree all n ≡ Some first) (omega arith) (is 0) in
        all_of_two (IsOfBodyIfItem result here tree) (with_own result here first (earlier_lines result here first)) _
        (of_child here tree first number _ own (λ path items. rw own refl) (of_part here first (of_bodies here first)))
        (all_if_value (IsOfBodyIfItem result here tree) (mean result here first >>= scalar_item) _
        (λ value value_is. items_of_bodies here scalar all (suc number) others (λ k. subst (λ n. nth_tree all n ≡ nth_tree others k) (omega arith) (is (suc k)))))

pub items_are_of_bodies : (result : Value) (here : Option Value) (tree : Typed) → All (IsOfBodyIfItem result here tree) (all_lines result here tree)
items_are_of_bodies result here tree =
    All-from_recursion (IsOfBodyIfItem result here tree) (all_lines result here tree)
    (all_of_two (IsOfBodyIfItem result here tree) (earlier_lines result here tree) _ (of_bodies result here tree) (own_all result here tree))
