-- Loops over the items of lists.
use Rattle.std.proofs.Common.{◌≡◌, ℕ, suc, ◌+◌, ◌<◌, ◌≤◌, Bool, true, false, List, [], ◌∷◌, ◌++◌, length, drop, Option, Some, None, Result, Ok, Err, refl, ap, sym, ◌∙◌, subst, arith, add-one, drop-cons, get_or}
use Rattle.std.specs.Prelude.{◌==◌, pos, if◌then◌else◌}
use Rattle.std.proofs.lemmas.Bool.Decides.{nat_tests}
use Rattle.std.proofs.Math.ListN.{drop_of_length-le}
use Rattle.ar_value.specs.Answer.{◌>>=◌}
use Rattle.ar_value.specs.Operators.{Failure, Meaning, ill_kinded, scalar_item}
use Rattle.ar_value.specs.Terms.{Text}
use Rattle.ar_value.specs.Value.{Value, Items, bool, whole, list, no_items, item, items_of, count}
use Rattle.ar_value.specs.declared.operator.Predicate.{Predicate}
use Rattle.ar_value.specs.declared.operator.Predicate.TheVariants as predicates
use Rattle.ar_op.specs.Machine.{decided}
use Rattle.ar_machine.specs.Memory.{count_with, kept_with}
use Rattle.ar_tree.specs.Meaning.{all_hold, any_holds, none_holds, over, those}
use Rattle.ar_tree.specs.Typed.{Typed}
use Rattle.ar_tree.specs.Typed as typed
use Rattle.ar_tree.specs.Views.{typed_view}
use Rattle.ar_tree.specs.declared.typed.Typed.{Typed as TypedCode}
use Rattle.ar_explain.specs.Lines.{Explanation, Line, Seen, after_item, each_item_lines, is_empty, item_lines}
use Rattle.ar_explain.specs.Operands.{on_value, refused_or}
use Rattle.ar_explain.specs.Private.Loops.{after_made, over_rest, prepended, unless_decided}
use Rattle.ar_explain.specs.Private.Places.{Place, items_failed_at, items_lines_at, items_meant, lines_at, meant, scalar_failed_at, scalar_meant, typeds_view, with_lines_at}
use Rattle.ar_explain.specs.Trace.{continues, if_value}
use Rattle.ar_explain.specs.Views.{explanation_view}
use Rattle.ar_explain.specs.declared.explanation.Explanation.{Explanation as ExplanationCode}
use Rattle.ar_explain.proofs.Entries.{same_then}
use Rattle.ar_explain.proofs.Walks.{lines_end, lines_go_on}

-- ---- what predicates give

module _ (holds : Value → Result Bool Failure) where
  all_rest : (counted : ℕ) (kept : List Value) (items : Items) → over_rest predicates.All holds counted kept items ≡ all_hold holds items
  all_rest counted kept no_items = refl
  all_rest counted kept (item first items) = same_then (holds first) _ _ (λ it is. each it (all_rest counted kept items)) where
    each : (it : Bool) → over_rest predicates.All holds counted kept items ≡ all_hold holds items
        → unless_decided (decided predicates.All it) (over_rest predicates.All holds counted kept items) ≡ (if it then all_hold holds items else Ok (bool false))
    each true rest = rest
    each false rest = refl

  any_rest : (counted : ℕ) (kept : List Value) (items : Items) → over_rest predicates.Any holds counted kept items ≡ any_holds holds items
  any_rest counted kept no_items = refl
  any_rest counted kept (item first items) = same_then (holds first) _ _ (λ it is. each it (any_rest counted kept items)) where
    each : (it : Bool) → over_rest predicates.Any holds counted kept items ≡ any_holds holds items
        → unless_decided (decided predicates.Any it) (over_rest predicates.Any holds counted kept items) ≡ (if it then Ok (bool true) else any_holds holds items)
    each true rest = refl
    each false rest = rest

  none_rest : (counted : ℕ) (kept : List Value) (items : Items) → over_rest predicates.None holds counted kept items ≡ none_holds holds items
  none_rest counted kept no_items = refl
  none_rest counted kept (item first items) = same_then (holds first) _ _ (λ it is. each it (none_rest counted kept items)) where
    each : (it : Bool) → over_rest predicates.None holds counted kept items ≡ none_holds holds items
        → unless_decided (decided predicates.None it) (over_rest predicates.None holds counted kept items) ≡ (if it then Ok (bool false) else none_holds holds items)
    each true rest = refl
    each false rest = rest

  -- one item more, of which a number or a list is made with those after it
  one_more : (m : Result Bool Failure) (others : Result Items Failure) (first : Value) (answer : Items → Meaning) (rest : Bool → Meaning)
      → ((it : Bool) → rest it ≡ (others >>= λ found. answer (if it then item first found else found)))
      → (m >>= rest) ≡ ((m >>= λ it. others >>= λ found. Ok (if it then item first found else found)) >>= answer)
  one_more (Err failure) others first answer rest is = refl
  one_more (Ok it) (Ok found) first answer rest is = is it
  one_more (Ok it) (Err failure) first answer rest is = is it

  one_rest : (counted : ℕ) (kept : List Value) (items : Items) → over_rest predicates.One holds counted kept items ≡ (those holds items >>= λ found. Ok (bool (counted + count found == 1)))
  one_rest counted kept no_items = ap (λ n. Ok (bool (n == 1))) (omega arith)
  one_rest counted kept (item first items) = one_more (holds first) (those holds items) first (λ found. Ok (bool (counted + count found == 1))) _ (λ it. each it (λ n. one_rest n kept items)) where
    each : (it : Bool) → ((n : ℕ) → over_rest predicates.One holds n kept items ≡ (those holds items >>= λ found. Ok (bool (n + count found == 1))))
        → unless_decided (decided predicates.One it) (over_rest predicates.One holds (count_with predicates.One it counted) (kept_with predicates.One it first kept) items)
        ≡ (those holds items >>= λ found. Ok (bool (counted + count (if it then item first found else found) == 1)))
    each true rest = rest (counted + 1) ∙ same_then (those holds items) _ _ (λ found is. ap (λ n. Ok (bool (n == 1))) (omega arith))
    each false rest = rest counted

  count_rest : (counted : ℕ) (kept : List Value) (items : Items) → over_rest predicates.Count holds counted kept items ≡ (those holds items >>= λ found. Ok (whole (pos (counted + count found))))
  count_rest counted kept no_items = ap (λ n. Ok (whole (pos n))) (omega arith)
  count_rest counted kept (item first items) = one_more (holds first) (those holds items) first (λ found. Ok (whole (pos (counted + count found)))) _ (λ it. each it (λ n. count_rest n kept items)) where
    each : (it : Bool) → ((n : ℕ) → over_rest predicates.Count holds n kept items ≡ (those holds items >>= λ found. Ok (whole (pos (n + count found)))))
        → unless_decided (decided predicates.Count it) (over_rest predicates.Count holds (count_with predicates.Count it counted) (kept_with predicates.Count it first kept) items)
        ≡ (those holds items >>= λ found. Ok (whole (pos (counted + count (if it then item first found else found)))))
    each true rest = rest (counted + 1) ∙ same_then (those holds items) _ _ (λ found is. ap (λ n. Ok (whole (pos n))) (omega arith))
    each false rest = rest counted

  pub none_prepended : (values : List Value) → items_of values ≡ prepended values no_items
  none_prepended [] = refl
  none_prepended (value ∷ values) = ap (item value) (none_prepended values)

  pub one_prepended : (values : List Value) (value : Value) (items : Items) → prepended (values ++ value ∷ []) items ≡ prepended values (item value items)
  one_prepended [] value items = refl
  one_prepended (first ∷ values) value items = ap (item first) (one_prepended values value items)

  filter_rest : (counted : ℕ) (kept : List Value) (items : Items) → over_rest predicates.Filter holds counted kept items ≡ (those holds items >>= λ found. Ok (list (prepended kept found)))
  filter_rest counted kept no_items = ap (λ items. Ok (list items)) (none_prepended kept)
  filter_rest counted kept (item first items) = one_more (holds first) (those holds items) first (λ found. Ok (list (prepended kept found))) _ (λ it. each it (λ kept. filter_rest counted kept items)) where
    each : (it : Bool) → ((kept : List Value) → over_rest predicates.Filter holds counted kept items ≡ (those holds items >>= λ found. Ok (list (prepended kept found))))
        → unless_decided (decided predicates.Filter it) (over_rest predicates.Filter holds (count_with predicates.Filter it counted) (kept_with predicates.Filter it first kept) items)
        ≡ (those holds items >>= λ found. Ok (list (prepended kept (if it then item first found else found))))
    each true rest = rest (kept ++ first ∷ []) ∙ same_then (those holds items) _ _ (λ found is. ap (λ items. Ok (list items)) (one_prepended kept first found))
    each false rest = rest kept

  -- all items are left, and nothing was found
  pub rest_of_all : (predicate : Predicate) (items : Items) → over_rest predicate holds 0 [] items ≡ over predicate holds items
  rest_of_all predicates.All items = all_rest 0 [] items
  rest_of_all predicates.Any items = any_rest 0 [] items
  rest_of_all predicates.None items = none_rest 0 [] items
  rest_of_all predicates.One items = one_rest 0 [] items ∙ same_then (those holds items) _ _ (λ found is. ap (λ n. Ok (bool (n == 1))) (omega arith))
  rest_of_all predicates.Count items = count_rest 0 [] items ∙ same_then (those holds items) _ _ (λ found is. ap (λ n. Ok (whole (pos n))) (omega arith))
  rest_of_all predicates.Filter items = filter_rest 0 [] items

-- ---- one item

one_left : (values : List Value) (number : ℕ) (value : Value) → drop number values ≡ value ∷ drop (suc number) values
    → items_of (drop number values) ≡ item value (items_of (drop (number + 1) values))
one_left values number value is = rw (add-one, is) refl

module _ (predicate : Predicate) (holds : Value → Result Bool Failure) (values : List Value) (number : ℕ) (value : Value) (is : drop number values ≡ value ∷ drop (suc number) values) where
  rest_is : (counted : ℕ) (kept : List Value) → over_rest predicate holds counted kept (items_of (drop number values))
      ≡ (holds value >>= λ it. unless_decided (decided predicate it)
      (over_rest predicate holds (count_with predicate it counted) (kept_with predicate it value kept) (items_of (drop (number + 1) values))))
  rest_is counted kept = ap (λ items. over_rest predicate holds counted kept items) (one_left values number value is)

  -- the next item, where this one doesn't decide
  pub rest_after : (counted later : ℕ) (kept more : List Value) (it : Bool) (all : Meaning) → holds value ≡ Ok it → None ≡ decided predicate it
      → later ≡ count_with predicate it counted → more ≡ kept_with predicate it value kept
      → over_rest predicate holds counted kept (items_of (drop number values)) ≡ all → over_rest predicate holds later more (items_of (drop (number + 1) values)) ≡ all
  rest_after counted later kept more it all holds_is on later_is more_is left =
      rw (later_is, more_is)
      (ap (λ answer. unless_decided answer (over_rest predicate holds (count_with predicate it counted) (kept_with predicate it value kept) (items_of (drop (number + 1) values)))) on
      ∙ ap (λ m. m >>= λ it. unless_decided (decided predicate it) (over_rest predicate holds (count_with predicate it counted) (kept_with predicate it value kept) (items_of (drop (number + 1) values)))) (sym holds_is)
      ∙ sym (rest_is counted kept) ∙ left)

  -- an item that decides
  pub rest_decided : (counted : ℕ) (kept : List Value) (it : Bool) (answer : Value) (all : Meaning) → holds value ≡ Ok it → Some answer ≡ decided predicate it
      → over_rest predicate holds counted kept (items_of (drop number values)) ≡ all → all ≡ Ok answer
  rest_decided counted kept it answer all holds_is decides left =
      sym left ∙ rest_is counted kept
      ∙ ap (λ m. m >>= λ it. unless_decided (decided predicate it) (over_rest predicate holds (count_with predicate it counted) (kept_with predicate it value kept) (items_of (drop (number + 1) values)))) holds_is
      ∙ ap (λ answer. unless_decided answer (over_rest predicate holds (count_with predicate it counted) (kept_with predicate it value kept) (items_of (drop (number + 1) values)))) (sym decides)

  -- an item on which it fails
  pub rest_failed : (counted : ℕ) (kept : List Value) (failure : Failure) (all : Meaning) → holds value ≡ Err failure
      → over_rest predicate holds counted kept (items_of (drop number values)) ≡ all → all ≡ Err failure
  rest_failed counted kept failure all holds_is left =
      sym left ∙ rest_is counted kept
      ∙ ap (λ m. m >>= λ it. unless_decided (decided predicate it) (over_rest predicate holds (count_with predicate it counted) (kept_with predicate it value kept) (items_of (drop (number + 1) values)))) holds_is

pub none_within : (n m : ℕ) → n ≡ 0 → n ≤ m
none_within n m is = omega arith

-- ---- its lines

continues_on : (predicate : Predicate) (it : Bool) → None ≡ decided predicate it → continues predicate it ≡ true
continues_on predicates.All true on = refl
continues_on predicates.All false on = absurd cc
continues_on predicates.Any true on = absurd cc
continues_on predicates.Any false on = refl
continues_on predicates.None true on = absurd cc
continues_on predicates.None false on = refl
continues_on predicates.One it on = refl
continues_on predicates.Count it on = refl
continues_on predicates.Filter it on = refl

ends : (predicate : Predicate) (it : Bool) (answer : Value) → Some answer ≡ decided predicate it → continues predicate it ≡ false
ends predicates.All true answer decides = absurd cc
ends predicates.All false answer decides = refl
ends predicates.Any true answer decides = refl
ends predicates.Any false answer decides = absurd cc
ends predicates.None true answer decides = refl
ends predicates.None false answer decides = absurd cc
ends predicates.One it answer decides = absurd cc
ends predicates.Count it answer decides = absurd cc
ends predicates.Filter it answer decides = absurd cc

-- whether no item comes after one
at_end_is : (values : List Value) (number : ℕ) (same : Bool) → (number + 1 == length values) ≡ same → number < length values → is_empty (items_of (drop (number + 1) values)) ≡ same
at_end_is values number true e within = rw (drop_of_length-le values (let m : length values ≤ number + 1 = grind (arith, nat_tests) in m)) refl
at_end_is [] number false e within = absurd (omega arith)
at_end_is (value ∷ values) number false e within =
    rw (drop-cons (value ∷ values) (number + 1) value (let m : number + 1 < length (value ∷ values) = grind (arith, nat_tests) in m)) refl

module _ (place : Place) (predicate : Predicate) (body : Typed) (holds : Value → Result Bool Failure) (said : Value → List Line) (seen : Seen) (values : List Value) (number : ℕ) (value : Value)
    (is : drop number values ≡ value ∷ drop (suc number) values) (within : number < length values) (at_end : Bool) (at_end_as : at_end ≡ (number + 1 == length values))
    (old new : ExplanationCode) (all : Explanation)
    (left : with_lines_at place old (each_item_lines predicate body holds said seen number (items_of (drop number values))) ≡ all)
    (one : explanation_view new ≡ with_lines_at place old (item_lines predicate body seen number at_end (holds value) (said value))) where
  abbrev rest : Bool → List Line
  rest it = each_item_lines predicate body holds said (after_item predicate seen it) (number + 1) (items_of (drop (number + 1) values))

  abbrev later : Bool → List Line
  later it = if continues predicate it then rest it else []

  left_is : with_lines_at place old (item_lines predicate body seen number at_end (holds value) (said value) ++ if_value (holds value) later) ≡ all
  left_is =
      rw (at_end_as, ← at_end_is values number (number + 1 == length values) refl within)
      (subst (λ n. with_lines_at place old (item_lines predicate body seen number (is_empty (items_of (drop (number + 1) values))) (holds value) (said value)
      ++ if_value (holds value) (λ it. if continues predicate it then each_item_lines predicate body holds said (after_item predicate seen it) n (items_of (drop (number + 1) values)) else [])) ≡ all) (omega arith)
      (subst (λ items. with_lines_at place old (each_item_lines predicate body holds said seen number items) ≡ all) (one_left values number value is) left))

  pub lines_after : (it : Bool) (more : Seen) → holds value ≡ Ok it → None ≡ decided predicate it → more ≡ after_item predicate seen it
      → with_lines_at place new (each_item_lines predicate body holds said more (number + 1) (items_of (drop (number + 1) values))) ≡ all
  lines_after it more holds_is on after =
      ap (λ seen. with_lines_at place new (each_item_lines predicate body holds said seen (number + 1) (items_of (drop (number + 1) values)))) after
      ∙ subst (λ b. with_lines_at place new (if b then rest it else []) ≡ all) (continues_on predicate it on)
      (lines_go_on place old new (item_lines predicate body seen number at_end (holds value) (said value)) (holds value) it later all holds_is left_is one)

  pub lines_decided : (it : Bool) (answer : Value) → holds value ≡ Ok it → Some answer ≡ decided predicate it → explanation_view new ≡ all
  lines_decided it answer holds_is decides =
      subst (λ b. with_lines_at place new (if b then rest it else []) ≡ all) (ends predicate it answer decides)
      (lines_go_on place old new (item_lines predicate body seen number at_end (holds value) (said value)) (holds value) it later all holds_is left_is one)

  pub lines_failed : (failure : Failure) → holds value ≡ Err failure → explanation_view new ≡ all
  lines_failed failure holds_is = lines_end place old new (item_lines predicate body seen number at_end (holds value) (said value)) (holds value) failure later all holds_is left_is one

-- ---- items of list literals

next_tree : (trees : List TypedCode) (index : ℕ) (tree : TypedCode) → index < length trees → tree ≡ get_or trees index tree
    → typeds_view (drop index trees) ≡ typed.more (typed_view tree) (typeds_view (drop (index + 1) trees))
next_tree trees index tree within is =
    ap typeds_view (drop-cons trees index tree within ∙ ap (λ first. first ∷ drop (suc index) trees) (sym is)) ∙ rw add-one refl

item_made : (m : Meaning) (others : Result Items Failure) (value : Value) (made : List Value) → (m >>= scalar_item) ≡ Ok value
    → after_made made (m >>= λ v. scalar_item v >>= λ scalar. others >>= λ items. Ok (item scalar items)) ≡ after_made (made ++ value ∷ []) others
item_made (Ok v) others value made is = of_scalar (scalar_item v) others is where
  of_scalar : (scalar : Meaning) (others : Result Items Failure) → scalar ≡ Ok value
      → after_made made (scalar >>= λ scalar. others >>= λ items. Ok (item scalar items)) ≡ after_made (made ++ value ∷ []) others
  of_scalar scalar (Ok items) is = rw is (ap (λ items. Ok items) (sym (one_prepended (λ v. Err ill_kinded) made value items)))
  of_scalar scalar (Err failure) is = rw is refl
item_made (Err failure) others value made is = absurd cc

item_failed : (m : Meaning) (others : Result Items Failure) (failure : Failure) (made : List Value) → (m >>= scalar_item) ≡ Err failure
    → after_made made (m >>= λ v. scalar_item v >>= λ scalar. others >>= λ items. Ok (item scalar items)) ≡ Err failure
item_failed (Ok v) others failure made is = rw is refl
item_failed (Err other) others failure made is = cc

-- where an item is a scalar, the list fails on another one
scalar_there : (m : Meaning) (value : Value) (later : Option Text) → (m >>= scalar_item) ≡ Ok value → on_value m (λ v. refused_or (scalar_item v) v later) ≡ later
scalar_there (Ok v) value later is = ap (λ scalar. refused_or scalar v later) is
scalar_there (Err failure) value later is = absurd cc

-- where it is none, the list fails on it
scalar_fails : (m : Meaning) (failure : Failure) (later : Option Text) → (m >>= scalar_item) ≡ Err failure
    → on_value m (λ v. refused_or (scalar_item v) v None) ≡ on_value m (λ v. refused_or (scalar_item v) v later)
scalar_fails (Ok v) failure later is = ap (λ scalar. refused_or scalar v None) is ∙ ap (λ scalar. refused_or scalar v later) (sym is)
scalar_fails (Err other) failure later is = refl

module _ (place : Place) (trees : List TypedCode) (index : ℕ) (tree : TypedCode) (within : index < length trees) (is : tree ≡ get_or trees index tree) where
  pub items_after : (made more : List Value) (value : Value) (all : Result Items Failure) → scalar_meant place (typed_view tree) ≡ Ok value → more ≡ made ++ value ∷ []
      → after_made made (items_meant place (typeds_view (drop index trees))) ≡ all → after_made more (items_meant place (typeds_view (drop (index + 1) trees))) ≡ all
  items_after made more value all met one_more left =
      rw one_more
      (sym (item_made (meant place (typed_view tree)) (items_meant place (typeds_view (drop (index + 1) trees))) value made met)
      ∙ ap (λ trees. after_made made (items_meant place trees)) (sym (next_tree trees index tree within is)) ∙ left)

  pub items_failed : (made : List Value) (failure : Failure) (all : Result Items Failure) → scalar_meant place (typed_view tree) ≡ Err failure
      → after_made made (items_meant place (typeds_view (drop index trees))) ≡ all → all ≡ Err failure
  items_failed made failure all met left =
      sym left ∙ ap (λ trees. after_made made (items_meant place trees)) (next_tree trees index tree within is)
      ∙ item_failed (meant place (typed_view tree)) (items_meant place (typeds_view (drop (index + 1) trees))) failure made met

  pub failed_after : (value : Value) (all : Option Text) → scalar_meant place (typed_view tree) ≡ Ok value
      → items_failed_at place (typeds_view (drop index trees)) ≡ all → items_failed_at place (typeds_view (drop (index + 1) trees)) ≡ all
  failed_after value all met left =
      sym (scalar_there (meant place (typed_view tree)) value (items_failed_at place (typeds_view (drop (index + 1) trees))) met)
      ∙ ap (λ trees. items_failed_at place trees) (sym (next_tree trees index tree within is)) ∙ left

  pub failed_here : (failure : Failure) (on all : Option Text) → scalar_meant place (typed_view tree) ≡ Err failure → on ≡ scalar_failed_at place (typed_view tree)
      → items_failed_at place (typeds_view (drop index trees)) ≡ all → on ≡ all
  failed_here failure on all met on_is left =
      on_is ∙ scalar_fails (meant place (typed_view tree)) failure (items_failed_at place (typeds_view (drop (index + 1) trees))) met
      ∙ ap (λ trees. items_failed_at place trees) (sym (next_tree trees index tree within is)) ∙ left

  module _ (old new : ExplanationCode) (all : Explanation) (left : with_lines_at place old (items_lines_at place (typeds_view (drop index trees))) ≡ all)
      (one : explanation_view new ≡ with_lines_at place old (lines_at place (typed_view tree))) where
    tree_left : with_lines_at place old (lines_at place (typed_view tree) ++ if_value (scalar_meant place (typed_view tree)) (λ value. items_lines_at place (typeds_view (drop (index + 1) trees)))) ≡ all
    tree_left = ap (λ trees. with_lines_at place old (items_lines_at place trees)) (sym (next_tree trees index tree within is)) ∙ left

    pub item_lines_after : (value : Value) → scalar_meant place (typed_view tree) ≡ Ok value → with_lines_at place new (items_lines_at place (typeds_view (drop (index + 1) trees))) ≡ all
    item_lines_after value met =
        lines_go_on place old new (lines_at place (typed_view tree)) (scalar_meant place (typed_view tree)) value (λ value. items_lines_at place (typeds_view (drop (index + 1) trees))) all met tree_left one

    pub item_lines_failed : (failure : Failure) → scalar_meant place (typed_view tree) ≡ Err failure → explanation_view new ≡ all
    item_lines_failed failure met =
        lines_end place old new (lines_at place (typed_view tree)) (scalar_meant place (typed_view tree)) failure (λ value. items_lines_at place (typeds_view (drop (index + 1) trees))) all met tree_left one

pub no_tree_left : (trees : List TypedCode) (index : ℕ) → length trees ≤ index → typeds_view (drop index trees) ≡ typed.none
no_tree_left trees index past = ap typeds_view (drop_of_length-le trees past)

-- no item is left of a list literal
pub all_items_made : (place : Place) (trees : List TypedCode) (index : ℕ) (made : List Value) (all : Result Items Failure) → length trees ≤ index
    → after_made made (items_meant place (typeds_view (drop index trees))) ≡ all → all ≡ Ok (items_of made)
all_items_made place trees index made all past left =
    sym left ∙ ap (λ trees. after_made made (items_meant place trees)) (no_tree_left trees index past) ∙ ap (λ items. Ok items) (sym (none_prepended (λ v. Err ill_kinded) made))

pub all_lines_said : (place : Place) (trees : List TypedCode) (index : ℕ) (new : ExplanationCode) (all : Explanation) → length trees ≤ index
    → with_lines_at place new (items_lines_at place (typeds_view (drop index trees))) ≡ all → explanation_view new ≡ all
all_lines_said place trees index new all past left =
    ap (λ trees. with_lines_at place new (items_lines_at place trees)) (sym (no_tree_left trees index past)) ∙ left
